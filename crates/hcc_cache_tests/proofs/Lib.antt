pub mod Storable
pub mod Staged

pub mod Blocks
pub mod Sources
pub mod Reads
pub mod Tags
pub mod Texts

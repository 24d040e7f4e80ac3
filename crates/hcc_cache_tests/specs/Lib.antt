pub mod Chains
pub mod Staged

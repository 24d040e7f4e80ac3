pub mod Lying
pub mod Named
pub mod Held
pub mod Handed
pub mod Steps
pub mod Counted

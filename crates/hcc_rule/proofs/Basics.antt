pub mod Lists
pub mod Findings
pub mod Records
pub mod Bounds
pub mod Different

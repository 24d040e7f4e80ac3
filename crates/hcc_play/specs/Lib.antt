pub mod CommandLine
pub mod Lines
pub mod Parsed
pub mod Plays
pub mod Requests
pub mod Settings
pub mod Status
pub mod Values

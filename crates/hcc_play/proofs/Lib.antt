pub mod Asking
pub mod Commands
pub mod Endings
pub mod Lines
pub mod Parsing
pub mod Reading
pub mod Settling

pub mod ClosingSums
pub mod ClosingClients
pub mod ClosingSlots
pub mod Closings
pub mod Endings

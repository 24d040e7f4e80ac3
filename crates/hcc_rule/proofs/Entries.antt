pub mod Occupies
pub mod Empties
pub mod Writes
pub mod DataWords
pub mod ShowParts
pub mod Shows
pub mod Frees
pub mod Glimpses

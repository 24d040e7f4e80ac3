pub mod NewSeats
pub mod Hands
pub mod Serials

pub mod Backs
pub mod Copies
pub mod Holders
pub mod ObjectBacks
pub mod ObjectPlaces
pub mod Places

pub mod Looks
pub mod Gives
pub mod Spends
pub mod Bits
pub mod Exchanges
pub mod Reaches
pub mod Acquires

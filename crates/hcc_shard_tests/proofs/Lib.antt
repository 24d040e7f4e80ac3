pub mod Bytes
pub mod ChargeGuests
pub mod Placings
pub mod ShardGuests

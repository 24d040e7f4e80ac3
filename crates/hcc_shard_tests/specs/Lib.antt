pub mod Handles
pub mod ChargeGuests
pub mod ShardGuests

pub mod Fillings
pub mod Payloads
pub mod Puts

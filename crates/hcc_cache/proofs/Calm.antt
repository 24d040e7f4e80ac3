pub mod Stretches
pub mod Finds
pub mod Fewer
pub mod Hides
pub mod OtherClients
pub mod Inserts
pub mod Alone

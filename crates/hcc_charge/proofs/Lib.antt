pub mod Sweepings
pub mod Visitings
pub mod Turnings
pub mod Reservings
pub mod Answered
pub mod Askings
pub mod Stayings

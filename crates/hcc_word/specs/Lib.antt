pub mod Word
pub mod Code
pub mod Near
pub mod Changes
pub mod Seeding

pub mod Swept
pub mod Evicted
pub mod Settled
pub mod Reserved
pub mod Asked

pub mod LeastHolder
pub mod JoinedSeats
pub mod MostKnown
pub mod JoinedMadeLists
pub mod WithoutHandles
pub mod ClosedShards
pub mod SumsOverShards
pub mod OneClientClosed

pub mod PowersOfTwo
pub mod ConfigRanges
pub mod ShardMasks
pub mod FoundByName
pub mod SlabSums
pub mod Lists

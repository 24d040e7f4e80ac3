pub mod ShardByShard
pub mod AllComesBack
pub mod ClosedAgain

pub mod Begun
pub mod Passed
pub mod Hidden
pub mod Met
pub mod NeverAgain
pub mod Taken
pub mod Short
pub mod Answered

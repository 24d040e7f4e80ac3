pub mod KnownAfterInsertion
pub mod LetGo
pub mod AnswersTold
pub mod StandaloneEntry
pub mod HandleOnInserted
pub mod WithoutEviction
pub mod PlacedShown

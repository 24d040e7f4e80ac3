pub mod AloneAfterwards
pub mod ListsKept
pub mod NewClients
pub mod ObjectsBack
pub mod ObjectsWalked
pub mod WordsOfObjects

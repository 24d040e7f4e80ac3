pub mod MissedOrErasedKeys
pub mod KnownAfterLookup
pub mod ReadByHandle
pub mod ReadByKey
pub mod HeldAtSlots
pub mod FoundAsMade
pub mod WalkedSlots

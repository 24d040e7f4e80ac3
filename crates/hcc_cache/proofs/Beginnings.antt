pub mod NewClientsDealt
pub mod KnowingNothing
pub mod DraftSlots
pub mod DraftsFilled
pub mod ReopenedClientsDealt
pub mod ReopenedShards
pub mod AllComeIn
pub mod BegunShown

-- What slots show, and by which events that ends.
use Rattle.std.specs.Prelude.{◌≡◌, ℕ, Bool, true, false, Option, Some, None, slice_get}
use Rattle.std.specs.Prelude.{option_and_then, if◌then◌else◌}
use Rattle.hcc_core.specs.declared.slot.Entry.{Entry}
use Rattle.hcc_core.specs.declared.slot.Slot.{Slot}
use Rattle.hcc_core.specs.declared.slot.Slot.TheVariants as slots
use Rattle.hcc_core.specs.declared.event.Event.{Event}
use Rattle.hcc_core.specs.declared.event.Event.TheVariants as events
use Rattle.hcc_core.specs.declared.event.Reply.{Reply}
use Rattle.hcc_core.specs.declared.event.Reply.TheVariants as replies
use Rattle.hcc_core.specs.World.{State, slot_holding}

-- the entry that a slot shows, and that a slot of a world does
abbrev pub entry_shown : Slot → Option Entry
entry_shown (slots.Empty strays) = None
entry_shown (slots.Building client strays) = None
entry_shown (slots.Shareable r) = if r.shown then Some r.entry else None

abbrev pub shown_at : State → (slot : ℕ) → Option Entry
shown_at world slot = option_and_then entry_shown (slice_get world.slots slot)

-- the event takes away what this slot shows, if it is allowed: it hides the entry by a reference
-- that stands there, or frees the slot
abbrev pub TakesShown : (slot : ℕ) → State → Event → Type 0
TakesShown slot world (events.Hide client name) =
    slot_holding world.slots client name ≡ Some slot
TakesShown slot world (events.Free client freed name) = freed ≡ slot
TakesShown slot world other = ⊥

-- whether it is an event that may: a hide or a free
abbrev pub may_take : Event → Bool
may_take (events.Hide client name) = true
may_take (events.Free client slot name) = true
may_take other = false

-- the reply of such an event, where it took an entry away that was shown
abbrev pub TellsTaken : Event → Reply → Type 0
TellsTaken (events.Hide client name) reply = reply ≡ replies.Hid
TellsTaken (events.Free client slot name) reply = (charge : ℕ) × (reply ≡ replies.Freed charge)
TellsTaken other reply = ⊥

-- whether it is an event that may change what slots show
abbrev pub changes_shown : Event → Bool
changes_shown (events.Show client key0 key1 charge countdown name value) = true
changes_shown (events.Hide client name) = true
changes_shown (events.Free client slot name) = true
changes_shown other = false

-- The steps on uses and marks: an entry is counted down, marked as hit, or corrected.
use Rattle.std.specs.Prelude.{ℕ, ◌-◌, min, Bool, true, false, ◌&&◌, nat_lt, nat_le, Ok, is_none}
use Rattle.hcc_core.specs.declared.limits.TheConstants.{MOST_CLOCKED, NEAR, CORRECTION}
use Rattle.hcc_core.specs.declared.slot.Slot.{Slot}
use Rattle.hcc_core.specs.declared.slot.Slot.TheVariants as slots
use Rattle.hcc_core.specs.declared.event.Reply.TheVariants as replies
use Rattle.hcc_core.specs.World.{State, references_of, uses_of}
use Rattle.hcc_core.specs.Outcomes.{◌>>=◌, Outcome, allow, slot_at, live_at, holding, with_both}
use Rattle.hcc_core.specs.Outcomes.{has_no_member, with_slot}
use Rattle.hcc_core.specs.References.{client_noticed, counting_in}

-- Clock.

-- what a clock visit makes of the uses
abbrev pub clocked : ℕ → ℕ
clocked uses = min (uses - 1) MOST_CLOCKED

abbrev pub may_clock : Slot → Bool
may_clock (slots.Empty strays) = false
may_clock (slots.Building client strays) = false
may_clock (slots.Shareable r) = r.shown && has_no_member r.references && nat_lt 0 r.uses

abbrev pub slot_with_uses : ℕ → Slot → Slot
slot_with_uses uses (slots.Empty strays) = slots.Empty strays
slot_with_uses uses (slots.Building client strays) = slots.Building client strays
slot_with_uses uses (slots.Shareable r) = slots.Shareable (record r { uses = uses })

unfoldable pub clock_of : State → ℕ → ℕ → Outcome
clock_of world client slot = do
  seen ← slot_at world slot
  found ← live_at world client
  may ← allow (may_clock seen)
  let uses = clocked (uses_of seen)
  Ok (replies.Uses uses, with_slot world slot (slot_with_uses uses seen))

-- Mark.

abbrev pub slot_marked : Slot → Slot
slot_marked (slots.Empty strays) = slots.Empty strays
slot_marked (slots.Building client strays) = slots.Building client strays
slot_marked (slots.Shareable r) = slots.Shareable (record r { hit = true })

unfoldable pub mark_of : State → ℕ → ℕ → Outcome
mark_of world client name = do
  found ← live_at world client
  slot ← holding world client name
  seen ← slot_at world slot
  Ok (replies.Ok, with_both world slot (slot_marked seen) client (client_noticed client seen found))

-- Correct.

-- this client's reference of this name doesn't count, and the uses are near their bound
abbrev pub may_correct : ℕ → ℕ → Slot → Bool
may_correct client name seen =
    is_none (counting_in client name (references_of seen)) && nat_le NEAR (uses_of seen)

unfoldable pub correct_of : State → ℕ → ℕ → Outcome
correct_of world client name = do
  found ← live_at world client
  slot ← holding world client name
  seen ← slot_at world slot
  may ← allow (may_correct client name seen)
  let left = slot_with_uses (uses_of seen - CORRECTION) seen
  Ok (replies.Ok, with_both world slot left client (client_noticed client seen found))

-- What an event comes to: a refusal, or the reply and the world after it.
-- A step reads what it needs, in the order in which refusals are due, and then says both.
use Rattle.std.specs.Prelude.{ℕ, Bool, true, false, List, [], ◌∷◌, Option, Some, None, Result, Ok}
use Rattle.std.specs.Prelude.{Err, slice_get, slice_set, if◌then◌else◌}
use Rattle.std.specs.Option.{ok_or}
use Rattle.hcc_core.specs.declared.client.Client.{Client}
use Rattle.hcc_core.specs.declared.slot.Slot.{Slot}
use Rattle.hcc_core.specs.declared.event.Reply.{Reply}
use Rattle.hcc_core.specs.declared.event.CoreError.{CoreError}
use Rattle.hcc_core.specs.declared.event.CoreError.TheVariants.{NoSuchSlot, NoSuchClient}
use Rattle.hcc_core.specs.declared.event.CoreError.TheVariants.{NotAllowed}
use Rattle.hcc_core.specs.World.{State, slot_holding}

-- a refusal, or the reply and the world after it
abbrev pub Outcome : Type 0
Outcome = Result (Reply × State) CoreError

abbrev pub is_made : Outcome → Bool
is_made (Ok done) = true
is_made (Err error) = false

infixl 10 ◌>>=◌
abbrev pub ◌>>=◌ : {A B : Type 0} → Result A CoreError → (A → Result B CoreError)
    → Result B CoreError
(Ok x) >>= f = f x
(Err e) >>= f = Err e

-- What a step reads.

-- what isn't so is not allowed
abbrev pub allow : Bool → Result (Unit {0}) CoreError
allow true = Ok tt
allow false = Err NotAllowed

-- the slot of this number
abbrev pub slot_at : State → ℕ → Result Slot CoreError
slot_at world slot = ok_or (slice_get world.slots slot) NoSuchSlot

-- the client of this number, and that client where it is live
abbrev pub client_at : State → ℕ → Result Client CoreError
client_at world client = ok_or (slice_get world.clients client) NoSuchClient

abbrev pub live_at : State → ℕ → Result Client CoreError
live_at world client = do
  found ← client_at world client
  live ← allow found.live
  Ok found

-- why no live client has this number
abbrev pub why_not : Option Client → Option CoreError
why_not None = Some NoSuchClient
why_not (Some found) = if found.live then None else Some NotAllowed

abbrev pub why_not_live : List Client → ℕ → Option CoreError
why_not_live clients client = why_not (slice_get clients client)

-- the slot on which a client holds a name
abbrev pub holding : State → ℕ → ℕ → Result ℕ CoreError
holding world client name = ok_or (slot_holding world.slots client name) NotAllowed

-- What a step leaves.

abbrev pub with_client : State → ℕ → Client → State
with_client world client changed = record world { clients = slice_set world.clients client changed }

abbrev pub with_slot : State → ℕ → Slot → State
with_slot world slot left = record world { slots = slice_set world.slots slot left }

abbrev pub with_both : State → ℕ → Slot → ℕ → Client → State
with_both world slot left client changed =
    record world {
      slots = slice_set world.slots slot left;
      clients = slice_set world.clients client changed;
    }

-- Of a list.

abbrev pub has_no_member : {A : Type 0} → List A → Bool
has_no_member [] = true
has_no_member (x ∷ xs) = false

-- the list without its first member that passes
abbrev pub dropped : {A : Type 0} → (A → Bool) → List A → List A
dropped test [] = []
dropped test (x ∷ xs) = if test x then xs else x ∷ dropped test xs

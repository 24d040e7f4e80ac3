-- The steps that move entries: a slot is occupied, written and shown, its entry is read and hidden,
-- and the slot is freed and emptied.
use Rattle.std.specs.Prelude.{ℕ, ◌+◌, ◌-◌, ◌<◌, ◌≤◌, Bool, true, false, ◌&&◌, ◌==◌, nat_lt, nat_le}
use Rattle.std.specs.Prelude.{List, [], ◌∷◌, Option, Some, None, Result, Ok, Err, is_none}
use Rattle.std.specs.Prelude.{if◌then◌else◌}
use Rattle.std.specs.Option.{ok_or}
use Rattle.hcc_core.specs.declared.limits.TheConstants.{MOST_COUNTDOWN, STAMPS_PER_CLIENT}
use Rattle.hcc_core.specs.declared.slot.Reference.{Reference}
use Rattle.hcc_core.specs.declared.slot.Resident.{Resident}
use Rattle.hcc_core.specs.declared.client.Client.{Client}
use Rattle.hcc_core.specs.declared.slot.Slot.{Slot}
use Rattle.hcc_core.specs.declared.slot.Slot.TheVariants as slots
use Rattle.hcc_core.specs.declared.client.Owned.{Owned}
use Rattle.hcc_core.specs.declared.client.Owned.TheVariants as owned
use Rattle.hcc_core.specs.declared.client.Place.TheVariants as places
use Rattle.hcc_core.specs.declared.event.Reply.{Reply}
use Rattle.hcc_core.specs.declared.event.Reply.TheVariants as replies
use Rattle.hcc_core.specs.declared.event.CoreError.{CoreError}
use Rattle.hcc_core.specs.declared.event.CoreError.TheVariants.{NotAllowed}
use Rattle.hcc_core.specs.World.{State, is_shareable, references_of, charge_of, trail_of, is_named}
use Rattle.hcc_core.specs.World.{slot_holding, is_granted, owns_nothing}
use Rattle.hcc_core.specs.Outcomes.{◌>>=◌, Outcome, allow, slot_at, live_at, holding, with_both}
use Rattle.hcc_core.specs.Outcomes.{has_no_member}
use Rattle.hcc_core.specs.Lawful.{shown_stamp}
use Rattle.hcc_core.specs.References.{noticed, look_of, client_noticed}

-- Occupy.

-- the strays of an empty slot
abbrev pub strays_if_empty : Slot → Option ℕ
strays_if_empty (slots.Empty strays) = Some strays
strays_if_empty (slots.Building client strays) = None
strays_if_empty (slots.Shareable r) = None

-- an empty slot is taken, and any other is looked at
abbrev pub occupied : State → ℕ → Client → ℕ → Slot → Outcome
occupied world client found slot (slots.Empty strays) =
    Ok (
      replies.Taken,
      with_both world slot (slots.Building client strays) client
          (record found { owned = owned.ForBuilding slot }),
    )
occupied world client found slot (slots.Building other strays) = look_of world client slot
occupied world client found slot (slots.Shareable r) = look_of world client slot

abbrev pub occupy_of : State → ℕ → ℕ → Outcome
occupy_of world client slot = do
  seen ← slot_at world slot
  found ← live_at world client
  free ← allow (owns_nothing found.owned)
  occupied world client found slot seen

-- Write.

abbrev pub is_building : Owned → Bool
is_building owned.Nothing = false
is_building (owned.ForBuilding slot) = true
is_building (owned.ForFreeing slot) = false

abbrev pub write_of : State → ℕ → Outcome
write_of world client = do
  found ← live_at world client
  builds ← allow (is_building found.owned)
  Ok (replies.Ok, world)

-- Show.

-- the slot that is owned for building
abbrev pub built_by : Owned → Option ℕ
built_by owned.Nothing = None
built_by (owned.ForBuilding slot) = Some slot
built_by (owned.ForFreeing slot) = None

-- no reference of this client has the name
abbrev pub is_fresh : List Slot → ℕ → Option ℕ → Bool
is_fresh all client None = true
is_fresh all client (Some name) = is_none (slot_holding all client name)

unfoldable pub may_show : List Slot → ℕ → Client → ℕ → ℕ → Option ℕ → Bool
may_show all client found charge countdown name =
    is_granted found.place && found.needed == 0 && nat_le charge found.granted
    && nat_le 1 countdown && nat_le countdown MOST_COUNTDOWN && is_fresh all client name
    && nat_lt found.stamps STAMPS_PER_CLIENT

-- what of the test of a show the arithmetic of the step needs
pub record AllowsShow (found : Client) (charge countdown : ℕ) : Type 0 where
  pub granted : charge ≤ found.granted
  pub some_use : 1 ≤ countdown
  pub stamps : found.stamps < STAMPS_PER_CLIENT

-- the references of an entry that is shown with this name
abbrev pub first_references : ℕ → Option ℕ → List Reference
first_references client None = []
first_references client (Some name) =
    record { client = client; name = name; weight = 1; counting = true } ∷ []

-- its uses: the reference that is kept stands for one
abbrev pub first_uses : ℕ → Option ℕ → ℕ
first_uses countdown None = countdown
first_uses countdown (Some name) = countdown - 1

abbrev pub resident_new : ℕ → Client → ℕ → ℕ → ℕ → ℕ → Option ℕ → List ℕ → Resident
resident_new client found key0 key1 charge countdown name value = record {
  shown = true;
  entry = record {
    key0 = key0;
    key1 = key1;
    stamp = record { client = client; number = found.stamps };
    value = value;
    charge = charge;
  };
  trail = found.trail;
  references = first_references client name;
  uses = first_uses countdown name;
  hit = false;
}

abbrev pub client_shown : ℕ → Client → Client
client_shown charge found = record found {
  stamps = found.stamps + 1;
  granted = found.granted - charge;
  place = places.Absent;
  trail = [];
  owned = owned.Nothing;
}

unfoldable pub show_of : State → ℕ → ℕ → ℕ → ℕ → ℕ → Option ℕ → List ℕ → Outcome
show_of world client key0 key1 charge countdown name value = do
  found ← live_at world client
  slot ← ok_or (built_by found.owned) NotAllowed
  may ← allow (may_show world.slots client found charge countdown name)
  let left = slots.Shareable (resident_new client found key0 key1 charge countdown name value)
  Ok (replies.Ok, with_both world slot left client (client_shown charge found))

-- Read.

-- the entry of a slot
abbrev pub entry_read : Slot → Result Reply CoreError
entry_read (slots.Empty strays) = Err NotAllowed
entry_read (slots.Building client strays) = Err NotAllowed
entry_read (slots.Shareable r) = Ok (replies.Entry r.entry.key0 r.entry.key1 r.entry.value)

unfoldable pub read_of : State → ℕ → ℕ → Outcome
read_of world client name = do
  found ← live_at world client
  slot ← holding world client name
  seen ← slot_at world slot
  entry ← entry_read seen
  Ok (entry, world)

-- Peek: which entry is shown in the slot, and nothing changes.

unfoldable pub peek_of : State → ℕ → ℕ → Outcome
peek_of world client slot = do
  seen ← slot_at world slot
  found ← live_at world client
  Ok (replies.Shows (shown_stamp seen), world)

-- Hide.

abbrev pub slot_hidden : Slot → Slot
slot_hidden (slots.Empty strays) = slots.Empty strays
slot_hidden (slots.Building client strays) = slots.Building client strays
slot_hidden (slots.Shareable r) = slots.Shareable (record r { shown = false })

abbrev pub is_shown : Slot → Bool
is_shown (slots.Empty strays) = false
is_shown (slots.Building client strays) = false
is_shown (slots.Shareable r) = r.shown

abbrev pub hidden : Slot → Reply
hidden slot = if is_shown slot then replies.Hid else replies.Again

unfoldable pub hide_of : State → ℕ → ℕ → Outcome
hide_of world client name = do
  found ← live_at world client
  slot ← holding world client name
  seen ← slot_at world slot
  let left = slot_hidden seen
  Ok (hidden seen, with_both world slot left client (client_noticed client left found))

-- Free.

-- no reference, or only the taker's own of weight 1 under the name that it gives
abbrev pub is_free_for : ℕ → Option ℕ → List Reference → Bool
is_free_for client None [] = true
is_free_for client None (k ∷ ks) = false
is_free_for client (Some name) [] = false
is_free_for client (Some name) (k ∷ ks) =
    is_named client name k && k.weight == 1 && has_no_member ks

abbrev pub may_free : ℕ → Client → Slot → Option ℕ → Bool
may_free client found seen name =
    owns_nothing found.owned && has_no_member found.trail && is_shareable seen
    && is_free_for client name (references_of seen)

abbrev pub client_freeing : ℕ → ℕ → Slot → Client → Client
client_freeing client slot seen found = record found {
  owned = owned.ForFreeing slot;
  trail = trail_of seen;
  freed = found.freed + charge_of seen;
  freed_slots = found.freed_slots + 1;
  dead = noticed client seen found.dead;
}

unfoldable pub free_of : State → ℕ → ℕ → Option ℕ → Outcome
free_of world client slot name = do
  seen ← slot_at world slot
  found ← live_at world client
  may ← allow (may_free client found seen name)
  let left = slots.Building client 0
  Ok (
    replies.Freed (charge_of seen),
    with_both world slot left client (client_freeing client slot seen found),
  )

-- Empty.

-- the slot that is owned for freeing
abbrev pub freed_by : Owned → Option ℕ
freed_by owned.Nothing = None
freed_by (owned.ForBuilding slot) = None
freed_by (owned.ForFreeing slot) = Some slot

unfoldable pub empty_of : State → ℕ → Outcome
empty_of world client = do
  found ← live_at world client
  slot ← ok_or (freed_by found.owned) NotAllowed
  back ← allow (has_no_member found.trail)
  Ok (
    replies.Ok,
    with_both world slot (slots.Empty 0) client (record found { owned = owned.Nothing }),
  )

-- The steps on clients and references: a client starts and ends, looks at a slot, acquires there,
-- and gives the reference back, or uses it.
use Rattle.std.specs.Prelude.{ℕ, ◌+◌, ◌*◌, Bool, true, false, ◌&&◌, ◌||◌, ◌==◌, not, nat_le, List}
use Rattle.std.specs.Prelude.{[], ◌∷◌, ◌++◌, Option, Some, None, Ok, is_none, if◌then◌else◌}
use Rattle.std.specs.Option.{ok_or}
use Rattle.std.specs.List.{list_any}
use Rattle.hcc_core.specs.declared.limits.TheConstants.{REFERENCES_PER_CLIENT, MOST_WEIGHT}
use Rattle.hcc_core.specs.declared.setup.Setup.{Setup}
use Rattle.hcc_core.specs.declared.slot.Stamp.{Stamp}
use Rattle.hcc_core.specs.declared.slot.Reference.{Reference}
use Rattle.hcc_core.specs.declared.client.Client.{Client}
use Rattle.hcc_core.specs.declared.slot.Slot.{Slot}
use Rattle.hcc_core.specs.declared.slot.Slot.TheVariants as slots
use Rattle.hcc_core.specs.declared.event.Reply.{Reply}
use Rattle.hcc_core.specs.declared.event.Reply.TheVariants as replies
use Rattle.hcc_core.specs.declared.event.CoreError.TheVariants.{NotAllowed}
use Rattle.hcc_core.specs.World.{State, phase_of, is_shareable, references_of, hidden_stamp}
use Rattle.hcc_core.specs.World.{weight_of, counts_in, is_named, reference_in, has_client}
use Rattle.hcc_core.specs.World.{slot_holding, owns_nothing, is_absent}
use Rattle.hcc_core.specs.Outcomes.{◌>>=◌, Outcome, allow, slot_at, client_at, live_at, holding}
use Rattle.hcc_core.specs.Outcomes.{dropped}
use Rattle.hcc_core.specs.Outcomes.{with_client, with_both, has_no_member}

-- What a client has seen dead.

-- the stamp of an entry that is hidden, where this client holds a reference on it
abbrev pub dead_to : ℕ → Slot → Option Stamp
dead_to client slot = if has_client client slot then hidden_stamp slot else None

abbrev pub is_stamp : Stamp → Stamp → Bool
is_stamp a b = (a.client == b.client) && (a.number == b.number)

-- the list with the stamp at its end, unless it is there
abbrev pub joined : List Stamp → Option Stamp → List Stamp
joined dead None = dead
joined dead (Some stamp) = if list_any (is_stamp stamp) dead then dead else dead ++ stamp ∷ []

-- a client's dead list once it found this slot
abbrev pub noticed : ℕ → Slot → List Stamp → List Stamp
noticed client slot dead = joined dead (dead_to client slot)

abbrev pub client_noticed : ℕ → Slot → Client → Client
client_noticed client seen found = record found { dead = noticed client seen found.dead }

-- Start and end.

abbrev pub start_of : State → ℕ → Outcome
start_of world client = do
  found ← client_at world client
  idle ← allow (not found.live)
  Ok (replies.Ok, with_client world client (record found { live = true }))

-- no slot has a reference of this client
abbrev pub holds_nothing : List Slot → ℕ → Bool
holds_nothing all client = not (list_any (has_client client) all)

abbrev pub is_idle : Client → Bool
is_idle found =
    owns_nothing found.owned && has_no_member found.trail && is_absent found.place
    && found.granted == 0 && found.needed == 0 && found.freed == 0 && found.freed_slots == 0
    && has_no_member found.standalones

unfoldable pub end_of : State → ℕ → Outcome
end_of world client = do
  found ← live_at world client
  idle ← allow (is_idle found && holds_nothing world.slots client)
  Ok (replies.Ok, with_client world client (record found { live = false; looked = None }))

-- Look.

-- what a look at this slot leaves
abbrev pub looked_at : ℕ → Slot → Option ℕ
looked_at slot seen = if is_shareable seen then Some slot else None

abbrev pub client_looked : ℕ → ℕ → Slot → Client → Client
client_looked client slot seen found =
    record found { looked = looked_at slot seen; dead = noticed client seen found.dead }

abbrev pub look_of : State → ℕ → ℕ → Outcome
look_of world client slot = do
  seen ← slot_at world slot
  found ← live_at world client
  Ok (replies.Saw (phase_of seen), with_client world client (client_looked client slot seen found))

-- Acquire.

abbrev pub is_at : Option ℕ → ℕ → Bool
is_at None slot = false
is_at (Some here) slot = here == slot

abbrev pub looks_at : Client → ℕ → Bool
looks_at client slot = is_at client.looked slot

-- the most that the references of one slot weigh in a world of this setup
abbrev pub most_weight : Setup → ℕ
most_weight setup = setup.clients * REFERENCES_PER_CLIENT

unfoldable pub may_acquire : Setup → List Slot → ℕ → Client → ℕ → Slot → ℕ → ℕ → Bool
may_acquire setup all client found slot seen weight name =
    nat_le 1 weight && nat_le weight MOST_WEIGHT && is_none (slot_holding all client name)
    && (looks_at found slot || has_client client seen)
    && nat_le (weight_of seen + weight) (most_weight setup)

abbrev pub new_reference : ℕ → ℕ → ℕ → Slot → Reference
new_reference client name weight seen =
    record { client = client; name = name; weight = weight; counting = counts_in seen }

-- the slot, with the reference or with more strays
abbrev pub slot_acquired : Slot → Reference → Slot
slot_acquired (slots.Empty strays) k = slots.Empty (strays + k.weight)
slot_acquired (slots.Building client strays) k = slots.Building client (strays + k.weight)
slot_acquired (slots.Shareable r) k =
    slots.Shareable (record r { references = r.references ++ k ∷ [] })

abbrev pub acquired : Slot → Bool → Reply
acquired (slots.Empty strays) counting = replies.Stray
acquired (slots.Building client strays) counting = replies.Stray
acquired (slots.Shareable r) counting = replies.Got r.shown counting

-- it has seen the entry as dead where it now holds a reference on a hidden one
abbrev pub client_acquired : ℕ → Slot → Client → Client
client_acquired client left found =
    record found { looked = None; dead = noticed client left found.dead }

unfoldable pub acquire_of : State → ℕ → ℕ → ℕ → ℕ → Outcome
acquire_of world client slot weight name = do
  seen ← slot_at world slot
  found ← live_at world client
  may ← allow (may_acquire world.setup world.slots client found slot seen weight name)
  let left = slot_acquired seen (new_reference client name weight seen)
  Ok (
    acquired seen (counts_in seen),
    with_both world slot left client (client_acquired client left found),
  )

-- Give and use.

abbrev pub slot_given : ℕ → ℕ → Slot → Slot
slot_given client name (slots.Empty strays) = slots.Empty strays
slot_given client name (slots.Building other strays) = slots.Building other strays
slot_given client name (slots.Shareable r) =
    slots.Shareable (record r { references = dropped (is_named client name) r.references })

abbrev pub left_on : Slot → Reply
left_on slot = replies.Left (weight_of slot) (phase_of slot)

unfoldable pub give_of : State → ℕ → ℕ → Outcome
give_of world client name = do
  found ← live_at world client
  slot ← holding world client name
  seen ← slot_at world slot
  let left = slot_given client name seen
  Ok (left_on left, with_both world slot left client (client_noticed client seen found))

abbrev pub if_counting : Option Reference → Option Reference
if_counting None = None
if_counting (Some k) = if k.counting then Some k else None

-- this client's reference of this name, if it counts
abbrev pub counting_in : ℕ → ℕ → List Reference → Option Reference
counting_in client name references = if_counting (reference_in client name references)

-- the slot without the reference, which was a use
abbrev pub slot_used : ℕ → ℕ → Reference → Slot → Slot
slot_used client name k (slots.Empty strays) = slots.Empty strays
slot_used client name k (slots.Building other strays) = slots.Building other strays
slot_used client name k (slots.Shareable r) =
    slots.Shareable (record r {
      references = dropped (is_named client name) r.references;
      uses = r.uses + k.weight;
    })

unfoldable pub use_of : State → ℕ → ℕ → Outcome
use_of world client name = do
  found ← live_at world client
  slot ← holding world client name
  seen ← slot_at world slot
  reference ← ok_or (counting_in client name (references_of seen)) NotAllowed
  let left = slot_used client name reference seen
  Ok (left_on left, with_both world slot left client (client_noticed client seen found))

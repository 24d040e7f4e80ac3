-- What steps are in the protocol's machine: the event of each, and the history of all of them.
use Rattle.std.specs.Prelude.{◌≡◌, ◌≢◌, ℕ, ◌<◌, ◌≤◌, ◌^◌, Bool, true, false, List, [], ◌∷◌, ◌++◌, Option, Some, None, Ok, length, map, nat_le, slice_get, slice_index, if◌then◌else◌}
use lib.ListN.{get_elem?}
use mathlib.Core.Option.{some}
use Rattle.atomic_table.specs.Table.{Act, State as Table, Valid, carried_after, stepped}
use Rattle.hcc_core.specs.declared.event.Event.{Event}
use Rattle.hcc_core.specs.declared.event.Event.TheVariants as events
use Rattle.hcc_core.specs.declared.event.Reply.{Reply}
use Rattle.hcc_core.specs.Runs.{after_all, held_at}
use Rattle.hcc_core.specs.Steps.{outcome_of}
use Rattle.hcc_core.specs.World.{State}
use Rattle.hcc_rule.specs.declared.key.Key.{Key}
use Rattle.hcc_rule.specs.declared.rule.Plan.{Plan}
use Rattle.hcc_rule.specs.declared.view.Done.{Done}
use Rattle.hcc_rule.specs.declared.view.Logged.{Logged}
use Rattle.hcc_rule.specs.declared.view.Record.{Record}
use Rattle.hcc_rule.specs.declared.view.View.{View}
use Rattle.hcc_rule.specs.Opening.{begun_world}
use Rattle.hcc_rule.specs.Records.{record_in}
use Rattle.hcc_rule.specs.Rule.{AreTrailed, Holds}
use Rattle.hcc_rule.specs.Seats.{SeatOf}
use Rattle.hcc_rule.specs.Told.{Held}
use Rattle.hcc_rule.specs.Views.{Each, is_seated, names}

-- Events.

-- the client whose event it is
abbrev pub client_by : Event → ℕ
client_by (events.Start client) = client
client_by (events.Look client slot) = client
client_by (events.Acquire client slot weight name) = client
client_by (events.Give client name) = client
client_by (events.Use client name) = client
client_by (events.Occupy client slot) = client
client_by (events.Show client key0 key1 charge countdown name value) = client
client_by (events.Hide client name) = client
client_by (events.Free client slot name) = client
client_by (events.Empty client) = client
client_by (events.Write client) = client
client_by (events.Read client name) = client
client_by (events.Enter client) = client
client_by (events.Charge client charge) = client
client_by (events.Slots client) = client
client_by (events.Settle client) = client
client_by (events.End client) = client
client_by (events.Clock client slot) = client
client_by (events.Mark client name) = client
client_by (events.Correct client name) = client
client_by (events.Waive client) = client
client_by (events.Quit client) = client
client_by (events.Usage client) = client
client_by (events.Occupancy client) = client
client_by (events.Standing client) = client
client_by (events.Stand client charge name) = client
client_by (events.Fall client name) = client
client_by (events.Count client slot) = client
client_by (events.Pass client slot) = client
client_by (events.Unpass client slot) = client
client_by (events.Turn client) = client
client_by (events.Peek client slot) = client

-- the starts and the ends of clients are no atomic steps; all other events are
abbrev pub is_step : Event → Bool
is_step (events.Start client) = false
is_step (events.End client) = false
is_step other = true

abbrev pub did : Event → Reply → Done
did event reply = record { event = event; reply = reply }

-- the events, without their replies
abbrev pub events_of : List Done → List Event
events_of = map (λ (done : Done). done.event)

-- it is no atomic step, or at least none of this client
abbrev pub IsNoStep : Done → Type 0
IsNoStep done = is_step done.event ≡ false

abbrev pub IsNoStepOf : ℕ → Done → Type 0
IsNoStepOf client done = is_step done.event ≡ true → client_by done.event ≢ client

-- it is an atomic step of this client
abbrev pub IsStepBy : ℕ → Event → Type 0
IsStepBy client event = (is_step event ≡ true) × (client_by event ≡ client)

-- What the machine does.

-- it allows this in the one world, with this reply, and the other world is the one after it
abbrev pub Leads : State → Done → State → Type 0
Leads world done next = outcome_of world done.event ≡ Ok (done.reply, next)

-- it allows these one after another, from the one world to the other
abbrev pub IsRun : State → List Done → State → Type 0
IsRun world [] last = last ≡ world
IsRun world (done ∷ rest) last = (next : State) × Leads world done next × IsRun next rest last

-- by this step of that client one world becomes the other; without one it stays
abbrev pub GoesBy : ℕ → State → Option Done → State → Type 0
GoesBy client world None next = next ≡ world
GoesBy client world (Some done) next = IsStepBy client done.event × Leads world done next

-- a client starts or ends
abbrev pub Passes : State → Done → State → Type 0
Passes world done next = IsNoStep done × Leads world done next

-- Histories.

-- the history after a step, which may be none of the machine's
abbrev pub with_done : List Done → Option Done → List Done
with_done history None = history
with_done history (Some done) = history ++ done ∷ []

-- of two fronts of one history the longer one
abbrev pub longer : List Done → List Done → List Done
longer xs ys = if nat_le (length ys) (length xs) then xs else ys

module _ {T : Type 0} where
  -- the world after this history, from the one with which a shard of this plan begins
  abbrev pub world_of : Plan T → List Done → State
  world_of p history = after_all (begun_world p) (events_of history)

  -- in the world after each front of the history, the trail of each entry is the probes of its key
  -- before its slot
  abbrev pub KeepsTrails : Plan T → List Done → Type 0
  KeepsTrails p history =
      (front later : List Done) → history ≡ front ++ later
      → AreTrailed p.geometry.slots (world_of p front).slots

  -- What a seat knows is a front of the history. Behind it comes no step of a client that the seat
  -- names; and nothing, where the shard has one client.
  pub record IsFront (clients : ℕ) (history : List Done) (l : Logged T) : Type 0 where
    pub later : List Done
    pub is : history ≡ l.past ++ later
    pub apart : (c : ℕ) → 1 ≤ names c l.known → Each (IsNoStepOf c) later
    pub alone : clients ≡ 1 → is_seated l.known ≡ true → later ≡ []

  -- Some seat knows all of the history but starts and ends that came since.
  pub record IsKnown (history : List Done) (views : List (Logged T)) : Type 0 where
    pub number : ℕ
    pub seat : Logged T
    pub there : slice_get views number ≡ Some seat
    pub later : List Done
    pub is : history ≡ seat.past ++ later
    pub still : Each IsNoStep later

  -- what the seat's client holds stands in the world after all that the seat knows: there it has
  -- the reference of each record's name, on the record's slot and entry
  abbrev pub RecordsStand : Plan T → Logged T → Type 0
  RecordsStand p l =
      (name : ℕ) (r : Record) → record_in name l.known.records ≡ Some r
      → held_at (world_of p l.past) l.known.client name r.slot ≡ Some r.entry

  -- The seat did this, after what others did since its last event: none of these is a step of a
  -- client that it names, and there are none where the shard has one client. It names whom it
  -- named. What its client holds stands in the world after it; what it held stood in the world
  -- before, where no other client is.
  pub record IsNext (p : Plan T) (clients : ℕ) (done : Done) (old new : Logged T) : Type 0 where
    pub others : List Done
    pub past : new.past ≡ old.past ++ (others ++ done ∷ [])
    pub apart : (c : ℕ) → 1 ≤ names c old.known → Each (IsNoStepOf c) others
    pub alone : clients ≡ 1 → others ≡ []
    pub named : (c : ℕ) → names c new.known ≡ names c old.known
    pub stand : RecordsStand p new
    pub stood : clients ≡ 1 → RecordsStand p old

  -- it did this, or nothing that the machine knows
  abbrev pub Follows : Plan T → ℕ → Option Done → Logged T → Logged T → Type 0
  Follows p clients None old new = new.past ≡ old.past
  Follows p clients (Some done) old new = IsNext p clients done old new

  -- what all clients did, with the machine's replies, up to the seat's own last event
  abbrev pub past : SeatOf T → List Done
  past seat = seat.me.0.past

  -- what it was told of that by the witness that it followed last
  abbrev pub heard : SeatOf T → List Done
  heard seat = seat.me.0.heard

  -- the seat once it was told this
  abbrev pub told : List Done → SeatOf T → SeatOf T
  told history seat = record seat { me = (record seat.me.0 { heard = history }, seat.me.1) }

  -- The machine allows these one after another, from the world with which a shard of this plan
  -- begins, and trails are kept on the way.
  pub record IsAllowed (p : Plan T) (history : List Done) : Type 0 where
    pub world : State
    pub run : IsRun (begun_world p) history world
    pub trails : KeepsTrails p history

-- What a step of a seat may be, and what it tells of the word, of the seat after it and of what it
-- was in the machine.
module _ {T : Type 0} (fits : T → Key → List ℕ → Type 0) (p : Plan T) where
  -- these words and views meet the rule, and show the world to which this leads
  abbrev pub Becomes : ℕ → State → Option Done → Table (Unit {0}) (View T) → Type 0
  Becomes client world done s = (after : Holds fits p s) × GoesBy client world done after.world

  -- the seat can go on with the word y at a
  abbrev pub Goes : (s : Table (Unit {0}) (View T)) → Holds fits p s → (a y id : ℕ) → Held T
      → (ℕ → Held T → Option Done → Type 0) → Type 0
  Goes s r a y id me told =
      (new : View T) × (act : Act (Unit {0})) × Valid s.homes me.1 act
      × (done : Option Done)
      × Becomes me.0.client r.world done (stepped s a y id me.1 new act)
      × told (slice_index s.words a) (new, carried_after me.1 act) done

  -- it can do so whatever the table is when the word at a becomes f of what it was
  abbrev pub Acts : (count id : ℕ) → Held T → (a : ℕ) → (ℕ → ℕ)
      → (ℕ → Held T → Option Done → Type 0) → Type 0
  Acts count id me a f told =
      (s : Table (Unit {0}) (View T)) → (r : Holds fits p s) → length s.homes ≡ count
      → get_elem? s.views id ≡ some me.0 → slice_index s.words a < 2 ^ 64
      → Goes s r a (f (slice_index s.words a)) id me told

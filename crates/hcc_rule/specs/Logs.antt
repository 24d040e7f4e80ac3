-- A seat's view beside the list of its own atomic steps. Of the views the rule says that they show
-- a world with the words, and of the steps what the words are before there is one.
use Rattle.std.specs.Prelude.{◌≡◌, ◌≢◌, ℕ, ◌+◌, List, [], ◌∷◌, ◌++◌, Option, Some, None, length, map, slice_get}
use Rattle.atomic_table.specs.Table as table
use Rattle.hcc_core.specs.declared.event.Event.{Event}
use Rattle.hcc_core.specs.declared.slot.Entry.{Entry}
use Rattle.hcc_core.specs.Runs.{StandsBetween, entry_at}
use Rattle.hcc_core.specs.Sums.{total}
use Rattle.hcc_core.specs.World.{State}
use Rattle.hcc_rule.specs.declared.key.Key.{Key}
use Rattle.hcc_rule.specs.declared.layout.TheConstants.{DATA}
use Rattle.hcc_rule.specs.declared.rule.Plan.{Plan}
use Rattle.hcc_rule.specs.declared.view.Atomic.{Atomic}
use Rattle.hcc_rule.specs.declared.view.Done.{Done}
use Rattle.hcc_rule.specs.declared.view.Logged.{Logged}
use Rattle.hcc_rule.specs.declared.view.View.{View}
use Rattle.hcc_rule.specs.Acts.{Follows, IsAllowed, IsFront, IsKnown, IsRun, KeepsTrails, world_of}
use Rattle.hcc_rule.specs.Images.{BeginsWith, entries_in}
use Rattle.hcc_rule.specs.Opening.{begun_world, opening_view}
use Rattle.hcc_rule.specs.Rule.{Holds}
use Rattle.hcc_rule.specs.Seats.{atomic, moves_of}
use Rattle.hcc_rule.specs.Told.{Held}
use Rattle.hcc_rule.specs.ToldGlimpses.{IsRightEntry}
use Rattle.hcc_rule.specs.ToldOwners.{IsDataWord}
use Rattle.hcc_rule.specs.Words.{field_at}

module _ {T : Type 0} where
  -- a seat's view, of what it has beside its steps
  abbrev pub known_of : table.Me (Unit {0}) (Logged T) → Held T
  known_of me = (me.0.known, me.1)

  -- the words, and the views alone
  abbrev pub unlogged : table.State (Unit {0}) (Logged T) → table.State (Unit {0}) (View T)
  unlogged s = record {
    words = s.words;
    homes = s.homes;
    views = map (λ (l : Logged T). l.known) s.views;
  }

  -- these are the words of the entries with which the shard begins
  abbrev pub HasBegun : Plan T → (words : List ℕ) → Type 0
  HasBegun p words = BeginsWith p.geometry.slots p.geometry.room (entries_in p.image) words

  -- how many steps all seats made
  abbrev pub moves_in : table.State (Unit {0}) (Logged T) → ℕ
  moves_in s = total moves_of s.views

  -- what a seat was told is a front of this history
  abbrev pub HasHeard : List Done → Logged T → Type 0
  HasHeard history l = (more : List Done) × (history ≡ l.heard ++ more)

  -- Words and views meet the rule, whatever steps were made; as long as there was none, the words
  -- are those with which the shard began. The world that they show is where a history leads, from
  -- the world that the shard began with, of which each seat knows a front, and one all steps.
  pub record HoldsLogged (fits : T → Key → List ℕ → Type 0) (p : Plan T)
      (s : table.State (Unit {0}) (Logged T)) : Type 0 where
    pub rule : Holds fits p (unlogged s)
    pub begins : moves_in s ≡ 0 → HasBegun p s.words
    -- the steps of a seat that was taken in count as those of the seat that took it in
    pub spent : (j : ℕ) (l : Logged T) → slice_get s.views j ≡ Some l → l.known.tag ≡ None
        → moves_of l ≡ 0
    pub history : List Done
    pub run : IsRun (begun_world p) history rule.world
    pub trails : KeepsTrails p history
    pub fronts : (j : ℕ) (l : Logged T) → slice_get s.views j ≡ Some l
        → IsFront p.geometry.clients history l
    pub known : IsKnown history s.views
    -- what a seat was told is a front of the history
    pub heard : (j : ℕ) (l : Logged T) → slice_get s.views j ≡ Some l → HasHeard history l

  -- a view with these steps, of a seat that took in none and knows no history
  abbrev pub logged : View T → List Atomic → Logged T
  logged v steps = record { known = v; steps = steps; past = []; taken_in = 0; heard = [] }

  abbrev pub first_logged : Plan T → Logged T
  first_logged p = logged (opening_view p) []

  -- What a step tells of the views and of its event, and that it is one step more of the seat.
  pub record Logs (p : Plan T)
      (then : table.Step (Unit {0}) → Held T → ℕ → Held T → Option Done → Type 0)
      (step : table.Step (Unit {0})) (me : table.Me (Unit {0}) (Logged T)) (found : ℕ)
      (after : table.Me (Unit {0}) (Logged T)) : Type 0 where
    pub done : Option Done
    pub told : then step (known_of me) found (known_of after) done
    pub follows : Follows p p.geometry.clients done me.0 after.0
    pub allowed : IsAllowed p after.0.past
    pub logged_is : after.0.steps
        ≡ me.0.steps ++ atomic step.word step.first step.second found ∷ []
    pub one : length after.0.steps ≡ length me.0.steps + 1

  -- The entries of a world, in which a load found this: on a data word of a slot it found a word of
  -- the entry that stands there. Each entry is as an insertion made it, and one that stands in a
  -- later world, too, stands in all between.
  pub record Shows (fits : T → Key → List ℕ → Type 0) (p : Plan T) (address found : ℕ)
      (world : State) : Type 0 where
    pub word : (slot index : ℕ) (entry : Entry)
        → address ≡ field_at p.geometry.room slot DATA + index
        → entry_at world slot ≡ Some entry → IsDataWord entry index found
    pub right : (slot : ℕ) (entry : Entry) → entry_at world slot ≡ Some entry
        → IsRightEntry fits p.tag p.geometry.room entry
    pub between : (events : List Event) → StandsBetween world events

  -- what a load that is an event tells of the world after it
  abbrev pub Sees : (T → Key → List ℕ → Type 0) → Plan T → (address found : ℕ)
      → (old new : Logged T) → Type 0
  Sees fits p address found old new =
      old.past ≢ new.past → Shows fits p address found (world_of p new.past)

  -- what a seat knows after a load that is an event goes on from what it was told
  abbrev pub Hears : (old new : Logged T) → Type 0
  Hears old new = old.past ≢ new.past → (more : List Done) × (new.past ≡ old.heard ++ more)

  -- what a load tells
  abbrev pub Loads : (T → Key → List ℕ → Type 0) → Plan T
      → (table.Step (Unit {0}) → Held T → ℕ → Held T → Option Done → Type 0)
      → table.Step (Unit {0}) → table.Me (Unit {0}) (Logged T) → ℕ
      → table.Me (Unit {0}) (Logged T) → Type 0
  Loads fits p then step me found after =
      Logs p then step me found after × Sees fits p step.word found me.0 after.0
      × Hears me.0 after.0

  -- a step that tells nothing
  abbrev pub silent : table.Step (Unit {0}) → table.Me (Unit {0}) (Logged T) → ℕ
      → table.Me (Unit {0}) (Logged T) → Type 0
  silent step me found after = Unit {0}

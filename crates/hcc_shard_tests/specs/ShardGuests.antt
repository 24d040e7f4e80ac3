-- What clients have between calls of `hcc_shard`.
use Rattle.std.specs.Prelude.{◌≡◌, ℕ, ◌*◌, ◌^◌, ◌<◌, ◌≤◌, ◌==◌, Bool, [], List, map, length}
use Rattle.hcc_core.specs.declared.client.Standalone.{Standalone}
use Rattle.hcc_rule.specs.declared.key.Key.{Key}
use Rattle.hcc_rule.specs.declared.steps.shows.Draft.{Draft}
use Rattle.hcc_rule.specs.declared.view.Record.{Record}
use Rattle.hcc_rule.specs.declared.view.View.{View}
use Rattle.hcc_rule.specs.Rule.{IsAbove}
use Rattle.hcc_rule.specs.Seats.{view}
use Rattle.hcc_rule.specs.Views.{Each, named_by}
use Rattle.hcc_table.specs.declared.pins.Pin.{Pin}
use Rattle.hcc_shard.specs.declared.seat.ShardSeat.{ShardSeat}
use Rattle.hcc_shard.specs.declared.shard.Shard.{Shard}
use Rattle.hcc_shard.specs.Closed.{HoldsNothing}
use Rattle.hcc_shard.specs.Seated.{IsNext, Rests}

-- every value fits every key
abbrev pub FitsAny : {T : Type 0} → T → Key → List ℕ → Type 0
FitsAny tag key value = Unit {0}

-- the pin of a reference
abbrev pub pin_of : Record → Pin
pin_of r = record { name = r.name; slot = r.slot; counting = r.counting }

abbrev pub is_pin : ℕ → Pin → Bool
is_pin name pin = pin.name == name

-- All names and the serials of all entries are below this number, and no more entries were made.
pub record IsCounted {T : Type 0} (next : ℕ) (v : View T) : Type 0 where
  pub records : Each (λ (r : Record). r.name < next) v.records
  pub standalones : Each (λ (s : Standalone). s.name < next) v.work.standalones
  pub made : length v.made ≤ next
  pub above : IsAbove next v.made

-- A seat at rest that names one client. These are its pins and its standalone entries.
pub record IsGuest {T A : Type 0} (shard : Shard T A) (seat : ShardSeat T) (pins : List Pin)
    (standing : List Standalone) (next : ℕ) : Type 0 where
  pub rests : Rests shard seat
  pub single : (view seat.seat).others ≡ []
  pub holds : pins ≡ map pin_of (view seat.seat).records
  pub stands : standing ≡ (view seat.seat).work.standalones
  pub counted : IsCounted next (view seat.seat)

-- A draft of an entry that a guest may insert, with a value of so many bytes.
pub record IsDrafted {T : Type 0} (room : ℕ) (draft : Draft) (bytes : ℕ) (v : View T)
    : Type 0 where
  pub short : bytes ≤ 8 * room
  pub paid : 0 < draft.charge
  pub small : draft.charge < 2 ^ 32
  pub some : 1 ≤ draft.countdown
  pub few : draft.countdown ≤ 3
  pub next : IsNext draft.serial v

-- Seats at rest that hold nothing and name one client each.
abbrev pub AreHome : {T A : Type 0} → Shard T A → List (ShardSeat T) → Type 0
AreHome shard seats =
    Each (λ s. HoldsNothing shard s × (named_by (view s.seat) ≡ 1)) seats

-- A seat at rest, as it is between two calls, new seats, and the serials that calls are handed.
use Rattle.std.specs.Prelude.{◌≡◌, ℕ, ◌+◌, ◌<◌, ◌≤◌, List, [], ◌∷◌, length, Some}
use Rattle.hcc_core.specs.declared.client.Standalone.{Standalone}
use Rattle.hcc_core.specs.declared.limits.TheConstants.{MOST_CLIENTS, MOST_HANDLES, STAMPS_PER_CLIENT}
use Rattle.hcc_rule.specs.declared.geometry.Geometry.{Geometry}
use Rattle.hcc_rule.specs.declared.image.ImageEntry.{ImageEntry}
use Rattle.hcc_rule.specs.declared.view.Other.{Other}
use Rattle.hcc_rule.specs.declared.view.Record.{Record}
use Rattle.hcc_rule.specs.declared.view.View.{View}
use Rattle.hcc_rule.specs.Callers.{IsSeatAt, geometry_of, plan_of}
use Rattle.hcc_rule.specs.Between.{IsBetweenCalls}
use Rattle.hcc_rule.specs.Images.{maker_of}
use Rattle.hcc_rule.specs.Opening.{fresh_view, unstarted}
use Rattle.hcc_rule.specs.Rule.{IsAbove}
use Rattle.hcc_rule.specs.Seats.{SeatOf, moves, steps, view}
use Rattle.hcc_rule.specs.Views.{Each}
use Rattle.hcc_table.specs.Readings.{IsReadable}
use Rattle.hcc_shard.specs.declared.seat.ShardSeat.{ShardSeat}
use Rattle.hcc_shard.specs.declared.shard.Shard.{Shard}
use Rattle.hcc_shard.specs.Counted.{CountsNothing}

-- A reference as it is between two calls: a single one on a slot of the shard, named by a serial,
-- on an entry whose value can be read.
pub record IsKept (geometry : Geometry) (r : Record) : Type 0 where
  pub on : r.slot < geometry.slots
  pub single : r.weight ≡ 1
  pub named : r.name < STAMPS_PER_CLIENT
  pub readable : IsReadable geometry.room r

module _ {T : Type 0} where
  -- a client with nothing in hand but standalone entries and such references
  pub record IsQuiet (geometry : Geometry) (v : View T) : Type 0 where
    pub idle : IsBetweenCalls v.work
    pub kept : Each (IsKept geometry) v.records
    pub few : length v.records ≤ MOST_HANDLES

  -- A serial that a call may be handed: above the names of all references and standalone entries of
  -- the client, above the serials of all entries that it made in this shard, and as high as their
  -- number.
  pub record IsNext (serial : ℕ) (v : View T) : Type 0 where
    pub records : Each (λ (r : Record). r.name < serial) v.records
    pub standalones : Each (λ (s : Standalone). s.name < serial) v.work.standalones
    pub made : length v.made ≤ serial
    pub above : IsAbove serial v.made
    pub low : serial < STAMPS_PER_CLIENT

module _ {T A : Type 0} where
  -- A seat of this shard at rest: every call needs it, and leaves it so.
  pub record Rests (shard : Shard T A) (seat : ShardSeat T) : Type 0 where
    pub at : IsSeatAt shard.table seat.seat
    pub own : (view seat.seat).client ≡ seat.client
    pub known : seat.client < MOST_CLIENTS
    pub quiet : IsQuiet (geometry_of shard.table) (view seat.seat)

  -- the seat of a client that made this and did nothing else yet
  pub record IsBegun (shard : Shard T A) (o : Other) (seat : ShardSeat T) : Type 0 where
    pub rests : Rests shard seat
    pub number : seat.client ≡ o.client
    pub fresh : view seat.seat ≡ fresh_view (Some (plan_of shard.table).tag) o []
    pub no_steps : steps seat.seat ≡ []
    pub unmoved : moves seat.seat ≡ 0
    pub no_counts : CountsNothing seat

  -- the seat of a client that did nothing yet
  abbrev pub IsNew : Shard T A → (client : ℕ) → ShardSeat T → Type 0
  IsNew shard client seat = IsBegun shard (unstarted client) seat

  -- such seats of clients in turn, from this one on
  abbrev pub AreNew : Shard T A → ℕ → List (ShardSeat T) → Type 0
  AreNew shard client [] = Unit {0}
  AreNew shard client (seat ∷ seats) = IsNew shard client seat × AreNew shard (client + 1) seats

  -- the seats of all clients in turn, where client 0 made these entries
  abbrev pub AreBegun : Shard T A → List ImageEntry → List (ShardSeat T) → Type 0
  AreBegun shard es [] = Unit {0}
  AreBegun shard es (seat ∷ seats) = IsBegun shard (maker_of es) seat × AreNew shard 1 seats

module _ {T : Type 0} where
  -- A seat of a table got the number of its client, and counts nothing yet.
  pub record IsNumbered (client : ℕ) (seat : SeatOf T) (named : ShardSeat T) : Type 0 where
    pub seat_is : named.seat ≡ seat
    pub number : named.client ≡ client
    pub no_counts : CountsNothing named

  -- such seats, one for each, numbered from this client on
  abbrev pub AreNumbered : (client : ℕ) → List (SeatOf T) → List (ShardSeat T) → Type 0
  AreNumbered client [] [] = Unit {0}
  AreNumbered client (seat ∷ seats) (named ∷ others) =
      IsNumbered client seat named × AreNumbered (client + 1) seats others
  AreNumbered client seats named = ⊥

-- What a look-up found is what its maker showed, in what the client knows.
use Rattle.std.proofs.Common.{◌≡◌, ℕ, ◌≤◌, Bool, true, false, Option, Some, None, is_some, slice_get, sym, subst}
use Rattle.std.specs.Prelude.{option_and_then, if◌then◌else◌}
use Rattle.hcc_core.specs.declared.slot.Entry.{Entry}
use Rattle.hcc_core.specs.declared.slot.Slot.{Slot}
use Rattle.hcc_core.specs.declared.slot.Slot.TheVariants as slots
use Rattle.hcc_core.specs.Runs.{entry_of}
use Rattle.hcc_rule.specs.declared.geometry.Geometry.{Geometry}
use Rattle.hcc_rule.specs.declared.key.Key.{Key}
use Rattle.hcc_rule.specs.declared.table.RuleTable.{RuleTable}
use Rattle.hcc_rule.specs.Acts.{events_of, past}
use Rattle.hcc_rule.specs.Callers.{plan_of, world_at}
use Rattle.hcc_rule.specs.Records.{record_in}
use Rattle.hcc_rule.specs.Seats.{SeatOf, view}
use Rattle.hcc_rule.proofs.Seats.Runs.{run_shown}
use Rattle.hcc_table.specs.declared.pins.Pin.{Pin}
use Rattle.hcc_table.specs.Standing.{FindsLasting, entry_shown, shown_at}
use Rattle.hcc_table.proofs.Moments.{some_and}
use Rattle.hcc_shard.specs.declared.seat.ShardSeat.{ShardSeat}
use Rattle.hcc_shard.specs.declared.shard.Shard.{Shard}
use Rattle.hcc_cache.specs.Moments.{HoldsAsShown, IsAsShown}

-- what a slot shows is its entry
pub entry_there : (o : Option Slot) (entry : Entry) → option_and_then entry_shown o ≡ Some entry
    → option_and_then entry_of o ≡ Some entry
entry_there None entry is = cc
entry_there (Some (slots.Empty strays)) entry is = cc
entry_there (Some (slots.Building client strays)) entry is = cc
entry_there (Some (slots.Shareable r)) entry is = by r.shown is
  where
    by : (b : Bool) → (if b then Some r.entry else None) ≡ Some entry → Some r.entry ≡ Some entry
    by true h = h
    by false h = cc

-- a table has a client
pub some_client : {T A : Type 0} (table : RuleTable T A)
    → 1 ≤ (plan_of table).geometry.clients
some_client table =
    subst (λ (g : Geometry). 1 ≤ g.clients) (sym table.planned.0) table.limits.some_client

-- What is shown at a moment is what its maker showed until then.
shown_made : {T A : Type 0} (table : RuleTable T A) (seat : SeatOf T) (slot : ℕ) (entry : Entry)
    → shown_at (world_at table seat) slot ≡ Some entry
    → IsAsShown (plan_of table) (past seat) entry
shown_made table seat slot entry shows =
    run_shown (plan_of table) (some_client table) (events_of (past seat)) slot entry
    (entry_there (slice_get (world_at table seat).slots slot) entry shows)

pub found_made : {T A : Type 0} (shard : Shard T A) (key : Key) (name : ℕ) (pin : Pin)
    (was is : ShardSeat T) → FindsLasting shard.table key name (Some pin) was.seat is.seat
    → HoldsAsShown shard key name is
found_made shard key name pin was is h =
    let found = some_and (record_in name (view is.seat).records) _ h.2 in
    let once = found.2.1 in
    record {
      held = found.0;
      holds = found.1;
      asked = found.2.0;
      front = past once.0;
      later = once.1.later;
      known = once.1.goes_on;
      given = shown_made shard.table once.0 pin.slot found.0.entry once.2;
    }

-- So it is where a handle was given.
pub handle_made : {T A : Type 0} (shard : Shard T A) (key : Key) (name : ℕ) (pin : Option Pin)
    (was is : ShardSeat T) → is_some pin ≡ true
    → FindsLasting shard.table key name pin was.seat is.seat → HoldsAsShown shard key name is
handle_made shard key name None was is some h = cc
handle_made shard key name (Some pin) was is some h = found_made shard key name pin was is h

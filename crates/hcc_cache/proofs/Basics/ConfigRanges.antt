-- What the tests of a configuration tell of its numbers.
use Rattle.std.proofs.Common.{◌≡◌, ℕ, ◌%◌, ◌^◌, ◌≤◌, Bool, true, false, nat_le, List, [], ◌∷◌, Ok, refl, ap}
use Rattle.std.specs.Prelude.{is_ok}
use Rattle.std.specs.Int.{is_power_of_two}
use Rattle.std.specs.List.{AllByRecursion}
use Rattle.std.proofs.lemmas.Bool.{and_parts, false≢true, leb-true}
use Rattle.hcc_core.specs.declared.limits.TheConstants.{MOST_CLIENTS, MOST_HANDLES, STAMPS_PER_CLIENT}
use Rattle.hcc_rule.specs.declared.layout.TheConstants.{FEWEST_SLOTS, MOST_CAPACITY, MOST_ROOM}
use Rattle.hcc_cache.specs.declared.config.Config.{Config}
use Rattle.hcc_cache.specs.declared.errors.NewError.{NewError}
use Rattle.hcc_cache.specs.Configs.{IsAllowed, checked, first_due, is_power_within, is_within, judged}
use Rattle.hcc_cache.proofs.Basics.PowersOfTwo.{power_divides}

record IsWithin (least most n : ℕ) : Type 0 where
  pub low : least ≤ n
  pub high : n ≤ most

-- A number in a range is between its ends.
within : (least most n : ℕ) → is_within least most n ≡ true → IsWithin least most n
within least most n passed =
    let parts = and_parts (nat_le least n) (nat_le n most) passed in
    record { low = leb-true least n parts.0; high = leb-true n most parts.1 }

record IsPowerWithin (least most n : ℕ) : Type 0 where
  pub inside : IsWithin least most n
  pub divides : most % n ≡ 0

-- A power of two in a range divides its last number, where that is one.
power_within : (least m n : ℕ) → is_power_within least (2 ^ m) n ≡ true
    → IsPowerWithin least (2 ^ m) n
power_within least m n passed =
    let parts = and_parts (is_within least (2 ^ m) n) (is_power_of_two n) passed in
    let inside = within least (2 ^ m) n parts.0 in
    record { inside = inside; divides = power_divides m n inside.high parts.1 }

abbrev Passes : Bool × NewError → Type 0
Passes test = test.0 ≡ true

-- Where no refusal is due, each test is passed.
none_due : (tests : List (Bool × NewError)) → first_due tests ≡ Ok tt → AllByRecursion Passes tests
none_due [] none = tt
none_due ((true, error) ∷ tests) none = (refl, none_due tests none)
none_due ((false, error) ∷ tests) none = absurd (false≢true (ap is_ok none))

-- Numbers of which none is refused are in their ranges.
pub accepted : (c : Config) → checked c ≡ Ok tt → IsAllowed c
accepted c none =
    let passed = none_due (judged c) none in
    let slots = power_within FEWEST_SLOTS 16 c.slots passed.0 in
    let room = within 1 MOST_ROOM c.room passed.1.0 in
    let clients = within 1 MOST_CLIENTS c.clients passed.1.1.0 in
    let handles = within 1 MOST_HANDLES c.handles passed.1.1.1.0 in
    let shards = power_within 1 6 c.shards passed.1.1.1.1.0 in
    let capacity = within 0 MOST_CAPACITY c.capacity passed.1.1.1.1.1.0 in
    let serials = within 1 STAMPS_PER_CLIENT c.serials passed.1.1.1.1.1.1.0 in
    record {
      some_slots = slots.inside.low;
      slots = slots.inside.high;
      slots_power = slots.divides;
      some_room = room.low;
      room = room.high;
      some_client = clients.low;
      clients = clients.high;
      some_handle = handles.low;
      handles = handles.high;
      some_shard = shards.inside.low;
      shards = shards.inside.high;
      shards_power = shards.divides;
      capacity = capacity.high;
      some_serial = serials.low;
      serials = serials.high;
    }

-- A search that is undisturbed finds exactly what the shard showed when it began.
use Rattle.std.proofs.Common.{◌≡◌, ◌↔◌, ℕ, ◌<◌, ◌≤◌, List, Option, Some, None, is_some, slice_get, refl, ap, subst, ◌∙◌}
use Rattle.std.specs.declared.alloc.Global.{Global}
use Rattle.hcc_rule.specs.declared.key.Key.{Key}
use Rattle.hcc_rule.specs.declared.table.RuleTable.{RuleTable}
use Rattle.hcc_rule.specs.Callers.{slots_of, world_at}
use Rattle.hcc_rule.specs.Probes.{probe_slot}
use Rattle.hcc_rule.specs.Records.{record_in}
use Rattle.hcc_rule.specs.Seats.{SeatOf, view}
use Rattle.hcc_rule.specs.Views.{names}
use Rattle.hcc_rule.proofs.Parts.ViewParts.{names_own}
use Rattle.hcc_rule.proofs.Probes.ProbeLaws.{probe_inside, some_slots}
use Rattle.hcc_table.specs.declared.optimistic.Got.{Got}
use Rattle.hcc_table.specs.declared.optimistic.Got.TheVariants.{Hit, Miss, Short}
use Rattle.hcc_table.specs.declared.pins.Pin.{Pin}
use Rattle.hcc_table.specs.Standing.{FindsFirst, FindsLasting, ShowsKey}
use Rattle.hcc_table.specs.Still.{BeganWithin}
use Rattle.hcc_table.proofs.Moments.{some_and}
use Rattle.hcc_shard.specs.declared.seat.ShardSeat.{ShardSeat}
use Rattle.hcc_shard.specs.declared.shard.Shard.{Shard}
use Rattle.hcc_shard.specs.Gets.{GotLasting, GotShown}
use Rattle.hcc_cache.specs.declared.cache.Cache.{Cache}
use Rattle.hcc_cache.specs.declared.client.Client.{Client}
use Rattle.hcc_cache.specs.declared.seeded.Seeded.{Seeded}
use Rattle.hcc_cache.specs.Known.{Knows}
use Rattle.hcc_cache.proofs.Calm.Stretches.{Calm, Named, calm_first, lacks_quiet, shows_quiet}
use Rattle.hcc_cache.proofs.Within.Begun.{GoesOn, on_by, on_event, on_seeks, on_then}

-- the seats of a client name it
pub seat_named : {T : Type 0} (cache : Cache T) (client : Client T) → Knows cache client
    → (number : ℕ) (shard : Shard (Seeded T) Global) (seat : ShardSeat (Seeded T))
    → slice_get cache.shards.items number ≡ Some shard
    → slice_get client.seats.items number ≡ Some seat
    → Named client.number seat.seat
seat_named cache client knows number shard seat shard_is seat_is =
    let seated = knows.seated.each number shard seat shard_is seat_is in
    record {
      is =
          subst (λ n. 1 ≤ names n (view seat.seat)) (seated.rests.own ∙ seated.number_is)
          (names_own (view seat.seat) (ap is_some seated.rests.at.tagged));
    }

module _ {T A : Type 0} (fits : T → Key → List ℕ → Type 0) (table : RuleTable T A)
    (began : BeganWithin table fits) (client : ℕ) (key : Key) {old new : SeatOf T}
    (named : Named client old) (calm : Calm client old new) where
  pub finds_quiet : (name : ℕ) (answer : Option Pin)
      → FindsLasting table key name answer old new
      → FindsFirst table key (world_at table old) answer
  finds_quiet name None h =
      λ slot near. lacks_quiet fits table began client named calm (h slot near)
  finds_quiet name (Some pin) h = (
    h.0,
    h.1,
    (let found = some_and (record_in name (view new).records) _ h.2 in
        shows_quiet fits table began client named calm found.0.entry found.2.0 found.2.1),
    λ j less. lacks_quiet fits table began client named calm (h.3 j less),
  )

-- So does a read by a key.
module _ {T A : Type 0} (fits : T → Key → List ℕ → Type 0) (shard : Shard T A)
    (began : BeganWithin shard.table fits) (client : ℕ) (key : Key) (before after : List ℕ)
    (was is : ShardSeat T) (named : Named client was.seat)
    (calm : Calm client was.seat is.seat) where
  abbrev Lacks : Type 0
  Lacks =
      (slot : ℕ) → slot < slots_of shard.table
      → ¬ ShowsKey (world_at shard.table was.seat) key slot

  shown_there : (got : Got) → GotShown shard key got before after was is → ¬ Lacks
  shown_there got r lacks =
      lacks (probe_slot (slots_of shard.table) key r.probe)
      (probe_inside (slots_of shard.table) key r.probe
      (some_slots (slots_of shard.table) shard.table.limits.power))
      (shows_quiet fits shard.table began client named
      (calm_first client shard.table calm on (on_by shard.table r.goes_on)) r.entry r.asked r.shown)
    where
      on : GoesOn shard.table was.seat r.last
      on =
          on_then shard.table (on_seeks shard.table r.shown.1.began)
          (on_then shard.table (on_event shard.table r.shown.1.step)
          (on_seeks shard.table r.shown.1.rest))

  pub misses_quiet : (got : Got) → GotLasting shard key got before after was is
      → (got ≡ Miss) ↔ Lacks
  misses_quiet Miss h = (
    λ same slot near. lacks_quiet fits shard.table began client named calm (h slot near),
    λ lacks. refl,
  )
  misses_quiet (Hit count) h = (λ same. cc, λ lacks. absurd (shown_there (Hit count) h lacks))
  misses_quiet (Short count) h = (λ same. cc, λ lacks. absurd (shown_there (Short count) h lacks))

-- How much a client made at each shard: no more than lines and answers tell.
use Rattle.std.proofs.Common.{◌≡◌, inl, inr, ℕ, ◌+◌, ◌≤◌, List, [], ◌∷◌, Option, Some, None}
use Rattle.std.proofs.Common.{is_some, length, refl, ap, arith, length-append}
use Rattle.std.specs.Prelude.{slice_get}
use Rattle.std.proofs.lemmas.Bool.{cases_eq}
use Rattle.hcc_core.specs.Sums.{total, when}
use Rattle.hcc_core.specs.World.{standing_of}
use Rattle.hcc_core.proofs.SumLemmas.{total-append}
use Rattle.hcc_rule.specs.declared.key.Key.{Key}
use Rattle.hcc_rule.specs.declared.view.Made.{Made}
use Rattle.hcc_rule.specs.declared.view.View.{View}
use Rattle.hcc_rule.specs.Seats.{view}
use Rattle.hcc_rule.specs.Views.{charge_made}
use Rattle.hcc_rule.proofs.Basics.Lists.{there, within}
use Rattle.hcc_shard.specs.declared.seat.ShardSeat.{ShardSeat}
use Rattle.hcc_cache.specs.declared.cache.Cache.{Cache}
use Rattle.hcc_cache.specs.declared.client.Client.{Client}
use Rattle.hcc_cache.specs.declared.config.Config.{Config}
use Rattle.hcc_cache.specs.declared.seeded.Seeded.{Seeded}
use Rattle.hcc_cache.specs.Calls.{shard_in}
use Rattle.hcc_cache.specs.Clients.{Insertion, view_at, view_by}
use Rattle.hcc_cache.specs.Opened.{IsOpened}
use Rattle.hcc_cache.specs.Room.{HasRoomBeside}
use Rattle.hcc_player.specs.declared.run.answer.Answer.{Answer}
use Rattle.hcc_player.specs.declared.run.call.Call.{Call}
use Rattle.hcc_player.specs.declared.run.registers.Filled.{Filled}
use Rattle.hcc_player.specs.RunCalls.{Does}
use Rattle.hcc_player.specs.Runs.{placed_by, stood_by}
use Rattle.hcc_player.specs.RunStates.{charge_of}
use Rattle.hcc_player.specs.RunTold.{FitsBeside, Told, told_after}
use Rattle.hcc_player.proofs.MadeLemmas.{Adds, adds, made_in, stood_in}

module _ {T : Type 0} where
  -- the charges of all that a client made at the shard of this number
  abbrev pub charges_in : (shard : ℕ) → Client T → ℕ
  charges_in shard client = charge_made (view_at shard client)

  -- At each shard a client made at most so many entries, and their charges, with those of its
  -- standalone entries there, are at most this.
  pub record IsWithin (count sum : ℕ) (client : Client T) : Type 0 where
    pub places : (s : ℕ) → length (made_in s client) ≤ count
    pub charges : (s : ℕ) → stood_in s client + charges_in s client ≤ sum

  -- So it has room for what fits beside what was placed.
  pub has_room : (config : Config) (told : Told) (charge : ℕ) (client : Client T)
      → IsWithin told.placed told.charged client → FitsBeside config told charge
      → (s : ℕ) (seat : ShardSeat (Seeded T)) → slice_get client.seats.items s ≡ Some seat
      → HasRoomBeside config charge (view seat.seat)
  has_room config told charge client most fits s seat here =
      let places = most.places s in
      let charges = most.charges s in
      let place = fits.place in
      let room = fits.within in
      let made = ap (λ o. length (view_by o).made) here in
      let sum = ap (λ o. charge_made (view_by o)) here in
      let alone = ap (λ o. standing_of (view_by o).work) here in
      record { place = omega arith; within = omega arith }

module _ {T : Type 0} (cache : Cache T) where
  -- What a call adds is told of its line.
  adds_within : (count sum alone : ℕ) (placed : Option Insertion) (old new : Client T)
      → Adds cache alone placed old new → IsWithin count sum old
      → IsWithin (count + when (is_some placed) 1) (sum + charge_of placed + alone) new
  adds_within count sum alone None old new none most = record {
    places = λ s.
        let was = most.places s in
        let same = ap length (none.same s) in
        omega arith;
    charges = λ s.
        let was = most.charges s in
        let same = ap (total (λ (m : Made). m.charge)) (none.same s) in
        let stands = none.stands s in
        omega arith;
  }
  adds_within count sum alone (Some i) old new one most = record {
    places = λ s. elim (cases_eq s (shard_in cache i.key)) [
      | inl here ↦
          let was = most.places (shard_in cache i.key) in
          let more = ap length one.more in
          let longer = length-append (made_in (shard_in cache i.key) old) (one.made ∷ []) in
          let there : length (made_in (shard_in cache i.key) new) ≤ count + 1 = omega arith in
          rw here there
      | inr other ↦
          let was = most.places s in
          let same = ap length (one.others s other) in
          omega arith
    ];
    charges = λ s. elim (cases_eq s (shard_in cache i.key)) [
      | inl here ↦
          let was = most.charges (shard_in cache i.key) in
          let more = ap (total (λ (m : Made). m.charge)) one.more in
          let both = total-append (λ (m : Made). m.charge) (made_in (shard_in cache i.key) old)
          (one.made ∷ []) in
          let stands = one.stands (shard_in cache i.key) in
          let its = one.charge_is in
          let there : stood_in (shard_in cache i.key) new + charges_in (shard_in cache i.key) new
          ≤ sum + i.charge + alone = omega arith in
          rw here there
      | inr other ↦
          let was = most.charges s in
          let same = ap (total (λ (m : Made). m.charge)) (one.others s other) in
          let stands = one.stands s in
          omega arith
    ];
  }

  pub within_after : (fits : T → Key → List ℕ → Type 0) (call : Call) (answer : Answer)
      (told : Told) (old new : Client T) (was now : List Filled)
      → Does fits cache call answer old new was now → IsWithin told.placed told.charged old
      → IsWithin (told_after call answer told).placed (told_after call answer told).charged new
  within_after fits call answer told old new was now did most =
      adds_within told.placed told.charged (stood_by call answer) (placed_by call answer) old new
      (adds fits cache call answer old new was now did) most

  -- A new client made nothing.
  pub within_new : (config : Config) (tag : T) (clients : List (Client T))
      → IsOpened config tag cache clients → (c : ℕ) (client : Client T)
      → slice_get clients c ≡ Some client → IsWithin 0 0 client
  within_new config tag clients opened c client at = record {
    places = λ s. places (slice_get client.seats.items s) s refl;
    charges = λ s. charges (slice_get client.seats.items s) s refl;
  }
    where
      fresh : (s : ℕ) (seat : ShardSeat (Seeded T)) → slice_get client.seats.items s ≡ Some seat
          → (length (view seat.seat).made ≡ 0)
          × (standing_of (view seat.seat).work + charge_made (view seat.seat) ≡ 0)
      fresh s seat here =
          let dealt = opened.dealt.each c client at in
          let low = within client.seats.items s seat here in
          let count = dealt.count in
          let shard = there cache.shards.items s (omega arith) in
          let new = dealt.seats s shard.0 seat shard.1 here in (
            ap (λ (v : View (Seeded T)). length v.made) new.fresh,
            ap (λ (v : View (Seeded T)). standing_of v.work + charge_made v) new.fresh,
          )

      places : (o : Option (ShardSeat (Seeded T))) (s : ℕ) → slice_get client.seats.items s ≡ o
          → length (made_in s client) ≤ 0
      places None s here =
          let none = ap (λ o. length (view_by o).made) here in omega arith
      places (Some seat) s here =
          let same = ap (λ o. length (view_by o).made) here in
          let none = (fresh s seat here).0 in
          omega arith

      charges : (o : Option (ShardSeat (Seeded T))) (s : ℕ) → slice_get client.seats.items s ≡ o
          → stood_in s client + charges_in s client ≤ 0
      charges None s here =
          let none = ap (λ o. standing_of (view_by o).work + charge_made (view_by o)) here in
          omega arith
      charges (Some seat) s here =
          let same = ap (λ o. standing_of (view_by o).work + charge_made (view_by o)) here in
          let none = (fresh s seat here).1 in
          omega arith

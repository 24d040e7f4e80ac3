-- What a client holds is charged less than the greatest count.
use Rattle.std.proofs.Common.{◌≡◌, ℕ, suc, ◌+◌, ◌-◌, ◌*◌, ◌^◌, ◌<◌, ◌≤◌, List, [], ◌∷◌, Some, length, slice_get, refl, arith}
use Rattle.hcc_core.specs.declared.client.Standalone.{Standalone}
use Rattle.hcc_core.specs.Sums.{total}
use Rattle.hcc_rule.specs.declared.view.Record.{Record}
use Rattle.hcc_rule.specs.declared.view.View.{View}
use Rattle.hcc_rule.specs.Views.{Each}
use Rattle.hcc_rule.proofs.Basics.Lists.{there, within}
use Rattle.hcc_rule.proofs.Basics.Records.{different_part}
use Rattle.hcc_shard.specs.declared.seat.ShardSeat.{ShardSeat}
use Rattle.hcc_shard.specs.Callers.{view_of}
use Rattle.hcc_cache.specs.declared.cache.Cache.{Cache}
use Rattle.hcc_cache.specs.declared.client.Client.{Client}
use Rattle.hcc_cache.specs.Known.{AreCharged, Knows, records_at, standalones_at}
use Rattle.hcc_cache.specs.Totals.{charge_at, charge_by, charge_in}
use Rattle.hcc_cache.proofs.Insertions.HandleOnInserted.{alone_within}

-- a sum of charges, by how many they are
charges_below : {A : Type 0} (f : A → ℕ) (xs : List A) → Each (λ x. f x < 2 ^ 32) xs
    → total f xs ≤ length xs * 2 ^ 32
charges_below f [] each = omega arith
charges_below f (x ∷ xs) each =
    let first = each.0 in
    let rest = charges_below f xs each.1 in
    omega arith

-- what a client holds in a shard, by how much it holds there
charge_below : {T : Type 0} (v : View T) → AreCharged v
    → charge_in v ≤ (length v.records + length v.work.standalones) * 2 ^ 32
charge_below v charged =
    let part = different_part (λ (r : Record). r.entry.charge) v.records in
    let records = charges_below (λ (r : Record). r.entry.charge) v.records charged.records in
    let standalones =
    charges_below (λ (s : Standalone). s.charge) v.work.standalones charged.standalones in
    omega arith

-- and in all shards
all_below : {T : Type 0} (seats : List (ShardSeat T))
    → ((s : ℕ) (seat : ShardSeat T) → slice_get seats s ≡ Some seat → AreCharged (view_of seat))
    → total charge_at seats ≤ (total records_at seats + total standalones_at seats) * 2 ^ 32
all_below [] charged = omega arith
all_below (seat ∷ seats) charged =
    let first = charge_below (view_of seat) (charged 0 seat refl) in
    let rest = all_below seats (λ s one at. charged (suc s) one at) in
    omega arith

-- So all that a client holds is charged less than that: it holds no more than it has handles.
pub charge_counts : {T : Type 0} (cache : Cache T) (client : Client T) → Knows cache client
    → charge_by client < 2 ^ 64 - 1
charge_counts cache client knows =
    let charged = all_below client.seats.items (λ s seat at.
    let inside = within client.seats.items s seat at in
    let count = knows.seated.count in
    let shard = there cache.shards.items s (omega arith) in
    (knows.seated.each s shard.0 seat shard.1 at).charged) in
    let pins = knows.holds.pins in
    let entries = knows.holds.entries in
    let references = knows.holds.references in
    let alone = alone_within cache client knows in
    let count = knows.count in
    let few = knows.few in
    let most = knows.most in
    omega arith

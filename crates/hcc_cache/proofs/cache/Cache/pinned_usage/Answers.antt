use Rattle.std.proofs.Common.{◌≡◌, ◌+◌, ◌-◌, ◌*◌, ◌^◌, ◌≤◌, [], ◌∷◌, ◌++◌, min, ap, length, ◌∙◌, arith, refl}
use Rattle.hcc_core.proofs.SumLemmas.{total-append}
use Rattle.hcc_table.specs.Searched.{Sought}
use Rattle.hcc_cache.specs.Clients.{view_at}
use Rattle.hcc_cache.specs.Totals.{CountsHeldAt, charge_by, charge_in}
use Rattle.hcc_cache.proofs.Clients.ChargesBounded.{charge_counts}
use Rattle.hcc_cache.proofs.Clients.FoundAtEachShard.{each_first, each_next}
use Rattle.hcc_cache.proofs.Clients.DoneAtAllShards.{goes_first, goes_on, most_counted, same_counted, sought_all, sum_all, sum_next, sum_to}
use Rattle.hcc_cache.proofs.Clients.ShownAfterwards.{stays_same, stays_then}
use Rattle.hcc_cache.proofs.HandedBack.AloneAfterwards.{alone_same, alone_then}
use Rattle.hcc_cache.proofs.cache.Cache.pinned_usage.Goals as goal

pub loop-shard-init : goal.loop-shard-init
loop-shard-init g c = (
  goes_first c.args.self.now Sought (5 * c.args.self.now.geometry.slots + 1) c.args.client.now
      c.requires,
  omega arith,
  λ one. omega arith,
  [],
  each_first c.args.self.now (CountsHeldAt g.T.Tag.fits) c.args.client.now,
  omega arith,
  stays_same c.args.self.now c.args.client.now c.args.client.now refl,
  alone_same c.args.client.now c.args.client.now refl refl,
)

pub loop-shard-preserved : goal.loop-shard-preserved
loop-shard-preserved g c =
    let cache = c.args.self.now in
    let old = c.args.client.now in
    let now = c.loop-shard.client in
    let k = c.loop-shard.shard in
    let told = c.pinned_at.ensures in
    let stays = c.loop-shard.invariant.0.left k (omega arith) in
    let charge : charge_in (view_at k now) ≡ charge_in (view_at k old) = ap charge_in stays in
    let more = told.entries in
    let counts = c.loop-shard.invariant.3 in
    let next = c.pinned_at.new.client in (
      goes_on cache Sought (5 * cache.geometry.slots + 1) old now next k (view_at k next)
          c.loop-shard.invariant.0 told.known told.keeps told.view (rw (← stays) told.sought)
          told.steps,
      rw (sum_next k (λ s. charge_in (view_at s old)), c.saturating_add-sum.ensures)
          (most_counted (sum_to k (λ s. charge_in (view_at s old))) (charge_in (view_at k old))
          c.loop-shard.sum c.pinned_at.result c.loop-shard.invariant.1 (omega arith)),
      λ one. rw (sum_next k (λ s. charge_in (view_at s old)), c.saturating_add-sum.ensures)
          (same_counted (sum_to k (λ s. charge_in (view_at s old))) (charge_in (view_at k old))
          c.loop-shard.sum c.pinned_at.result (c.loop-shard.invariant.2 one)
          (told.alone one ∙ charge)),
      counts ++ c.pinned_at.result ∷ [],
      each_next cache (CountsHeldAt g.T.Tag.fits) counts old now next k c.pinned_at.result
          c.loop-shard.invariant.4 told.loads told.others,
      (let before = c.loop-shard.invariant.5 in let sum = c.saturating_add-sum.ensures in
          let found = total-append (λ n. n) counts (c.pinned_at.result ∷ []) in omega arith),
      stays_then cache old now next c.loop-shard.invariant.6 told.stays,
      alone_then old now next c.loop-shard.invariant.7 told.standing,
    )

pub returns-clause-entries : goal.returns-clause-entries
returns-clause-entries g c =
    let old = c.args.client.now in
    let last = c.loop-shard-test.false in
    let near = c.loop-shard.auto.shard-end in
    let count = c.requires.seated.count in
    let size = c.len-shard-end.ensures in
    let end : c.loop-shard.shard ≡ length old.seats.items = omega arith in
    let low : min (charge_by old) (2 ^ 64 - 1) ≤ c.loop-shard.sum =
    rw (sum_all charge_in old.seats.items, ← end) c.loop-shard.invariant.1 in
    let counts = charge_counts c.args.self.now old c.requires in
    omega arith

pub returns-clause-alone : goal.returns-clause-alone
returns-clause-alone g c one =
    let old = c.args.client.now in
    let last = c.loop-shard-test.false in
    let near = c.loop-shard.auto.shard-end in
    let count = c.requires.seated.count in
    let size = c.len-shard-end.ensures in
    let end : c.loop-shard.shard ≡ length old.seats.items = omega arith in
    let is : c.loop-shard.sum ≡ min (charge_by old) (2 ^ 64 - 1) =
    rw (sum_all charge_in old.seats.items, ← end) (c.loop-shard.invariant.2 one) in
    let counts = charge_counts c.args.self.now old c.requires in
    omega arith

pub returns-clause-views : goal.returns-clause-views
returns-clause-views g c = record {
  all =
      sought_all c.args.self.now (5 * c.args.self.now.geometry.slots + 1) c.args.client.now
      c.loop-shard.client c.loop-shard.shard c.loop-shard.invariant.0;
  self = c.loop-shard.invariant.0.self;
}

pub returns-clause-loads : goal.returns-clause-loads
returns-clause-loads g c =
    let last = c.loop-shard-test.false in
    let near = c.loop-shard.auto.shard-end in
    let size = c.len-shard-end.ensures in
    let finds = c.loop-shard.invariant.4 in
    let count = finds.count in
    record {
      counts = c.loop-shard.invariant.3;
      loads = record { count = omega arith; each = finds.each };
      sum = c.loop-shard.invariant.5;
    }

pub returns-clause-stays : goal.returns-clause-stays
returns-clause-stays g c = c.loop-shard.invariant.6

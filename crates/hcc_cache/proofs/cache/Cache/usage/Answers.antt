use Rattle.std.proofs.Common.{mul-suc, ◌≡◌, ◌-◌, ◌^◌, ◌≤◌, [], ◌∷◌, ◌++◌, min, refl, ap, ◌∙◌, length, arith}
use Rattle.hcc_core.proofs.SumLemmas.{total-append}
use Rattle.hcc_rule.specs.ToldLedgers.{after_usage}
use Rattle.hcc_shard.specs.Counted.{LoadsUsage}
use Rattle.hcc_cache.specs.Clients.{view_at}
use Rattle.hcc_cache.specs.Totals.{charge_by, charge_in}
use Rattle.hcc_cache.proofs.Clients.ChargesBounded.{charge_counts}
use Rattle.hcc_cache.proofs.Clients.FoundAtEachShard.{each_first, each_next}
use Rattle.hcc_cache.proofs.Clients.DoneAtAllShards.{goes_first, goes_on, most_counted, sum_all, sum_next, sum_to}
use Rattle.hcc_cache.proofs.HandedBack.AloneAfterwards.{alone_same, alone_then}
use Rattle.hcc_cache.proofs.cache.Cache.usage.Goals as goal

pub loop-shard-init : goal.loop-shard-init
loop-shard-init g c = (
  goes_first c.args.self.now _ 1 c.args.client.now c.requires,
  omega arith,
  λ strict. omega arith,
  [],
  each_first c.args.self.now LoadsUsage c.args.client.now,
  omega arith,
  λ s. refl,
  alone_same c.args.client.now c.args.client.now refl refl,
)

pub loop-shard-preserved : goal.loop-shard-preserved
loop-shard-preserved g c =
    let cache = c.args.self.now in
    let old = c.args.client.now in
    let now = c.loop-shard.client in
    let k = c.loop-shard.shard in
    let told = c.usage_at.ensures in
    let stays = c.loop-shard.invariant.0.left k (omega arith) in
    let charge : charge_in (view_at k now) ≡ charge_in (view_at k old) = ap charge_in stays in
    let counts = c.loop-shard.invariant.3 in
    let more = told.entries in (
      goes_on cache _ 1 old now c.usage_at.new.client k
          (after_usage told.view.0 (view_at k now)) c.loop-shard.invariant.0 told.known told.keeps
          told.view.1 (told.view.0, ap (after_usage told.view.0) stays) told.steps,
      rw (sum_next k (λ s. charge_in (view_at s old)), c.saturating_add-sum.ensures)
          (most_counted (sum_to k (λ s. charge_in (view_at s old))) (charge_in (view_at k old))
          c.loop-shard.sum c.usage_at.result c.loop-shard.invariant.1 (omega arith)),
      λ strict.
          let one = told.strict strict in
          let before = c.loop-shard.invariant.2 strict in
          let product = mul-suc cache.capacity k in
          let sum = c.saturating_add-sum.ensures in
          omega arith,
      counts ++ c.usage_at.result ∷ [],
      each_next cache LoadsUsage counts old now c.usage_at.new.client k c.usage_at.result
          c.loop-shard.invariant.4 told.loads told.others,
      (let before = c.loop-shard.invariant.5 in let sum = c.saturating_add-sum.ensures in
          let more = total-append (λ n. n) counts (c.usage_at.result ∷ []) in omega arith),
      λ s. told.counts s ∙ c.loop-shard.invariant.6 s,
      alone_then old now c.usage_at.new.client c.loop-shard.invariant.7 told.standing,
    )

pub returns-clause-entries : goal.returns-clause-entries
returns-clause-entries g c =
    let old = c.args.client.now in
    let last = c.loop-shard-test.false in
    let near = c.loop-shard.auto.shard-end in
    let count = c.requires.seated.count in
    let size = c.len-shard-end.ensures in
    let end : c.loop-shard.shard ≡ length old.seats.items = omega arith in
    let low : min (charge_by old) (2 ^ 64 - 1) ≤ c.loop-shard.sum =
    rw (sum_all charge_in old.seats.items, ← end) c.loop-shard.invariant.1 in
    let counts = charge_counts c.args.self.now old c.requires in
    omega arith

pub returns-clause-loads : goal.returns-clause-loads
returns-clause-loads g c =
    let last = c.loop-shard-test.false in
    let near = c.loop-shard.auto.shard-end in
    let size = c.len-shard-end.ensures in
    let finds = c.loop-shard.invariant.4 in
    let count = finds.count in
    record {
      counts = c.loop-shard.invariant.3;
      loads = record { count = omega arith; each = finds.each };
      sum = c.loop-shard.invariant.5;
    }

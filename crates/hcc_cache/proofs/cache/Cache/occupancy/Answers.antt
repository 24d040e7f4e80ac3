use Rattle.std.proofs.Common.{mul_comm, mul-suc, ◌≡◌, ◌+◌, ◌*◌, ◌/◌, ◌^◌, [], ◌∷◌, ◌++◌, refl, ap, ◌∙◌, length, arith}
use Rattle.hcc_core.specs.declared.limits.TheConstants.{OCCUPANCY_PERCENT}
use Rattle.hcc_core.proofs.SumLemmas.{total-append}
use Rattle.hcc_rule.specs.Records.{different}
use Rattle.hcc_shard.specs.Callers.{LoadsOccupancy}
use Rattle.hcc_cache.specs.Clients.{view_at}
use Rattle.hcc_cache.proofs.Clients.FoundAtEachShard.{each_first, each_next}
use Rattle.hcc_cache.proofs.Clients.DoneAtAllShards.{goes_first, goes_on, sum_all, sum_next}
use Rattle.hcc_cache.proofs.HandedBack.AloneAfterwards.{alone_same, alone_then}
use Rattle.hcc_cache.proofs.cache.Cache.occupancy.Goals as goal

pub loop-shard-init : goal.loop-shard-init
loop-shard-init g c = (
  goes_first c.args.self.now (λ v w. w ≡ v) 1 c.args.client.now c.requires,
  omega arith,
  omega arith,
  λ one. omega arith,
  omega arith,
  [],
  each_first c.args.self.now LoadsOccupancy c.args.client.now,
  refl,
  λ s. refl,
  alone_same c.args.client.now c.args.client.now refl refl,
)

pub loop-shard-preserved : goal.loop-shard-preserved
loop-shard-preserved g c =
    let cache = c.args.self.now in
    let old = c.args.client.now in
    let now = c.loop-shard.client in
    let k = c.loop-shard.shard in
    let told = c.occupancy_at-sum.ensures in
    let stays = c.loop-shard.invariant.0.left k (omega arith) in
    let sum = c.loop-shard.invariant in
    let entries : length (different (view_at k now).records)
    ≡ length (different (view_at k old).records) =
    ap (λ v. length (different v.records)) stays in
    let takings : (view_at k now).takings ≡ (view_at k old).takings = ap (λ v. v.takings) stays in
    let made : length (view_at k now).made ≡ length (view_at k old).made =
    ap (λ v. length v.made) stays in
    let rests = told.reads.rests in (
      goes_on cache (λ v w. w ≡ v) 1 old now c.occupancy_at-sum.new.client k (view_at k now) sum.0
          told.known told.reads.keeps
          (record {
            before = refl;
            after = rests.all k;
            others = λ s ne. rests.all s;
            self = rests.self;
          })
          stays told.steps,
      rw (sum_next k (λ s. length (different (view_at s old).records)))
          (let so = sum.1 in let more = told.entries in omega arith),
      (let so = sum.2 in let low = told.low in let product = mul-suc (2 ^ 33) k in omega arith),
      λ one. rw (
        sum_next k (λ s. (view_at s old).takings),
        sum_next k (λ s. length (view_at s old).made),
      )
          (let so = sum.3 one in let more = told.alone one in omega arith),
      (let so = sum.4 in let high = told.high in
          let product = mul-suc
          (cache.geometry.slots * OCCUPANCY_PERCENT / 100 + cache.geometry.clients) k in
          omega arith),
      sum.5 ++ c.occupancy_at-sum.result ∷ [],
      each_next cache LoadsOccupancy sum.5 old now c.occupancy_at-sum.new.client k
          c.occupancy_at-sum.result sum.6 told.loads told.others,
      (let so = sum.7 in
          let more = total-append (λ n. n) sum.5 (c.occupancy_at-sum.result ∷ []) in
          omega arith),
      λ s. rests.counts s ∙ sum.8 s,
      alone_then old now c.occupancy_at-sum.new.client sum.9 told.standing,
    )

pub returns-clause-entries : goal.returns-clause-entries
returns-clause-entries g c =
    let old = c.args.client.now in
    let last = c.loop-shard-test.false in
    let near = c.loop-shard.auto.shard-end in
    let count = c.requires.seated.count in
    let size = c.len-shard-end.ensures in
    let end : c.loop-shard.shard ≡ length old.seats.items = omega arith in
    rw (sum_all (λ v. length (different v.records)) old.seats.items, ← end)
    c.loop-shard.invariant.1

pub returns-clause-alone : goal.returns-clause-alone
returns-clause-alone g c one =
    let old = c.args.client.now in
    let last = c.loop-shard-test.false in
    let near = c.loop-shard.auto.shard-end in
    let count = c.requires.seated.count in
    let size = c.len-shard-end.ensures in
    let end : c.loop-shard.shard ≡ length old.seats.items = omega arith in
    rw (
      sum_all (λ v. v.takings) old.seats.items,
      sum_all (λ v. length v.made) old.seats.items,
      ← end,
    )
    (c.loop-shard.invariant.3 one)

pub returns-clause-high : goal.returns-clause-high
returns-clause-high g c =
    let cache = c.args.self.now in
    let last = c.loop-shard-test.false in
    let near = c.loop-shard.auto.shard-end in
    let size = c.len-shard-end.ensures in
    let end : c.loop-shard.shard ≡ length cache.shards.items = omega arith in
    let each = cache.geometry.slots * OCCUPANCY_PERCENT / 100 + cache.geometry.clients in
    rw (mul_comm (length cache.shards.items) each, ← end) c.loop-shard.invariant.4

pub returns-clause-loads : goal.returns-clause-loads
returns-clause-loads g c =
    let last = c.loop-shard-test.false in
    let near = c.loop-shard.auto.shard-end in
    let size = c.len-shard-end.ensures in
    let finds = c.loop-shard.invariant.6 in
    let count = finds.count in
    record {
      counts = c.loop-shard.invariant.5;
      loads = record { count = omega arith; each = finds.each };
      sum = c.loop-shard.invariant.7;
    }

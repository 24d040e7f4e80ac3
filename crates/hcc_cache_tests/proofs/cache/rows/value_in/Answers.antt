use Rattle.std.proofs.Common.{rules, ◌≤◌, subst, arith}
use Rattle.hcc_cache.specs.Left.{length_of, InShard, TellsEntry}
use Rattle.hcc_cache_tests.proofs.cache.rows.value_in.Goals as goal

pub value-length-requires-clause-entry : goal.value-length-requires-clause-entry
value-length-requires-clause-entry g c =
    let closed = c.args.closed.now in
    let entry = c.expect-entry.result in
    let told = subst (λ o. InShard closed.shards.items 0 (TellsEntry closed.seed c.args.slot o))
    c.expect-entry.ensures c.entry.ensures in
    let short : entry.len ≤ 16 = search rules in
    let len = told.2.3 in (
      told.0,
      told.1,
      (
        told.2.0,
        (let fits : length_of c.args.slot told.0 ≤ 16 =
            omega (arith, len, short) in fits),
      ),
    )

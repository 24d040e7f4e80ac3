use Rattle.std.proofs.Common.{◌≡◌, rules, subst}
use Rattle.hcc_rule.specs.Rule.{IsAbove}
use Rattle.hcc_rule.specs.Seats.{view}
use Rattle.hcc_shard_tests.proofs.table.caller.Caller.peek.Goals as goal

pub invariant_of-self-clause-bench : goal.invariant_of-self-clause-bench
invariant_of-self-clause-bench g c = search rules

pub invariant_of-self-clause-above : goal.invariant_of-self-clause-above
invariant_of-self-clause-above g c =
    let before = c.args.self.now in
    let kept : (view before.seat).made ≡ (view c.release-freed.new.seat).made = search rules in
    subst (λ book. IsAbove before.shown book) kept before.above

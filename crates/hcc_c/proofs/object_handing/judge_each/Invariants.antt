use Rattle.std.proofs.Common.{◌≡◌, drop, IsSome}
use Rattle.hcc_rule.specs.Views.{Each}
use Rattle.hcc_c.specs.ObjectPools.{judged_each, held_in}
use Rattle.hcc_c.proofs.object_handing.judge_each.Given as goal

abbrev pub invariant-loop-k : goal.invariant-loop-k
invariant-loop-k l = record {
  same : held_in l.places ≡ held_in l.fn.places;
  some : Each IsSome (drop l.k (held_in l.places));
  rest : judged_each l.number (drop l.k (held_in l.places))
      ≡ judged_each l.number (held_in l.fn.places);
}

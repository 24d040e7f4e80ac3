use Rattle.std.proofs.Common.{◌≡◌, ◌+◌, ◌++◌, IsSome, drop, length, take, vec_capacity}
use Rattle.hcc_rule.specs.Views.{Each}
use Rattle.hcc_c.specs.ObjectPools.{IsEmpty, clients_in, held_in}
use Rattle.hcc_c.proofs.object_handing.take_each.Given as goal

abbrev pub invariant-loop-k : goal.invariant-loop-k
invariant-loop-k l = record {
  some : Each IsSome (drop l.k (held_in l.places));
  none : Each IsEmpty (take l.k (held_in l.places));
  back : l.back.items ++ clients_in (drop l.k (held_in l.places))
      ≡ l.fn.back.items ++ clients_in (held_in l.fn.places);
  more : length l.back.items ≡ length l.fn.back.items + l.k;
  room : vec_capacity l.back ≡ vec_capacity l.fn.back;
}

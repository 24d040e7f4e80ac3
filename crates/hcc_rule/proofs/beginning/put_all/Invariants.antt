use Rattle.std.specs.Prelude.{take}
use Rattle.hcc_rule.specs.Images.{BeginsWith}
use Rattle.hcc_rule.proofs.beginning.put_all.Given as goal

abbrev pub invariant-loop-number : goal.invariant-loop-number
invariant-loop-number l =
    BeginsWith l.geometry.slots l.geometry.room (take l.number l.image) l.words

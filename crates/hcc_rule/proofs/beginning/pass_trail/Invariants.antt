use Rattle.hcc_rule.proofs.Images.Puts.{IsPassing}
use Rattle.hcc_rule.proofs.beginning.pass_trail.Given as goal

abbrev pub invariant-loop : goal.invariant-loop
invariant-loop l =
    IsPassing l.fn.geometry.slots l.fn.geometry.room l.entry.key l.entry.slot l.counter l.probe
    l.fn.words l.words

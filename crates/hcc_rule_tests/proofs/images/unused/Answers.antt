use Rattle.hcc_rule.specs.Callers.{plan_of}
use Rattle.hcc_rule.specs.Images.{entries_in}
use Rattle.hcc_rule_tests.proofs.NewSeats.{both_back}
use Rattle.hcc_rule_tests.proofs.images.unused.Goals as goal

pub returns-clause-words : goal.returns-clause-words
returns-clause-words c =
    let table = c.args.table in
    let second = c.remove-second.ensures in
    let back = both_back _ _ (entries_in (plan_of table).image) c.args.seats.items
    c.remove-first.result c.remove-second.result c.join.new.seat c.requires.count c.requires.seats
    second.value (rw (← second.items) c.remove-first.ensures.value) c.join.ensures.both
    c.join.ensures.moves in
    rw table.planned.0 (c.close.ensures.begins (rw c.requires.clients back.0) back.1)

use Rattle.hcc_rule.specs.Callers.{id_of, plan_of}
use Rattle.hcc_rule.specs.Images.{entries_in, maker_of}
use Rattle.hcc_rule.proofs.Seats.Dealing.{Deals}
use Rattle.hcc_rule.proofs.table.RuleTable.dealt.Given as goal

abbrev pub invariant-loop : goal.invariant-loop
invariant-loop g l =
    Deals (id_of l.self) (plan_of l.self).tag
    (maker_of (entries_in (plan_of l.self).image)) l.self.geometry.clients
    l.counter l.first l.seats.items

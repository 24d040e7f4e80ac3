use Rattle.std.proofs.Common.{ap, is_some}
use Rattle.hcc_rule.specs.Callers.{plan_of}
use Rattle.hcc_rule.proofs.References.Exchanges.{correct_step}
use Rattle.hcc_rule.proofs.table.RuleTable.correct.Goals as goal

pub compare_exchange-requires : goal.compare_exchange-requires
compare_exchange-requires g c =
    let planned = c.args.self.now.planned in
    let seat = c.requires.seat in (
      seat,
      c.address.ensures.inside,
      correct_step g.T.Tag.fits (plan_of c.args.self.now) _ _ c.args.slot c.args.name _
          c.args.old c.args.new _
          (ap is_some seat.tagged) c.ranges.name.fits (rw planned.0 c.address.ensures.value)
          c.requires.holds c.requires.correctable c.requires.corrected,
    )

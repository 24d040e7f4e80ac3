use Rattle.std.proofs.Common.{ap, is_some}
use Rattle.hcc_rule.specs.Callers.{plan_of}
use Rattle.hcc_rule.proofs.References.Exchanges.{clock_step}
use Rattle.hcc_rule.proofs.table.RuleTable.clock_at.Goals as goal

pub compare_exchange-requires : goal.compare_exchange-requires
compare_exchange-requires g c =
    let planned = c.args.self.now.planned in
    let seat = c.requires.seat in (
      seat,
      c.head_address-address.ensures.inside,
      clock_step g.T.Tag.fits (plan_of c.args.self.now) _ _ c.args.at.slot _ c.args.old
          c.args.new _
          (rw planned.0 c.requires.at.0) (ap is_some seat.tagged)
          (rw planned.0 c.head_address-address.ensures.value)
          c.requires.clockable c.requires.clocked,
    )

use Rattle.std.proofs.Common.{ap, is_some, sym, ◌∙◌}
use Rattle.hcc_rule.specs.declared.layout.TheConstants.{STAMP}
use Rattle.hcc_rule.specs.Callers.{plan_of}
use Rattle.hcc_rule.proofs.Entries.Glimpses.{glimpse_step}
use Rattle.hcc_rule.proofs.Parts.Addresses.{data_field}
use Rattle.hcc_rule.proofs.table.RuleTable.glimpse_at.Goals as goal

pub load-requires : goal.load-requires
load-requires g c =
    let planned = c.args.self.now.planned in
    let seat = c.requires.seat in (
      seat,
      c.data_address-address.ensures.inside,
      glimpse_step g.T.Tag.fits (plan_of c.args.self.now) _ _ c.args.at.slot _ _
          (ap is_some seat.tagged) (rw planned.0 c.requires.at.0) c.requires.looked
          (rw planned.0 (c.data_address-address.ensures.value
          ∙ sym (data_field _ c.args.at.slot STAMP))),
    )

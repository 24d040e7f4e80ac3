use Rattle.std.proofs.Common.{ap, is_some, sym, ◌∙◌}
use Rattle.hcc_rule.specs.Callers.{plan_of}
use Rattle.hcc_rule.proofs.Parts.Addresses.{data_field}
use Rattle.hcc_rule.proofs.Entries.Writes.{write_step}
use Rattle.hcc_rule.proofs.table.RuleTable.write_at.Goals as goal

pub store-requires : goal.store-requires
store-requires g c =
    let planned = c.args.self.now.planned in
    let seat = c.requires.seat in
    let next = c.requires.next in (
      seat,
      c.data_address.ensures.inside,
      write_step g.T.Tag.fits (plan_of c.args.self.now) _ _ c.args.at.slot _ _ _
          (rw planned.0 c.requires.at.0) (ap is_some seat.tagged) c.requires.owned
          (rw (planned.0, ← next.0) next.1) (λ is. c.requires.stamp (next.0 ∙ is))
          (rw (planned.0, ← next.0) (c.data_address.ensures.value
          ∙ sym (data_field _ c.args.at.slot c.args.index))),
    )

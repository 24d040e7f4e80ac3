use Rattle.std.proofs.Common.{ap, is_some}
use Rattle.hcc_rule.specs.Callers.{plan_of}
use Rattle.hcc_rule.proofs.Entries.Shows.{show_step}
use Rattle.hcc_rule.specs.ToldOwners.{made_of}
use Rattle.hcc_rule.proofs.table.RuleTable.show_at.Goals as goal

pub store-requires : goal.store-requires
store-requires g c =
    let planned = c.args.self.now.planned in
    let seat = c.requires.seat in (
      seat,
      c.head_address-address.ensures.inside,
      show_step g.T.Tag.fits (plan_of c.args.self.now) _ _ c.args.at.slot
          c.args.draft.countdown _ _
          c.args.draft.name (made_of c.args.draft c.args.value.now) _ (rw planned.0 c.requires.at.0)
          (ap is_some seat.tagged)
          c.requires.may (rw (← c.is_some.ensures) c.started-word.ensures.entry)
          (rw planned.0 c.head_address-address.ensures.value),
    )

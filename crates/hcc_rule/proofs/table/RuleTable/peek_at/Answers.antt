use Rattle.std.proofs.Common.{◌≡◌, Option, Some, None, IfSome, ap, is_some, sym, ◌∙◌, refl}
use Rattle.hcc_core.specs.Runs.{entry_at}
use Rattle.hcc_core.specs.declared.slot.Entry.{Entry}
use Rattle.hcc_rule.specs.Callers.{plan_of, world_at}
use Rattle.hcc_rule.specs.ToldOwners.{IsDataWord}
use Rattle.hcc_rule.proofs.Entries.Glimpses.{peek_step}
use Rattle.hcc_rule.proofs.Parts.Addresses.{data_field}
use Rattle.hcc_rule.proofs.Seats.Histories.{moved}
use Rattle.hcc_rule.proofs.table.RuleTable.peek_at.Goals as goal

pub load-requires : goal.load-requires
load-requires g c =
    let planned = c.args.self.now.planned in
    let seat = c.requires.seat in (
      seat,
      c.data_address.ensures.inside,
      peek_step g.T.Tag.fits (plan_of c.args.self.now) _ _ c.args.at.slot _ c.args.index _
          (ap is_some seat.tagged) (rw planned.0 c.requires.at.0)
          (rw planned.0 (c.data_address.ensures.value
          ∙ sym (data_field _ c.args.at.slot c.args.index))),
    )

pub returns-clause-word : goal.returns-clause-word
returns-clause-word g c =
    by (entry_at (world_at c.args.self.now c.load.new.seat) c.args.at.slot) refl
  where
    by : (o : Option Entry) → entry_at (world_at c.args.self.now c.load.new.seat) c.args.at.slot ≡ o
        → IfSome o (λ entry. IsDataWord entry c.args.index c.load.result)
    by None there = tt
    by (Some entry) there =
        let did = c.load.ensures.does in
        (c.load.ensures.sees (moved _ _ _ did.3 _ _ did.4.3.1 did.5)).word c.args.at.slot
        c.args.index entry (rw c.args.self.now.planned.0 (c.data_address.ensures.value
        ∙ sym (data_field _ c.args.at.slot c.args.index))) there

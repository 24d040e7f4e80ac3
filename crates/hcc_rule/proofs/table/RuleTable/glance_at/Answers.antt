use Rattle.std.proofs.Common.{◌≡◌, Option, Some, None, IfSome, ap, is_some, refl, subst}
use Rattle.hcc_core.specs.Runs.{entry_at}
use Rattle.hcc_core.specs.declared.slot.Entry.{Entry}
use Rattle.hcc_rule.specs.declared.geometry.Geometry.{Geometry}
use Rattle.hcc_rule.specs.Callers.{plan_of, world_at}
use Rattle.hcc_rule.specs.ToldGlimpses.{IsRightEntry}
use Rattle.hcc_rule.proofs.Entries.Glimpses.{glance_step}
use Rattle.hcc_rule.proofs.Seats.Histories.{moved}
use Rattle.hcc_rule.proofs.table.RuleTable.glance_at.Goals as goal

pub load-requires : goal.load-requires
load-requires g c =
    let planned = c.args.self.now.planned in
    let seat = c.requires.seat in (
      seat,
      c.head_address.ensures.inside,
      glance_step g.T.Tag.fits (plan_of c.args.self.now) _ _ c.args.at.slot _ _
          (ap is_some seat.tagged) (rw planned.0 c.requires.at.0) c.requires.glimpse
          (rw planned.0 c.head_address.ensures.value),
    )

pub returns-clause-right : goal.returns-clause-right
returns-clause-right g c =
    by (entry_at (world_at c.args.self.now c.load.new.seat) c.args.at.slot) refl
  where
    by : (o : Option Entry) → entry_at (world_at c.args.self.now c.load.new.seat) c.args.at.slot ≡ o
        → IfSome o (IsRightEntry g.T.Tag.fits (plan_of c.args.self.now).tag
        c.args.self.now.geometry.room)
    by None there = tt
    by (Some entry) there =
        let did = c.load.ensures.does in
        subst (λ (z : Geometry). IsRightEntry g.T.Tag.fits (plan_of c.args.self.now).tag z.room
        entry) c.args.self.now.planned.0
        ((c.load.ensures.sees (moved _ _ _ did.3 _ _ did.4.1.2 did.5)).right c.args.at.slot entry
        there)

pub returns-clause-between : goal.returns-clause-between
returns-clause-between g c =
    let did = c.load.ensures.does in
    (c.load.ensures.sees (moved _ _ _ did.3 _ _ did.4.1.2 did.5)).between

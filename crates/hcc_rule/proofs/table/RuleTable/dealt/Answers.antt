use Rattle.std.proofs.Common.{◌+◌, ap, ◌∙◌}
use Rattle.hcc_rule.specs.Callers.{id_of, plan_of}
use Rattle.hcc_rule.specs.declared.view.View.{View}
use Rattle.hcc_rule.specs.Images.{entries_in, maker_of}
use Rattle.hcc_rule.specs.Opening.{unstarted}
use Rattle.hcc_rule.proofs.Seats.Dealing.{unstarted_from, next_unstarted, deal}
use Rattle.hcc_rule.proofs.table.RuleTable.dealt.Goals as goal

pub split-requires-clause-another : goal.split-requires-clause-another
split-requires-clause-another g c =
    let clients : _ = c.args.self.now.geometry.clients in (
      unstarted c.loop.counter,
      unstarted_from (c.loop.counter + 1) clients,
      ap (λ (v : View g.row.T.Denot). v.others) c.loop.invariant.view_is
          ∙ next_unstarted c.loop.counter clients c.loop-test.true,
    )

pub loop-preserved : goal.loop-preserved
loop-preserved g c =
    let told = c.split.ensures in
    rw (c.in_ok-push.ensures.items)
    (deal (id_of c.args.self.now) (plan_of c.args.self.now).tag
    (maker_of (entries_in (plan_of c.args.self.now).image))
    c.args.self.now.geometry.clients c.loop.counter c.loop.first c.split.new.seat c.split.result
    c.loop.seats.items c.loop.invariant c.loop-test.true told.seat told.left told.new told.right
    told.kept told.none told.moves.0 told.moves.1 told.past.0 told.past.1)

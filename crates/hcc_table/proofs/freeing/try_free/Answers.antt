use Rattle.std.proofs.Common.{IfSome, length, ap, subst, arith, ne_eqb}
use Rattle.std.proofs.lemmas.Bool.{eq-eqb}
use Rattle.hcc_rule.specs.declared.view.View.{View}
use Rattle.hcc_rule.specs.Callers.{plan_of, room_of, slots_of}
use Rattle.hcc_rule.specs.Rule.{IsRight}
use Rattle.hcc_rule.specs.Seats.{view}
use Rattle.hcc_table.proofs.Handed.{hands_none, hands_taken, taken_word}
use Rattle.hcc_table.proofs.TakesBack.{freed, lost_by, taken_at, taken_by, trail_short}
use Rattle.hcc_table.proofs.freeing.try_free.Goals as goal

pub returns-clause-taken : goal.returns-clause-taken
returns-clause-taken g c =
    taken_at (eq-eqb c.free_at.result c.args.word c.if-free_at-word.false) c.free_at.ensures.view
    c.free_taken_at.ensures.charge c.free_taken_at.ensures.view

pub returns-clause-freed : goal.returns-clause-freed
returns-clause-freed g c =
    freed g.T.Tag.fits c.args.table.now.geometry.slots c.args.table.now.geometry.room c.args.at.slot
    c.args.word c.free_taken_at.result c.args.name (view c.args.seat.now)
    (view c.free_taken_at.new.seat)
    (taken_at (eq-eqb c.free_at.result c.args.word c.if-free_at-word.false) c.free_at.ensures.view
    c.free_taken_at.ensures.charge c.free_taken_at.ensures.view)

pub returns-clause-steps : goal.returns-clause-steps
returns-clause-steps g c =
    let slots = c.args.table.now.geometry.slots in
    let one = c.free_at.ensures.step.one in
    let last = c.free_taken_at.ensures.steps in
    let got = c.free_at.ensures.view.won
    (eq-eqb c.free_at.result c.args.word c.if-free_at-word.false) in
    let trail = ap (λ (v : View g.row.T.Denot). length v.work.trail) got.3 in
    let short = trail_short got.1.key c.args.table.now.limits.power c.requires.at.0 in
    omega arith

pub returns-clause-by : goal.returns-clause-by
returns-clause-by g c =
    taken_by c.if-free_at-word.false c.free_at.ensures.view c.free_taken_at.ensures.charge
    c.free_at.ensures.event c.free_taken_at.ensures.past

pub returns-then-free_at-word-clause-by : goal.returns-then-free_at-word-clause-by
returns-then-free_at-word-clause-by g c = lost_by _ c.if-free_at-word.true c.free_at.ensures.event

pub returns-then-free_at-word-clause-list : goal.returns-then-free_at-word-clause-list
returns-then-free_at-word-clause-list g c =
    hands_none (ap (λ (v : View g.row.T.Denot). v.gone)
    (c.free_at.ensures.view.lost (ne_eqb c.free_at.result c.args.word c.if-free_at-word.true)))

pub free_taken_at-requires-clause-has : goal.free_taken_at-requires-clause-has
free_taken_at-requires-clause-has g c some =
    let got = c.free_at.ensures.view.won
    (eq-eqb c.free_at.result c.args.word c.if-free_at-word.false) in
    let right = subst (λ o. IfSome o (λ tag. IsRight g.T.Tag.fits tag (room_of c.args.table.now)
    got.1)) c.requires.seat.tagged got.2.right in
    taken_word (slots_of c.args.table.now) c.free_at.result c.args.name got.0 got.1
    (view c.args.seat.now) (view c.free_at.new.seat) got.3 (g.met.L.FreedList.whole c.args.list.now
    (plan_of c.args.table.now).tag got.1.key got.1.value some right.fitting) right.short

pub returns-clause-list : goal.returns-clause-list
returns-clause-list g c =
    let got = c.free_at.ensures.view.won
    (eq-eqb c.free_at.result c.args.word c.if-free_at-word.false) in
    let right = subst (λ o. IfSome o (λ tag. IsRight g.T.Tag.fits tag (room_of c.args.table.now)
    got.1)) c.requires.seat.tagged got.2.right in
    hands_taken (slots_of c.args.table.now) c.free_at.result c.args.name got.0 got.1
    (view c.args.seat.now) (view c.free_taken_at.new.seat) got.3 (λ some. g.met.L.FreedList.whole
    c.args.list.now (plan_of c.args.table.now).tag got.1.key got.1.value some right.fitting)
    (ap (λ (v : View g.row.T.Denot). v.gone) c.free_taken_at.ensures.view)
    c.free_taken_at.ensures.list

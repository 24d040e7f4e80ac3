use Rattle.std.proofs.Common.{◌≡◌, subst}
use Rattle.std.proofs.lemmas.Bool.{eqb-true, eqb-false}
use Rattle.hcc_rule.specs.declared.layout.TheConstants.{KEY1}
use Rattle.hcc_rule.specs.declared.view.Record.{Record}
use Rattle.hcc_rule.specs.declared.view.View.{View}
use Rattle.hcc_rule.specs.Seats.{view}
use Rattle.hcc_rule.specs.ToldOwners.{IsDataWord}
use Rattle.hcc_rule.specs.Views.{Each}
use Rattle.hcc_table.proofs.Loads.{loads_then}
use Rattle.hcc_table.proofs.Peeks.{finds_key, first_differs, first_held, peek_loads, second_differs, second_held}
use Rattle.hcc_table.proofs.optimistic.shows_key.Goals as goal

pub returns-then-peek_at-key-clause-loads : goal.returns-then-peek_at-key-clause-loads
returns-then-peek_at-key-clause-loads g c =
    let one = c.peek_at in
    let two = c.peek_at-then-peek_at-key in
    loads_then c.args.table.now _ _ _
    (peek_loads c.args.table.now c.args.at.slot one.new.seat one.ensures.event)
    (peek_loads c.args.table.now c.args.at.slot two.new.seat two.ensures.event)

pub returns-then-peek_at-key-clause-equal : goal.returns-then-peek_at-key-clause-equal
returns-then-peek_at-key-clause-equal g c same =
    let one = c.peek_at in
    let two = c.peek_at-then-peek_at-key in
    finds_key c.args.table.now c.args.at.slot one.new.seat one.ensures.event two.ensures.event
    one.ensures.view one.ensures.word two.ensures.word c.if-peek_at-key.true (eqb-true _ _ same)

pub returns-then-peek_at-key-clause-other : goal.returns-then-peek_at-key-clause-other
returns-then-peek_at-key-clause-other g c other =
    let one = c.peek_at in
    let two = c.peek_at-then-peek_at-key in (
      second_differs c.args.table.now c.args.at.slot one.new.seat one.ensures.event
          two.ensures.event one.ensures.view two.ensures.word (eqb-false _ _ other),
      second_held c.args.key c.args.at.slot (view c.args.seat.now).records (eqb-false _ _ other)
          (subst (λ (v : View g.row.T.Denot).
          Each (λ (r : Record). r.slot ≡ c.args.at.slot → IsDataWord r.entry KEY1 two.result)
          v.records) one.ensures.view two.ensures.held),
    )

pub returns-else-peek_at-key-clause-loads : goal.returns-else-peek_at-key-clause-loads
returns-else-peek_at-key-clause-loads g c =
    peek_loads c.args.table.now c.args.at.slot c.peek_at.new.seat c.peek_at.ensures.event

pub returns-else-peek_at-key-clause-other : goal.returns-else-peek_at-key-clause-other
returns-else-peek_at-key-clause-other g c other = (
  first_differs c.args.table.now c.args.at.slot c.peek_at.ensures.event c.peek_at.ensures.word
      (eqb-false _ _ other),
  first_held c.args.key c.args.at.slot (view c.args.seat.now).records (eqb-false _ _ other)
      c.peek_at.ensures.held,
)

use Rattle.std.proofs.Common.{◌≡◌, ℕ, ◌+◌, ◌≤◌, zero, suc, true, false, sym, refl, ap, ◌∙◌, arith}
use Rattle.std.proofs.Math.Nat.{mul-add}
use Rattle.hcc_rule.specs.Callers.{slots_of}
use Rattle.hcc_table.proofs.Handed.{hands_more}
use Rattle.hcc_charge.specs.Evicted.{has_ended, turn_room}
use Rattle.hcc_charge.specs.Swept.{nothing_swept}
use Rattle.hcc_charge.proofs.Turnings.{going_ends, going_turned, going_unmade, turned_ends, turned_on, HasTurned}
use Rattle.hcc_charge.proofs.evicting.evict.Given as given
use Rattle.hcc_charge.proofs.evicting.evict.Goals as goal
use Rattle.hcc_charge.proofs.evicting.evict.Goals.{After-add-2, After-with-all}

-- What was done once a turn more was made.
abbrev turned : (g : given.Over) (c : After-with-all g)
    → HasTurned g.T.Tag.fits c.args.table.now c.args.ask g.L.FreedList.loads c.with-all.result
    c.args.seat.now
    c.turn-here.new.seat c.args.effort.now c.turn-here.new.effort
turned g c =
    let told = c.turn-here.ensures in
    going_turned g.T.Tag.fits c.args.table.now c.args.ask g.L.FreedList.loads c.loop-seat.all
    c.turn-here.result c.with-all.result c.args.seat.now c.loop-seat.seat c.turn-here.new.seat
    c.args.effort.now c.loop-seat.effort c.turn-here.new.effort c.loop-seat.invariant.going
    told.seat told.view told.turned told.turns told.modest told.effort c.with-all.ensures
    told.steps

-- The list had room before the first turn.
begun : (g : given.Over) (c : After-with-all g)
    → turn_room (g.L.FreedList.shelf c.args.list.now) ≡ true
begun g c = by c.loop-seat.all.turns refl
  where
    by : (n : ℕ) → c.loop-seat.all.turns ≡ n
        → turn_room (g.L.FreedList.shelf c.args.list.now) ≡ true
    by zero none =
        ap (λ l. turn_room (g.L.FreedList.shelf l)) (sym (c.loop-seat.invariant.unmade none))
        ∙ (sym c.has_room.ensures ∙ c.loop-seat-test.true)
    by (suc n) some = c.loop-seat.invariant.made (omega (arith, some))

pub returns-then-has_ended-clause-view : goal.returns-then-has_ended-clause-view
returns-then-has_ended-clause-view g c =
    (turned g (goal.at.returns-then-has_ended-clause-view g c).After-with-all).swept

pub returns-then-has_ended-clause-evicts : goal.returns-then-has_ended-clause-evicts
returns-then-has_ended-clause-evicts g c some =
    turned_ends g.T.Tag.fits c.args.table.now c.args.ask g.L.FreedList.loads
    (turn_room (g.L.FreedList.shelf c.turn-here.new.list)) c.with-all.result
    c.args.seat.now c.turn-here.new.seat c.args.effort.now c.turn-here.new.effort
    (turned g (goal.at.returns-then-has_ended-clause-evicts g c).After-with-all)
    (ap (λ z. has_ended z.slots c.args.ask c.with-all.result) (sym c.geometry-slots.ensures)
    ∙ (sym c.has_ended.ensures ∙ c.if-has_ended.true))

pub loop-seat-preserved : goal.loop-seat-preserved
loop-seat-preserved g c = record {
  going =
      turned_on g.T.Tag.fits c.args.table.now c.args.ask g.L.FreedList.loads c.with-all.result
      c.args.seat.now
      c.turn-here.new.seat c.args.effort.now c.turn-here.new.effort
      (turned g (goal.at.loop-seat-preserved g c).After-with-all)
      (ap (λ z. has_ended z.slots c.args.ask c.with-all.result) (sym c.geometry-slots.ensures)
      ∙ (sym c.has_ended.ensures ∙ c.if-has_ended.false));
  untold = c.loop-seat.invariant.untold;
  unmade = λ none. absurd (let sum = ap (λ z. z.turns) c.with-all.ensures in
      let one = c.turn-here.ensures.turns in omega (arith, sum, one, none));
  made = λ some. begun g (goal.at.loop-seat-preserved g c).After-with-all;
  list = hands_more c.loop-seat.invariant.list c.turn-here.ensures.list;
}

pub returns-then-has_ended-clause-steps : goal.returns-then-has_ended-clause-steps
returns-then-has_ended-clause-steps g c =
    let was = c.loop-seat.invariant.going.steps in
    let more = c.turn-here.ensures.steps in
    let one = c.turn-here.ensures.turns in
    rw c.with-all.ensures
    (omega (
      arith,
      mul-add (slots_of c.args.table.now + g.L.FreedList.loads + 4) c.loop-seat.all.slots
          c.turn-here.result.slots,
    ))

pub returns-then-has_ended-clause-full : goal.returns-then-has_ended-clause-full
returns-then-has_ended-clause-full g c none =
    let some = begun g (goal.at.returns-then-has_ended-clause-full g c).After-with-all in
    absurd (let no : true ≡ false = sym some ∙ none in cc)

pub returns-then-has_ended-clause-turns : goal.returns-then-has_ended-clause-turns
returns-then-has_ended-clause-turns g c =
    let made = turned g (goal.at.returns-then-has_ended-clause-turns g c).After-with-all in
    (λ room. made.some, made.few)

-- Where the list had room for a turn, and has no more, a turn was made.
some_made : (g : given.Over) (c : After-add-2 g) (n : ℕ) → c.loop-seat.all.turns ≡ n
    → turn_room (g.L.FreedList.shelf c.args.list.now) ≡ true → 1 ≤ c.loop-seat.all.turns
some_made g c zero none room =
    let alike = ap (λ l. turn_room (g.L.FreedList.shelf l)) (c.loop-seat.invariant.unmade none) in
    let no : true ≡ false =
    sym room ∙ sym alike ∙ sym c.has_room.ensures ∙ c.loop-seat-test.false in
    absurd (let never : ⊥ = cc in never)
some_made g c (suc n) some room = omega (arith, some)

pub returns-clause-evicts : goal.returns-clause-evicts
returns-clause-evicts g c room =
    going_ends g.T.Tag.fits c.args.table.now c.args.ask g.L.FreedList.loads
    (turn_room (g.L.FreedList.shelf c.loop-seat.list)) c.loop-seat.all c.args.seat.now
    c.loop-seat.seat c.args.effort.now c.loop-seat.effort c.loop-seat.invariant.going
    (some_made g (goal.at.returns-clause-evicts g c).After-add-2 c.loop-seat.all.turns refl room)
    (sym c.has_room.ensures ∙ c.loop-seat-test.false)

pub returns-clause-full : goal.returns-clause-full
returns-clause-full g c full = by c.loop-seat.all.turns refl
  where
    by : (n : ℕ) → c.loop-seat.all.turns ≡ n
        → (c.loop-seat.all ≡ nothing_swept) × (c.loop-seat.seat ≡ c.args.seat.now)
    by zero none =
        going_unmade g.T.Tag.fits c.args.table.now c.args.ask g.L.FreedList.loads c.loop-seat.all
        c.args.seat.now c.loop-seat.seat c.args.effort.now c.loop-seat.effort
        c.loop-seat.invariant.going none
    by (suc n) some =
        let had = c.loop-seat.invariant.made (omega (arith, some)) in
        absurd (let no : true ≡ false = sym had ∙ full in cc)

pub returns-clause-turns : goal.returns-clause-turns
returns-clause-turns g c = (
  some_made g (goal.at.returns-clause-turns g c).After-add-2 c.loop-seat.all.turns refl,
  let few = c.loop-seat.invariant.going.few in omega (arith, few),
)

pub returns-then-has_ended-clause-list : goal.returns-then-has_ended-clause-list
returns-then-has_ended-clause-list g c =
    hands_more c.loop-seat.invariant.list c.turn-here.ensures.list

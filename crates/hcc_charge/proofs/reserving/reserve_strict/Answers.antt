use Rattle.std.proofs.Common.{◌≡◌, ◌+◌, ◌<◌, ◌≤◌, true, sym, subst, refl, ◌∙◌, arith}
use Rattle.hcc_rule.specs.Callers.{plan_of, slots_of}
use Rattle.hcc_rule.specs.Rule.{setup_of}
use Rattle.hcc_rule.specs.Seats.{SeatOf, view}
use Rattle.hcc_table.specs.Seeking.{GoesOnBy, is_booking}
use Rattle.hcc_table.proofs.Still.{settled_books}
use Rattle.hcc_charge.specs.Reserved.{still_needed}
use Rattle.hcc_charge.specs.Evicted.{turn_room}
use Rattle.hcc_charge.specs.Asked.{lacked, EvictsAsAsked, EvictsNothing, Grants}
use Rattle.hcc_charge.proofs.Answered.{strict_full, strict_reserved, strict_short}
use Rattle.hcc_charge.proofs.Askings.{asked_strict, between_is, evicts_as_asked, keeps_by, lacked_strict}
use Rattle.hcc_charge.proofs.reserving.reserve_strict.Given as given
use Rattle.hcc_charge.proofs.reserving.reserve_strict.Goals as goal
use Rattle.hcc_charge.proofs.reserving.reserve_strict.Goals.{After-evict_for-swept, After-settle, else-full-via-then-full+else-swept-eq0, else-full-via-else-full}

pub returns-then-swept-needed-clause-view : goal.returns-then-swept-needed-clause-view
returns-then-swept-needed-clause-view g c =
    let table = c.args.table.now in
    let told = c.evict_for-swept.ensures in
    strict_short (turn_room (g.L.FreedList.shelf c.args.list.now))
    (turn_room (g.L.FreedList.shelf c.evict_for-swept.new.list))
    (setup_of (plan_of table)) table.geometry.slots table.capacity c.args.charge
    c.charge-used.result c.enter-full.result c.evict_for-swept.result (view c.args.seat.now)
    c.requires.idle c.enter-full.ensures.view told.view (table.planned.2 ∙ c.requires.strict)
    table.planned.1 c.charge-used.ensures.view
    (rw (← c.capacity.ensures) (rw (← c.needed-needed.ensures.value)
    (rw (← c.at_least_one.ensures.value) told.swept)))
    (view c.refuse.new.seat) c.refuse.ensures.view
    (rw (← c.capacity.ensures) (rw (← c.needed-needed.ensures.value) c.if-swept-needed.true))

pub returns-then-swept-eq0-clause-view : goal.returns-then-swept-eq0-clause-view
returns-then-swept-eq0-clause-view g c =
    let table = c.args.table.now in
    let told = c.evict_for-swept.ensures in
    strict_full (turn_room (g.L.FreedList.shelf c.args.list.now))
    (turn_room (g.L.FreedList.shelf c.evict_for-swept.new.list))
    (setup_of (plan_of table)) table.geometry.slots table.capacity c.args.charge
    c.charge-used.result c.enter-full.result c.evict_for-swept.result (view c.args.seat.now)
    c.requires.idle c.enter-full.ensures.view told.view (table.planned.2 ∙ c.requires.strict)
    table.planned.1 c.charge-used.ensures.view
    (rw (← c.capacity.ensures) (rw (← c.needed-needed.ensures.value)
    (rw (← c.at_least_one.ensures.value) told.swept)))
    (view c.refuse-then-swept-eq0.new.seat) c.refuse-then-swept-eq0.ensures.view c.if-full.true
    c.if-swept-eq0.true enough
  where
    enough : still_needed c.args.table.now.capacity c.charge-used.result c.args.charge
        ≤ c.evict_for-swept.result.charge
    enough =
        rw (← c.capacity.ensures) (rw (← c.needed-needed.ensures.value)
        (let not = c.if-swept-needed.false in omega arith))

-- A slot was freed where the shard was full,
placed : (g : given.Over) (c : After-settle g) → c.enter-full.result ≡ true
    → 0 < c.evict_for-swept.result.slots
placed g c is = elim c.else-full.branch [
  | else-full-via-then-full+else-swept-eq0 w ↦ (let some = w.if-swept-eq0.false in omega arith)
  | else-full-via-else-full w ↦ (let not = w.if-full.false in cc)
]

-- and what was needed.
enough : (g : given.Over) (c : After-settle g)
    → still_needed c.args.table.now.capacity c.charge-used.result c.args.charge
    ≤ c.evict_for-swept.result.charge
enough g c =
    rw (← c.capacity.ensures) (rw (← c.needed-needed.ensures.value)
    (let not = c.if-swept-needed.false in omega arith))

pub returns-clause-view : goal.returns-clause-view
returns-clause-view g c =
    let table = c.args.table.now in
    let told = c.evict_for-swept.ensures in
    strict_reserved (turn_room (g.L.FreedList.shelf c.args.list.now))
    (turn_room (g.L.FreedList.shelf c.evict_for-swept.new.list))
    (setup_of (plan_of table)) table.geometry.slots table.capacity c.args.charge
    c.charge-used.result c.enter-full.result c.evict_for-swept.result (view c.args.seat.now)
    c.requires.idle c.enter-full.ensures.view told.view (table.planned.2 ∙ c.requires.strict)
    table.planned.1 c.charge-used.ensures.view
    (rw (← c.capacity.ensures) (rw (← c.needed-needed.ensures.value)
    (rw (← c.at_least_one.ensures.value) told.swept)))
    (view c.settle.new.seat) (placed g c) (enough g c) c.settle.ensures.view

-- What was found and evicted, whatever came behind it.
abbrev evicted : (g : given.Over) (c : After-evict_for-swept g) (d : SeatOf g.row.T.Denot)
    → EvictsNothing (view c.evict_for-swept.new.seat) (view d)
    → GoesOnBy c.args.table.now is_booking c.evict_for-swept.new.seat d
    → EvictsAsAsked g.T.Tag.fits c.args.table.now c.args.charge
    (turn_room (g.L.FreedList.shelf c.args.list.now))
    (turn_room (g.L.FreedList.shelf c.evict_for-swept.new.list))
    c.args.tally.now
    c.evict_for-swept.new.tally c.args.effort.now c.evict_for-swept.new.effort c.args.seat.now d
evicted g c =
    let told = c.evict_for-swept.ensures in
    let opens = c.enter-full.ensures in
    evicts_as_asked g.T.Tag.fits c.args.table.now c.args.charge opens.enters.1 c.requires.strict
    (asked_strict c.charge-used.result c.args.charge c.enter-full.result c.capacity.ensures
    c.needed-needed.ensures.value c.at_least_one.ensures.value)
    opens.enters.2 opens.view c.charge-used.ensures.step opens.enters.3
    c.charge-used.ensures.event
    (keeps_by _ _ (view c.enter-full.new.seat) c.charge-used.ensures.view refl refl refl refl)
    told.evicts told.swept told.view told.tally told.effort c.requires.idle opens.enters.4
    c.charge-used.ensures.alone

pub returns-then-swept-needed-clause-evicts : goal.returns-then-swept-needed-clause-evicts
returns-then-swept-needed-clause-evicts g c = (
  evicted g (goal.at.returns-then-swept-needed-clause-evicts g c).After-evict_for-swept
      c.refuse.new.seat
      (keeps_by _ _ (view c.evict_for-swept.new.seat) c.refuse.ensures.view refl refl refl refl)
      c.refuse.ensures.by,
  rw (lacked_strict c.args.table.now c.args.charge c.charge-used.result c.requires.strict)
      (rw (← c.capacity.ensures) (rw (← c.needed-needed.ensures.value) c.if-swept-needed.true)),
  c.refuse.ensures.gives,
)

pub returns-then-swept-eq0-clause-evicts : goal.returns-then-swept-eq0-clause-evicts
returns-then-swept-eq0-clause-evicts g c = (
  evicted g (goal.at.returns-then-swept-eq0-clause-evicts g c).After-evict_for-swept
      c.refuse-then-swept-eq0.new.seat
      (keeps_by _ _ (view c.evict_for-swept.new.seat) c.refuse-then-swept-eq0.ensures.view refl
      refl refl refl) c.refuse-then-swept-eq0.ensures.by,
  sym c.enter-full.ensures.enters.1 ∙ c.if-full.true,
  c.if-swept-eq0.true,
  needless,
  c.refuse-then-swept-eq0.ensures.gives,
)
  where
    needless : lacked c.args.table.now c.args.charge c.charge-used.result ≡ 0
    needless =
        rw (lacked_strict c.args.table.now c.args.charge c.charge-used.result c.requires.strict)
        (rw (← c.capacity.ensures) (rw (← c.needed-needed.ensures.value)
        (let few = c.evict_for-swept.ensures.swept.modest.charge in
        let enough = c.if-swept-needed.false in
        let none = c.if-swept-eq0.true in
        omega arith)))

pub returns-clause-evicts : goal.returns-clause-evicts
returns-clause-evicts g c = (
  evicted g (goal.at.returns-clause-evicts g c).After-evict_for-swept c.settle.new.seat
      (keeps_by _ _ (view c.evict_for-swept.new.seat) c.settle.ensures.view refl refl refl refl)
      (settled_books c.args.table.now c.evict_for-swept.new.seat c.settle.new.seat
      c.settle.ensures.by),
  λ is. placed g c (c.enter-full.ensures.enters.1 ∙ is),
  rw (lacked_strict c.args.table.now c.args.charge c.charge-used.result c.requires.strict)
      (enough g c),
  subst (λ s. Grants c.args.table.now s c.args.charge c.evict_for-swept.result
      c.evict_for-swept.new.seat c.settle.new.seat) (sym c.requires.strict)
      c.settle.ensures.settles,
)

pub returns-clause-steps : goal.returns-clause-steps
returns-clause-steps g c =
    let e = evicted g (goal.at.returns-clause-steps g c).After-evict_for-swept c.settle.new.seat
    (keeps_by _ _ (view c.evict_for-swept.new.seat) c.settle.ensures.view refl refl refl refl)
    (settled_books c.args.table.now c.evict_for-swept.new.seat c.settle.new.seat
    c.settle.ensures.by) in
    rw (between_is (slots_of c.args.table.now + g.L.FreedList.loads) c.evict_for-swept.result.turns
    c.evict_for-swept.result.slots (view c.args.seat.now) (view c.settle.new.seat)
    e.turns e.takings)
    (omega arith)

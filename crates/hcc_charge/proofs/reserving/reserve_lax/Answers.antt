use Rattle.std.proofs.Common.{◌≡◌, ◌+◌, ◌<◌, true, sym, subst, refl, ◌∙◌, arith}
use Rattle.hcc_rule.specs.Callers.{plan_of, slots_of}
use Rattle.hcc_rule.specs.Events.{charge_done, quit_done}
use Rattle.hcc_rule.specs.Rule.{setup_of}
use Rattle.hcc_rule.specs.Seats.{SeatOf, view}
use Rattle.hcc_table.specs.Seeking.{GoesOnBy, is_booking}
use Rattle.hcc_table.proofs.Seeking.{goes_event, goes_then}
use Rattle.hcc_table.proofs.Still.{settled_books}
use Rattle.hcc_charge.specs.Evicted.{turn_room}
use Rattle.hcc_charge.specs.Asked.{EvictsAsAsked, EvictsNothing, Grants}
use Rattle.hcc_charge.proofs.Answered.{lax_refused, lax_reserved}
use Rattle.hcc_charge.proofs.Askings.{asked_lax, between_is, evicts_as_asked, keeps_by, keeps_then, lacked_lax}
use Rattle.hcc_charge.proofs.reserving.reserve_lax.Given as given
use Rattle.hcc_charge.proofs.reserving.reserve_lax.Goals as goal
use Rattle.hcc_charge.proofs.reserving.reserve_lax.Goals.{After-evict_for-swept, After-give_charge, else-full-via-then-full+else-swept-eq0, else-full-via-else-full}

pub returns-then-swept-eq0-clause-view : goal.returns-then-swept-eq0-clause-view
returns-then-swept-eq0-clause-view g c =
    let table = c.args.table.now in
    let told = c.evict_for-swept.ensures in
    lax_refused (turn_room (g.L.FreedList.shelf c.args.list.now))
    (turn_room (g.L.FreedList.shelf c.evict_for-swept.new.list))
    (setup_of (plan_of table)) table.geometry.slots table.capacity c.args.charge
    c.usage-used.result c.enter-full.result c.evict_for-swept.result (view c.args.seat.now)
    c.requires.idle c.enter-full.ensures.view told.view (table.planned.2 ∙ c.requires.lax)
    c.requires.some c.usage-used.ensures.view
    (rw (← c.capacity.ensures) (rw (← c.ask.ensures.value)
    (rw (← c.at_least_one-least.ensures.value) told.swept)))
    (view c.quit.new.seat) c.if-full.true c.if-swept-eq0.true c.quit.ensures.view

-- A slot was freed where the shard was full.
placed : (g : given.Over) (c : After-give_charge g) → c.enter-full.result ≡ true
    → 0 < c.evict_for-swept.result.slots
placed g c is = elim c.else-full.branch [
  | else-full-via-then-full+else-swept-eq0 w ↦ (let some = w.if-swept-eq0.false in omega arith)
  | else-full-via-else-full w ↦ (let not = w.if-full.false in cc)
]

pub returns-clause-view : goal.returns-clause-view
returns-clause-view g c =
    let table = c.args.table.now in
    let told = c.evict_for-swept.ensures in
    lax_reserved (turn_room (g.L.FreedList.shelf c.args.list.now))
    (turn_room (g.L.FreedList.shelf c.evict_for-swept.new.list))
    (setup_of (plan_of table)) table.geometry.slots table.capacity c.args.charge
    c.usage-used.result c.enter-full.result c.evict_for-swept.result (view c.args.seat.now)
    c.requires.idle c.enter-full.ensures.view told.view (table.planned.2 ∙ c.requires.lax)
    c.requires.some c.usage-used.ensures.view
    (rw (← c.capacity.ensures) (rw (← c.ask.ensures.value)
    (rw (← c.at_least_one-least.ensures.value) told.swept)))
    c.charge.result (view c.give_slots.new.seat) (view c.charge.new.seat)
    (view c.give_charge.new.seat) (placed g c) c.give_slots.ensures.view c.charge.ensures.view
    c.give_charge.ensures.view

-- What was found and evicted, whatever came behind it.
abbrev evicted : (g : given.Over) (c : After-evict_for-swept g) (d : SeatOf g.row.T.Denot)
    → EvictsNothing (view c.evict_for-swept.new.seat) (view d)
    → GoesOnBy c.args.table.now is_booking c.evict_for-swept.new.seat d
    → EvictsAsAsked g.T.Tag.fits c.args.table.now c.args.charge
    (turn_room (g.L.FreedList.shelf c.args.list.now))
    (turn_room (g.L.FreedList.shelf c.evict_for-swept.new.list))
    c.args.tally.now
    c.evict_for-swept.new.tally c.args.effort.now c.evict_for-swept.new.effort c.args.seat.now d
evicted g c =
    let told = c.evict_for-swept.ensures in
    let opens = c.enter-full.ensures in
    evicts_as_asked g.T.Tag.fits c.args.table.now c.args.charge opens.enters.1 c.requires.lax
    (asked_lax c.usage-used.result c.args.charge c.enter-full.result c.capacity.ensures
    c.ask.ensures.value c.at_least_one-least.ensures.value)
    opens.enters.2 opens.view c.usage-used.ensures.step opens.enters.3 c.usage-used.ensures.event
    (keeps_by _ _ (view c.enter-full.new.seat) c.usage-used.ensures.view refl refl refl refl)
    told.evicts told.swept told.view told.tally told.effort c.requires.idle opens.enters.4
    c.usage-used.ensures.alone

-- What settles takes nothing more.
idle : (g : given.Over) (c : After-give_charge g)
    → EvictsNothing (view c.evict_for-swept.new.seat) (view c.give_charge.new.seat)
idle g c =
    keeps_then (view c.evict_for-swept.new.seat) (view c.give_slots.new.seat)
    (view c.give_charge.new.seat)
    (keeps_by _ (view c.give_slots.new.seat) (view c.evict_for-swept.new.seat)
    c.give_slots.ensures.view refl refl refl refl)
    (keeps_then (view c.give_slots.new.seat) (view c.charge.new.seat) (view c.give_charge.new.seat)
    (keeps_by _ (view c.charge.new.seat) (view c.give_slots.new.seat) c.charge.ensures.view refl
    refl refl refl)
    (keeps_by _ (view c.give_charge.new.seat) (view c.charge.new.seat) c.give_charge.ensures.view
    refl refl refl refl))

-- It only keeps what was reserved, and gives back what was freed.
behind : (g : given.Over) (c : After-give_charge g)
    → GoesOnBy c.args.table.now is_booking c.evict_for-swept.new.seat c.give_charge.new.seat
behind g c =
    let table = c.args.table.now in
    goes_then table is_booking c.evict_for-swept.new.seat c.give_slots.new.seat
    c.give_charge.new.seat
    (settled_books table c.evict_for-swept.new.seat c.give_slots.new.seat c.give_slots.ensures.by)
    (goes_then table is_booking c.give_slots.new.seat c.charge.new.seat c.give_charge.new.seat
    (goes_event table is_booking
    (charge_done (setup_of (plan_of table)) c.args.charge c.charge.result
    (view c.give_slots.new.seat))
    c.give_slots.new.seat c.charge.new.seat c.charge.ensures.event refl)
    (settled_books table c.charge.new.seat c.give_charge.new.seat c.give_charge.ensures.by))

pub returns-then-swept-eq0-clause-evicts : goal.returns-then-swept-eq0-clause-evicts
returns-then-swept-eq0-clause-evicts g c = (
  evicted g (goal.at.returns-then-swept-eq0-clause-evicts g c).After-evict_for-swept c.quit.new.seat
      (keeps_by _ _ (view c.evict_for-swept.new.seat) c.quit.ensures.view refl refl refl refl)
      (goes_event c.args.table.now is_booking (quit_done (view c.evict_for-swept.new.seat))
      c.evict_for-swept.new.seat c.quit.new.seat c.quit.ensures.event refl),
  sym c.enter-full.ensures.enters.1 ∙ c.if-full.true,
  c.if-swept-eq0.true,
  c.quit.ensures.step,
)

pub returns-clause-evicts : goal.returns-clause-evicts
returns-clause-evicts g c = (
  evicted g (goal.at.returns-clause-evicts g c).After-evict_for-swept c.give_charge.new.seat
      (idle g c) (behind g c),
  λ is. placed g c (c.enter-full.ensures.enters.1 ∙ is),
  (let none = lacked_lax c.args.table.now c.args.charge c.usage-used.result c.requires.lax in
      omega arith),
  subst (λ s. Grants c.args.table.now s c.args.charge c.evict_for-swept.result
      c.evict_for-swept.new.seat c.give_charge.new.seat) (sym c.requires.lax) (
        c.give_slots.new.seat,
        c.charge.new.seat,
        c.give_slots.ensures.takes,
        (c.charge.result, c.charge.ensures.step),
        c.give_charge.ensures.takes,
      ),
)

pub returns-clause-steps : goal.returns-clause-steps
returns-clause-steps g c =
    let e = evicted g (goal.at.returns-clause-steps g c).After-evict_for-swept
    c.give_charge.new.seat (idle g c) (behind g c) in
    rw (between_is (slots_of c.args.table.now + g.L.FreedList.loads) c.evict_for-swept.result.turns
    c.evict_for-swept.result.slots (view c.args.seat.now) (view c.give_charge.new.seat)
    e.turns e.takings)
    (omega arith)

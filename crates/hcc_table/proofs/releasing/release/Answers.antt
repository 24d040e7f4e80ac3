use Rattle.std.proofs.Common.{◌≡◌, ◌&&◌, true, false, refl}
use Rattle.std.proofs.lemmas.Bool.{and_parts}
use Rattle.hcc_rule.specs.Callers.{room_of}
use Rattle.hcc_rule.specs.Addresses.{address_of_meta}
use Rattle.hcc_rule.specs.Seats.{view}
use Rattle.hcc_table.specs.Efforts.{Lost}
use Rattle.hcc_table.specs.Freed.{is_due}
use Rattle.hcc_table.specs.Lists.{has_room}
use Rattle.hcc_table.specs.Pins.{erases}
use Rattle.hcc_table.proofs.Gives.{tried_due, not_due, freed_where_due, kept_where_lost}
use Rattle.hcc_table.proofs.Logs.{adds_one}
use Rattle.hcc_table.proofs.Probes.{given_at}
use Rattle.hcc_table.proofs.Probings.{neither}
use Rattle.hcc_table.proofs.releasing.release.Goals as goal

pub returns-then-is_free_to_go-clause-tried : goal.returns-then-is_free_to_go-clause-tried
returns-then-is_free_to_go-clause-tried g c =
    let due : (has_room 1 (g.L.FreedList.shelf c.args.list.now)
    && is_due (erases c.args.last) c.let_go-left.result) ≡ true = cc in (
      c.let_go-left.result,
      c.let_go-left.new.seat,
      rw (← c.is_use-used.ensures) c.let_go-left.ensures.left,
      tried_due _ _ due c.try_free.ensures.won c.try_free.ensures.lost c.try_free.ensures.tried,
      rw (← c.is_use-used.ensures) c.let_go-left.ensures.by,
      ((λ _. c.try_free.ensures.by), (λ off. neither _ due off)),
    )

pub returns-else-is_free_to_go-clause-tried : goal.returns-else-is_free_to_go-clause-tried
returns-else-is_free_to_go-clause-tried g c =
    let due : (has_room 1 (g.L.FreedList.shelf c.args.list.now)
    && is_due (erases c.args.last) c.let_go-left.result) ≡ false = cc in (
      c.let_go-left.result,
      c.let_go-left.new.seat,
      rw (← c.is_use-used.ensures) c.let_go-left.ensures.left,
      not_due due refl refl,
      rw (← c.is_use-used.ensures) c.let_go-left.ensures.by,
      ((λ on. neither _ on due), (λ _. refl)),
    )

pub returns-then-is_free_to_go-clause-freed : goal.returns-then-is_free_to_go-clause-freed
returns-then-is_free_to_go-clause-freed g c =
    let left = c.let_go-left.ensures.left in
    let due : (has_room 1 (g.L.FreedList.shelf c.args.list.now)
    && is_due (erases c.args.last) c.let_go-left.result) ≡ true = cc in
    let given = given_at c.args.pin.slot c.args.pin.name left.found (view c.args.seat.now)
    (view c.let_go-left.new.seat) left.view in
    freed_where_due g.T.Tag.fits (room_of c.args.table.now) (view c.try_free.new.seat) given
    (rw left.view refl) (rw left.view refl) (address_of_meta c.args.table.now c.args.pin.slot)
    c.args.seat.now c.let_go-left.new.seat c.try_free.new.seat (erases c.args.last)
    c.let_go-left.result _ c.try_free.result (and_parts _ _ due).1 (rw left.view refl)
    (adds_one _ c.args.seat.now c.let_go-left.new.seat left.step.step) c.try_free.ensures.tried
    c.try_free.ensures.freed

pub returns-then-is_free_to_go-clause-kept : goal.returns-then-is_free_to_go-clause-kept
returns-then-is_free_to_go-clause-kept g c =
    let left = c.let_go-left.ensures.left in
    kept_where_lost (view c.args.seat.now) (view c.let_go-left.new.seat) (view c.try_free.new.seat)
    (Lost 1 1 c.args.effort.now c.try_free.new.effort) c.try_free.result
    (given_at c.args.pin.slot c.args.pin.name left.found (view c.args.seat.now)
    (view c.let_go-left.new.seat) left.view) (rw left.view refl) c.try_free.ensures.lost

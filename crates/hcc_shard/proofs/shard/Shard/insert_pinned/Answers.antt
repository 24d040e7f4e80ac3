use Rattle.std.proofs.Common.{◌≡◌, true, IfSome, ap, ◌∙◌, refl, sym, subst, arith}
use Rattle.std.specs.List.{list_any}
use Rattle.std.proofs.lemmas.Result.{err_from_is_err_and}
use Rattle.hcc_core.specs.Ledgers.{is_standing}
use Rattle.hcc_rule.specs.declared.view.View.{View}
use Rattle.hcc_rule.specs.Callers.{capacity_of, geometry_of, is_strict, plan_of, room_of, slots_of}
use Rattle.hcc_rule.specs.Seats.{view}
use Rattle.hcc_table.specs.Rises.{Rose}
use Rattle.hcc_charge.proofs.Askings.{keeps_by, keeps_then}
use Rattle.hcc_shard.proofs.Insertions.{left_alone, left_stood, may_insert, refused_by, still_fresh, tries_placed}
use Rattle.hcc_shard.proofs.Names.{not_standing}
use Rattle.hcc_shard.proofs.Reservings.{few_by, frees_by, idle_placed, idle_tried, leaves_reserved, leaves_unreserved, puts_in, refused_within, refuses, rose_same, tries_within}
use Rattle.hcc_shard.specs.Stays.{ShowsIn}
use Rattle.hcc_shard.proofs.Stayings.{placed_shows, same_pin}
use Rattle.hcc_shard.proofs.shard.Shard.insert_pinned.Goals as goal

pub returns-in_err-reserved-clause-view : goal.returns-in_err-reserved-clause-view
returns-in_err-reserved-clause-view g c =
    let t = c.args.self.now.table in
    let p = err_from_is_err_and c.from_residual.result c.from_residual.ensures.1 in
    rw (p.1, p.2)
    (refused_by _ _ (slots_of t) (capacity_of t) (is_strict t) c.args.draft
    c.in_err-reserved.field-0.0 (view c.args.seat.now.seat) (view c.reserve.new.seat)
    c.in_err-reserved.ensures.view)

pub put-requires-clause-may : goal.put-requires-clause-may
put-requires-clause-may g c =
    let t = c.args.self.now.table in
    may_insert _ _ (slots_of t) (capacity_of t) (is_strict t) c.args.draft g.T.Tag.fits (plan_of t)
    (geometry_of t) c.args.value.now c.args.seat.now.client (view c.args.seat.now.seat)
    (view c.reserve.new.seat) c.requires.seat.own c.requires.seat.known c.requires.may
    c.requires.seat.quiet
    (subst (λ o. IfSome o (λ x. x ≡ c.args.draft.serial)) (sym c.requires.named) refl)
    (rw c.in-Reserved.is at c.in_ok-reserved.ensures.view).0

pub standalone_in-requires-clause-fresh : goal.standalone_in-requires-clause-fresh
standalone_in-requires-clause-fresh g c =
    let told = rw c.in-NoPlace.is at c.in_ok-reserved.ensures.view in
    ap (λ (z : View g.row.T.Denot). list_any (is_standing c.args.draft.serial) z.work.standalones)
    told.0.same
    ∙ not_standing c.args.draft.serial (view c.args.seat.now.seat).work.standalones
    c.requires.may.next.standalones

pub stand-requires-clause-fresh : goal.stand-requires-clause-fresh
stand-requires-clause-fresh g c =
    let t = c.args.self.now.table in
    still_fresh _ _ (slots_of t) (capacity_of t) (is_strict t) c.args.draft
    (view c.args.seat.now.seat) (view c.reserve.new.seat) (view c.put.new.seat.seat)
    (rw c.in-Reserved.is at c.in_ok-reserved.ensures.view).0 c.in-None.ensures.view
    (not_standing c.args.draft.serial (view c.args.seat.now.seat).work.standalones
    c.requires.may.next.standalones)

pub returns-in-Some-clause-view : goal.returns-in-Some-clause-view
returns-in-Some-clause-view g c =
    let t = c.args.self.now.table in
    let told = c.in-Some.ensures.view in (
      record {
        within = told.1.low;
        tries =
            tries_placed _ _ (slots_of t) (capacity_of t) (is_strict t) c.args.draft.charge
            (view c.args.seat.now.seat) (view c.reserve.new.seat)
            (rw c.in-Reserved.is at c.in_ok-reserved.ensures.view).0 _ c.args.draft
            c.args.value.now (view c.put.new.seat.seat) refl told.1.tried;
      },
      refl,
      refl,
    )

pub returns-in-None-clause-view : goal.returns-in-None-clause-view
returns-in-None-clause-view g c =
    let t = c.args.self.now.table in
    left_stood _ _ (slots_of t) (capacity_of t) (is_strict t) c.args.draft
    (view c.args.seat.now.seat) (view c.reserve.new.seat) (view c.put.new.seat.seat)
    (rw c.in-Reserved.is at c.in_ok-reserved.ensures.view).0 c.in-None.ensures.view
    (view c.stand.new.seat) c.stand.ensures.view

pub returns-in-NoPlace-clause-view : goal.returns-in-NoPlace-clause-view
returns-in-NoPlace-clause-view g c =
    let t = c.args.self.now.table in
    let told = rw c.in-NoPlace.is at c.in_ok-reserved.ensures.view in
    left_alone _ _ (slots_of t) (capacity_of t) (is_strict t) c.args.draft (view
    c.args.seat.now.seat)
    (view c.reserve.new.seat) told.0 told.2 (view c.standalone_in.new.seat)
    c.standalone_in.ensures.view

pub returns-in_err-reserved-clause-evicts : goal.returns-in_err-reserved-clause-evicts
returns-in_err-reserved-clause-evicts g c =
    let p = err_from_is_err_and c.from_residual.result c.from_residual.ensures.1 in
    rw (p.1, p.2)
    (refuses c.args.self.now c.args.draft g.T.Tag.fits _ _ c.in_err-reserved.field-0.0
    c.args.seat.now
    _ c.in_err-reserved.ensures.evicts c.in_err-reserved.ensures.effort.0 refl)

pub returns-in_err-reserved-clause-frees : goal.returns-in_err-reserved-clause-frees
returns-in_err-reserved-clause-frees g c =
    let t = c.args.self.now.table in
    frees_by (slots_of t) (room_of t) g.L.FreedList.loads 0 c.args.seat.now.seat c.reserve.new.seat
    c.reserve.new.seat c.args.seat.now.effort c.reserve.new.effort (omega arith)
    (rose_same _ _ c.in_err-reserved.ensures.effort.0) c.in_err-reserved.ensures.steps
    (omega arith) (record { turns = refl; takings = refl; gone = refl; opened = refl })

pub returns-in_err-reserved-clause-steps : goal.returns-in_err-reserved-clause-steps
returns-in_err-reserved-clause-steps g c =
    let t = c.args.self.now.table in
    few_by (slots_of t) (room_of t) g.L.FreedList.loads c.args.seat.now.seat c.reserve.new.seat
    c.args.seat.now.effort c.reserve.new.effort (returns-in_err-reserved-clause-frees g c)
    (refused_within _ _ (slots_of t) (capacity_of t) (is_strict t) c.args.draft
    c.in_err-reserved.field-0.0 (view c.args.seat.now.seat) (view c.reserve.new.seat)
    (refused_by _ _ (slots_of t) (capacity_of t) (is_strict t) c.args.draft
    c.in_err-reserved.field-0.0 (view c.args.seat.now.seat) (view c.reserve.new.seat)
    c.in_err-reserved.ensures.view) g.L.FreedList.loads)

pub returns-in-Some-clause-evicts : goal.returns-in-Some-clause-evicts
returns-in-Some-clause-evicts g c =
    let told = c.in-Some.ensures in
    let r = (rw c.in-Reserved.is at c.in_ok-reserved.ensures.view).0 in
    puts_in c.args.self.now c.args.draft g.T.Tag.fits _ _ c.in-Some.slot c.args.value.now
    c.args.seat.now _ _ r c.in_ok-reserved.ensures.effort c.put.ensures.tally
    (rw c.in-Reserved.is at c.in_ok-reserved.ensures.evicts) told.view.1
    told.placed.1 told.placed.2 told.placed.0

pub returns-in-Some-clause-frees : goal.returns-in-Some-clause-frees
returns-in-Some-clause-frees g c =
    let t = c.args.self.now.table in
    let put = c.put.ensures.steps in
    frees_by (slots_of t) (room_of t) g.L.FreedList.loads put.visited c.args.seat.now.seat
    c.reserve.new.seat
    c.put.new.seat.seat c.args.seat.now.effort c.put.new.seat.effort put.within
    (subst (λ n. Rose put.visited put.visited n c.put.new.seat.effort.probes)
    c.in_ok-reserved.ensures.effort.0 put.counted) c.in_ok-reserved.ensures.steps
    (let few = put.steps in omega arith)
    (idle_placed c.in-Some.slot c.args.draft c.args.value.now (view c.reserve.new.seat)
    (view c.put.new.seat.seat) c.in-Some.ensures.view.1.tried)

pub returns-in-Some-clause-steps : goal.returns-in-Some-clause-steps
returns-in-Some-clause-steps g c =
    let t = c.args.self.now.table in
    few_by (slots_of t) (room_of t) g.L.FreedList.loads c.args.seat.now.seat c.put.new.seat.seat
    c.args.seat.now.effort c.put.new.seat.effort (returns-in-Some-clause-frees g c)
    (tries_within (returns-in-Some-clause-view g c).0.tries g.L.FreedList.loads)

pub returns-in-None-clause-evicts : goal.returns-in-None-clause-evicts
returns-in-None-clause-evicts g c =
    let told = c.in-None.ensures in
    let r = (rw c.in-Reserved.is at c.in_ok-reserved.ensures.view).0 in
    leaves_reserved c.args.self.now c.args.draft g.T.Tag.fits _ _ told.left.0 true c.args.seat.now _
    c.put.new.seat _ r
    c.in_ok-reserved.ensures.effort c.put.ensures.tally
    (rw c.in-Reserved.is at c.in_ok-reserved.ensures.evicts)
    told.view.tried c.put.ensures.adds told.left.1
    (keeps_by _ _ (view c.put.new.seat.seat) c.stand.ensures.view refl refl refl refl)
    (ap (λ (z : View g.row.T.Denot). z.met) c.stand.ensures.view)
    (ap (λ (z : View g.row.T.Denot). z.saw) c.stand.ensures.view) c.stand.ensures.adds
    c.stand.ensures.by told.left.2 told.left.3 refl

pub returns-in-None-clause-frees : goal.returns-in-None-clause-frees
returns-in-None-clause-frees g c =
    let t = c.args.self.now.table in
    let put = c.put.ensures.steps in
    frees_by (slots_of t) (room_of t) g.L.FreedList.loads put.visited c.args.seat.now.seat
    c.reserve.new.seat
    c.stand.new.seat c.args.seat.now.effort c.put.new.seat.effort put.within
    (subst (λ n. Rose put.visited put.visited n c.put.new.seat.effort.probes)
    c.in_ok-reserved.ensures.effort.0 put.counted) c.in_ok-reserved.ensures.steps
    (let few = put.steps in let back = c.stand.ensures.steps in omega arith)
    (keeps_then (view c.reserve.new.seat) (view c.put.new.seat.seat) (view c.stand.new.seat)
    (idle_tried (view c.reserve.new.seat) (view c.put.new.seat.seat) c.in-None.ensures.view.tried)
    (keeps_by _ _ (view c.put.new.seat.seat) c.stand.ensures.view refl refl refl refl))

pub returns-in-None-clause-steps : goal.returns-in-None-clause-steps
returns-in-None-clause-steps g c =
    let t = c.args.self.now.table in
    few_by (slots_of t) (room_of t) g.L.FreedList.loads c.args.seat.now.seat c.stand.new.seat
    c.args.seat.now.effort c.put.new.seat.effort (returns-in-None-clause-frees g c)
    (tries_within (returns-in-None-clause-view g c).tries g.L.FreedList.loads)

pub returns-in-NoPlace-clause-evicts : goal.returns-in-NoPlace-clause-evicts
returns-in-NoPlace-clause-evicts g c =
    let r = (rw c.in-NoPlace.is at c.in_ok-reserved.ensures.view).0 in
    leaves_unreserved c.args.self.now c.args.draft g.T.Tag.fits _ _ true c.args.seat.now _
    c.reserve.new.seat r (rw c.in-NoPlace.is at c.in_ok-reserved.ensures.evicts)
    (keeps_by _ _ (view c.reserve.new.seat) c.standalone_in.ensures.view refl refl refl refl)
    (ap (λ (z : View g.row.T.Denot). z.saw) c.standalone_in.ensures.view)
    c.standalone_in.ensures.adds c.standalone_in.ensures.by
    c.in_ok-reserved.ensures.effort.0 refl

pub returns-in-NoPlace-clause-frees : goal.returns-in-NoPlace-clause-frees
returns-in-NoPlace-clause-frees g c =
    let t = c.args.self.now.table in
    frees_by (slots_of t) (room_of t) g.L.FreedList.loads 0 c.args.seat.now.seat c.reserve.new.seat
    c.standalone_in.new.seat c.args.seat.now.effort c.reserve.new.effort (omega arith)
    (rose_same _ _ c.in_ok-reserved.ensures.effort.0) c.in_ok-reserved.ensures.steps
    (let few = c.standalone_in.ensures.steps in omega arith)
    (keeps_by _ _ (view c.reserve.new.seat) c.standalone_in.ensures.view refl refl refl refl)

pub returns-in-NoPlace-clause-steps : goal.returns-in-NoPlace-clause-steps
returns-in-NoPlace-clause-steps g c =
    let t = c.args.self.now.table in
    few_by (slots_of t) (room_of t) g.L.FreedList.loads c.args.seat.now.seat
    c.standalone_in.new.seat
    c.args.seat.now.effort c.reserve.new.effort (returns-in-NoPlace-clause-frees g c)
    (tries_within (returns-in-NoPlace-clause-view g c).tries g.L.FreedList.loads)

pub returns-in-Some-clause-large : goal.returns-in-Some-clause-large
returns-in-Some-clause-large g c strict less =
    let wrong = c.in_ok-reserved.ensures.large strict less in cc

pub returns-in-Some-clause-shown : goal.returns-in-Some-clause-shown
returns-in-Some-clause-shown g c one pin placed =
    let is : c.in-Some.slot ≡ pin.slot = ap (λ p. p.slot) (same_pin _ pin placed) in
    subst (λ s. ShowsIn c.args.self.now c.args.draft.key s c.put.new.seat) is
    (placed_shows g.T.Tag.fits c.args.self.now c.args.draft one c.in-Some.slot _ c.put.new.seat
    c.in-Some.ensures.placed.2)

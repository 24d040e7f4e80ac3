use Rattle.std.proofs.Common.{◌-◌, Some, bit_and, length, refl, ◌∙◌, ap, arith}
use Rattle.std.proofs.lemmas.Option.{slice_get_read}
use Rattle.hcc_rule.proofs.Probes.ProbeLaws.{probe_inside}
use Rattle.hcc_cache.proofs.Beginnings.DraftSlots.{none_if, some_if, seeking_ends, seeking_more, seeking_none}
use Rattle.hcc_cache.proofs.drafting.free_slot.Goals as goal

pub loop-init : goal.loop-init
loop-init c = seeking_none c.args.places.now c.args.seeded.in_shard c.requires.power

pub returns-then-is_none-clause-free : goal.returns-then-is_none-clause-free
returns-then-is_none-clause-free c =
    let places = c.args.places.now in
    let at = c.loop.invariant.at in
    let inside = c.loop-test.true in
    let low = probe_inside (length places) c.args.seeded.in_shard c.loop.counter (omega arith) in
    let slot = bit_and c.loop.probe (length places - 1) in
    slice_get_read places (length places) slot c.index-places-slot.result refl
    (let same = at in omega arith) c.index-places-slot.is
    ∙ ap Some (none_if c.index-places-slot.result c.if-is_none.ensures)

pub returns-then-is_none-clause-reached : goal.returns-then-is_none-clause-reached
returns-then-is_none-clause-reached c = record {
  probe = c.loop.counter;
  here = c.loop.invariant.at;
  passes = c.loop.invariant.taken;
}

pub loop-preserved : goal.loop-preserved
loop-preserved c =
    let places = c.args.places.now in
    let at = c.loop.invariant.at in
    let inside = c.loop-test.true in
    let low = probe_inside (length places) c.args.seeded.in_shard c.loop.counter (omega arith) in
    let slot = bit_and c.loop.probe (length places - 1) in
    let read = slice_get_read places (length places) slot c.index-places-slot.result refl
    (let same = at in omega arith) c.index-places-slot.is in
    let some = some_if c.index-places-slot.result c.if-is_none.ensures in
    seeking_more places c.args.seeded.in_shard c.requires.power c.loop.counter c.loop.probe slot
    c.loop.invariant refl (some.0, read ∙ ap Some some.1)

pub unreachable-requires : goal.unreachable-requires
unreachable-requires c =
    seeking_ends c.args.places.now c.args.seeded.in_shard c.requires.power c.loop.counter
    c.loop.probe c.loop.invariant c.requires.free c.loop-test.false

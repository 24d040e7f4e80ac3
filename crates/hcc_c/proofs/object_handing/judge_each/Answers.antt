use Rattle.std.proofs.Common.{◌≡◌, ◌+◌, ◌<◌, suc, length, sym, ◌∙◌, arith}
use Rattle.hcc_c.proofs.ObjectPlaces.{held, judged_next}
use Rattle.hcc_c.proofs.Places.{held_set, rest_at}
use Rattle.hcc_c.proofs.object_handing.judge_each.Goals as goal

pub judge_in_place-requires : goal.judge_in_place-requires
judge_in_place-requires c =
    let count = c.loop-k.auto.places in let below = c.loop-k-test.true in
    let inside : c.loop-k.k < length c.loop-k.places = omega arith in
    let rest = rest_at held c.loop-k.places c.loop-k.k c.index-places-k.result inside in
    (rw rest at c.loop-k.invariant.some).0

pub returns-in-Err-clause-judged : goal.returns-in-Err-clause-judged
returns-in-Err-clause-judged c =
    let count = c.loop-k.auto.places in let below = c.loop-k-test.true in
    let inside : c.loop-k.k < length c.loop-k.places = omega arith in
    let next = judged_next c.args.number c.loop-k.places c.loop-k.k c.index-places-k.result
    c.judge_in_place.result inside c.judge_in_place.ensures.judged in
    sym (rw c.in-Err.is at next) ∙ c.loop-k.invariant.rest

pub returns-in-Err-clause-same : goal.returns-in-Err-clause-same
returns-in-Err-clause-same c =
    held_set held c.loop-k.places c.loop-k.k c.index-places-k.result c.judge_in_place.new.place
    c.judge_in_place.ensures.same ∙ c.loop-k.invariant.same

pub loop-k-preserved : goal.loop-k-preserved
loop-k-preserved c =
    let count = c.loop-k.auto.places in let below = c.loop-k-test.true in
    let inside : c.loop-k.k < length c.loop-k.places = omega arith in
    let same = held_set held c.loop-k.places c.loop-k.k c.index-places-k.result
    c.judge_in_place.new.place c.judge_in_place.ensures.same in
    let up : c.loop-k.k + 1 ≡ suc c.loop-k.k = omega arith in
    let rest = rest_at held c.loop-k.places c.loop-k.k c.index-places-k.result inside in
    let next = judged_next c.args.number c.loop-k.places c.loop-k.k c.index-places-k.result
    c.judge_in_place.result inside c.judge_in_place.ensures.judged in
    rw (up, same) (record {
      same = c.loop-k.invariant.same;
      some = (rw rest at c.loop-k.invariant.some).1;
      rest = sym (rw c.in-Ok.is at next) ∙ c.loop-k.invariant.rest;
    })

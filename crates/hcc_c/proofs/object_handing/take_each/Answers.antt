use Rattle.std.proofs.Common.{◌≡◌, ◌+◌, ◌<◌, ◌++◌, ◌∷◌, [], suc, length, ap, sym, ◌∙◌, take, arith}
use Rattle.std.proofs.lemmas.List.{append_assoc, length_push}
use Rattle.hcc_c.specs.ObjectPools.{IsEmpty, held_in}
use Rattle.hcc_rule.proofs.Basics.Lists.{each_append}
use Rattle.hcc_c.proofs.ObjectPlaces.{clients_next, held}
use Rattle.hcc_c.proofs.Places.{after_set, front_set, rest_at}
use Rattle.hcc_c.proofs.object_handing.take_each.Goals as goal

pub take-client-requires : goal.take-client-requires
take-client-requires c =
    let count = c.loop-k.auto.places in let below = c.loop-k-test.true in
    let inside : c.loop-k.k < length c.loop-k.places = omega arith in
    let rest = rest_at held c.loop-k.places c.loop-k.k c.index-places-k.result inside in
    (rw rest at c.loop-k.invariant.some).0

pub loop-k-preserved : goal.loop-k-preserved
loop-k-preserved c =
    let count = c.loop-k.auto.places in let below = c.loop-k-test.true in
    let inside : c.loop-k.k < length c.loop-k.places = omega arith in
    let up : c.loop-k.k + 1 ≡ suc c.loop-k.k = omega arith in
    let was = c.loop-k.invariant in
    let place = c.take-client.new.place in
    let rest = rest_at held c.loop-k.places c.loop-k.k c.index-places-k.result inside in
    let after = after_set held c.loop-k.places c.loop-k.k place in
    let front = front_set held c.loop-k.places c.loop-k.k place inside in
    let next = clients_next c.loop-k.places c.loop-k.k c.index-places-k.result c.take-client.result
    inside c.take-client.ensures.taken in
    let longer = ap length c.push_reserved.ensures.items ∙ length_push c.loop-k.back.items
    c.take-client.result in
    let many = was.more in
    rw up (record {
      some = rw after (rw rest at was.some).1;
      none = rw front (each_append IsEmpty (take c.loop-k.k (held_in c.loop-k.places))
          (place.value ∷ []) was.none (c.take-client.ensures.none, tt));
      back = rw (c.push_reserved.ensures.items, after) (append_assoc c.loop-k.back.items
          (c.take-client.result ∷ []) _ ∙ ap (λ xs. c.loop-k.back.items ++ xs) (sym next)
          ∙ was.back);
      more = omega arith;
      room = c.push_reserved.ensures.capacity ∙ was.room;
    })

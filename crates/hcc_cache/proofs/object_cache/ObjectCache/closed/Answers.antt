use Rattle.std.proofs.Common.{refl, subst, sym, arith}
use Rattle.hcc_cache.specs.Closings.{AreBack, IsClosed}
use Rattle.hcc_cache.specs.Objects.{is_word}
use Rattle.hcc_cache.proofs.HandedBack.ObjectsBack.{back_below, gathered, words_left}
use Rattle.hcc_cache.proofs.object_cache.ObjectCache.closed.Goals as goal

pub closed-requires : goal.closed-requires
closed-requires c =
    let rest = c.loop-client.client-iterator.rest in
    let ended = c.in-None.ensures.steps.0 in
    let counted = rest.ok in
    subst (AreBack c.args.self.cache)
    (sym (gathered c.loop-client.back.items rest.items c.args.clients.items
    c.loop-client.invariant.same (omega arith)))
    (back_below c.args.self c.args.clients.items c.requires.back)

pub invariant_of-result : goal.invariant_of-result
invariant_of-result c = record {
  words = words_left c.args.self.cache c.loop-client.back.items c.closed.result
      c.closed.ensures.closes;
  within = omega arith;
}

pub returns : goal.returns
returns c =
    let rest = c.loop-client.client-iterator.rest in
    let ended = c.in-None.ensures.steps.0 in
    let counted = rest.ok in
    record {
      closed =
          subst (λ l. IsClosed is_word c.args.self.cache l c.closed.result)
          (gathered c.loop-client.back.items rest.items c.args.clients.items
          c.loop-client.invariant.same (omega arith)) c.closed.ensures.closes;
      shard = refl;
      slot = refl;
    }

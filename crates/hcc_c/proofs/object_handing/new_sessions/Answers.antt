use Rattle.std.proofs.Common.{[], ◌++◌, ◌∷◌, ◌∙◌, length, map, ap, arith}
use Rattle.std.specs.Arc.{arc_value}
use Rattle.std.specs.Global.{Global}
use Rattle.std.specs.Prelude.{Box}
use Rattle.std.proofs.lemmas.List.{length_push}
use Rattle.hcc_c.specs.declared.object_session.ObjectSession.{ObjectSession}
use Rattle.hcc_c.specs.ObjectPools.{IsNew}
use Rattle.hcc_rule.proofs.Basics.Lists.{each_append}
use Rattle.hcc_c.proofs.Places.{last_moved}
use Rattle.hcc_c.proofs.object_handing.new_sessions.Goals as goal

pub loop-client-preserved : goal.loop-client-preserved
loop-client-preserved c =
    let was = c.loop-client.invariant in
    let made = c.loop-client.sessions.items in
    let session = c.in-Ok-new_session.session in
    let rest = c.next.new.self.rest.items in
    let next = c.in-Some.ensures.steps.0 in
    let items = c.push_reserved.ensures.items in
    let longer = ap length items ∙ length_push made session in
    let shorter = ap length next in
    let capacity = c.push_reserved.ensures.capacity in
    let room = was.room in
    record {
      rest = (rw next at was.rest).1;
      clients_are = rw items (last_moved
          (λ (session : Box ObjectSession Global). session.value.client) made session rest
          ∙ ap (λ client. map (λ (session : Box ObjectSession Global). session.value.client) made
          ++ client ∷ rest) c.in-Ok-new_session.ensures.client
          ∙ (rw next at was.clients_are));
      each = rw items (each_append (λ (session : Box ObjectSession Global).
          IsNew (arc_value c.args.cache.now) c.args.number session.value) made (session ∷ [])
          was.each (c.in-Ok-new_session.ensures.made, tt));
      room = omega arith;
    }

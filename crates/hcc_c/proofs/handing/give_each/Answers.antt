use Rattle.std.proofs.Common.{◌≡◌, ◌<◌, Some, suc, length, ap, sym, ◌∙◌, arith}
use Rattle.std.proofs.lemmas.List.{length_push}
use Rattle.std.specs.Prelude.{Box}
use Rattle.std.specs.Global.{Global}
use Rattle.hcc_c.specs.declared.session.Session.{Session}
use Rattle.hcc_c.proofs.Places.{held, last_moved, rest_set}
use Rattle.hcc_c.proofs.handing.give_each.Goals as goal

pub loop-session-preserved : goal.loop-session-preserved
loop-session-preserved c =
    let count = c.loop-session.auto.places in
    let left = c.pop.new.self.items in
    let n = c.len-k.ensures ∙ c.pop.new.self.ok.0 in
    let longer = ap length c.in-Some.ensures.items ∙ length_push left c.in-Some.session in
    let short = c.loop-session.invariant.short in
    let inside : c.len-k.result < length c.loop-session.places = omega arith in
    let set = rest_set held c.loop-session.places c.len-k.result c.of-in-Some.result inside in
    let value = c.of-in-Some.ensures ∙ ap Some c.of.ensures in
    let up : length c.loop-session.sessions.items ≡ suc c.len-k.result = omega arith in
    let was = rw (up, c.in-Some.ensures.items) at c.loop-session.invariant.given in
    record {
      short = omega arith;
      given = rw (← n) (rw (set, value) (sym (last_moved (λ (session : Box Session Global).
          Some session.value) left c.in-Some.session _) ∙ was));
    }

use Rattle.std.proofs.Common.{◌≡◌, ◌+◌, ◌∙◌, Ok, length, ap, sym, arith}
use Rattle.std.proofs.lemmas.List.{length-append, length-map}
use Rattle.hcc_c.specs.ObjectPools.{clients_in, held_in, judged_each}
use Rattle.hcc_c.proofs.ObjectBacks.{count_in, ended, passes, whole_with}
use Rattle.hcc_c.proofs.object_pool.ObjectPool.end.Goals as goal

pub end_alone-requires-clause-whole : goal.end_alone-requires-clause-whole
end_alone-requires-clause-whole c =
    let held = held_in c.args.clients.now in
    let fine = sym c.judge_each.ensures.judged ∙ c.in-Ok.is in
    let items = rw c.judge_each.ensures.same at c.take_each.ensures.back in
    whole_with c.args.self.now held c.take_each.new.back c.requires.whole c.requires.clients fine
    items c.take_each.ensures.room

pub end_alone-requires-clause-all : goal.end_alone-requires-clause-all
end_alone-requires-clause-all c =
    let held = held_in c.args.clients.now in
    let old = c.args.self.now.back in
    let items = rw c.judge_each.ensures.same at c.take_each.ensures.back in
    let many = ap length items ∙ length-append old.items (clients_in held) in
    let each = count_in c.args.self.now held c.requires.clients in
    let same = sym (length-map c.judge_each.new.places (λ place. place.value))
    ∙ ap length c.judge_each.ensures.same in
    let count = c.if-len-clients.false in
    let have = c.len.ensures ∙ old.ok.0 in
    omega arith

pub returns : goal.returns
returns c =
    let held = held_in c.args.clients.now in
    let old = c.args.self.now.back in
    let fine : judged_each c.args.self.now.number held ≡ Ok tt =
    sym c.judge_each.ensures.judged ∙ c.in-Ok.is in
    let items = rw c.judge_each.ensures.same at c.take_each.ensures.back in
    let same = sym (length-map c.judge_each.new.places (λ place. place.value))
    ∙ ap length c.judge_each.ensures.same in
    let count = c.if-len-clients.false in
    let have = c.len.ensures ∙ old.ok.0 in
    let all : length old.items + length held ≡ c.args.self.now.config.clients = omega arith in
    let whole = whole_with c.args.self.now held c.take_each.new.back c.requires.whole
    c.requires.clients fine items c.take_each.ensures.room in
    record {
      ends = ended c.end_alone.result c.args.self.now c.end_alone.new.self held
          (held_in c.take_each.new.places) c.take_each.new.back
          (passes c.args.self.now held fine all) c.take_each.ensures.none items whole
          c.end_alone.ensures.shared c.end_alone.ensures.closed;
    }

use Rattle.std.proofs.Common.{refl, None, arith}
use Rattle.hcc_rule.specs.Callers.{capacity_of, is_strict, plan_of, slots_of}
use Rattle.hcc_rule.specs.Seats.{view}
use Rattle.hcc_shard_tests.proofs.ShardGuests.{inserted_guest, may_insert}
use Rattle.hcc_shard_tests.proofs.shard.guest.Guest.insert.Goals as goal

pub returns-clause-keeps : goal.returns-clause-keeps
returns-clause-keeps g c =
    let me = c.args.self.now in
    let told = c.insert-answer.ensures in
    let table = me.shard.now.table in
    inserted_guest me.shard.now me.seat me.pins.items me.standing.items me.next c.requires.keeps
    c.insert-answer.new.seat told.seat (slots_of table) (capacity_of table) (is_strict table) _
    c.args.value.now c.insert-answer.result refl c.draft-draft.ensures.serial told.view

pub insert-answer-requires-clause-may : goal.insert-answer-requires-clause-may
insert-answer-requires-clause-may g c =
    may_insert (plan_of c.args.self.now.shard.now.table)
    c.draft-draft.result None c.args.value.now (view c.args.self.now.seat.seat)
    c.draft-draft.ensures.may (λ k. (omega (arith, c.type_inv.value k)))

use Rattle.std.proofs.Common.{arith}
use Rattle.hcc_rule.specs.Callers.{capacity_of, is_strict, plan_of, slots_of}
use Rattle.hcc_rule.specs.Seats.{view}
use Rattle.hcc_shard_tests.proofs.ShardGuests.{may_insert, pinned_guest, refused_guest, standing_guest}
use Rattle.hcc_shard_tests.proofs.shard.guest.Guest.insert_pinned.Goals as goal

pub returns-in-Err-clause-keeps : goal.returns-in-Err-clause-keeps
returns-in-Err-clause-keeps g c =
    let me = c.args.self.now in
    let told = c.insert_pinned-answer.ensures in
    let table = me.shard.now.table in
    rw (c.in_ok-reserve.ensures.items, c.in_ok-reserve-2.ensures.items) (refused_guest me.shard.now
    me.seat me.pins.items me.standing.items me.next c.requires.keeps c.insert_pinned-answer.new.seat
    told.seat (slots_of table) (capacity_of table) (is_strict table) c.draft-draft.result
    c.in-Err.why c.in-Err.ensures.view)

pub returns-in-Ok-push-clause-keeps : goal.returns-in-Ok-push-clause-keeps
returns-in-Ok-push-clause-keeps g c =
    let me = c.args.self.now in
    let table = me.shard.now.table in
    let told = rw c.in-Placed.is at c.in-Ok.ensures.view in
    rw (
      c.in-Ok-push.ensures.items,
      c.in_ok-reserve.ensures.items,
      c.in_ok-reserve-2.ensures.items,
    ) (pinned_guest me.shard.now me.seat me.pins.items
    me.standing.items me.next c.requires.keeps c.insert_pinned-answer.new.seat
    c.insert_pinned-answer.ensures.seat (slots_of table) (capacity_of table) (is_strict table)
    c.draft-draft.result c.args.value.now c.in-Placed.pin c.draft-draft.ensures.name
    c.draft-draft.ensures.serial told.0 told.1 told.2)

pub returns-in-Ok-push-2-clause-keeps : goal.returns-in-Ok-push-2-clause-keeps
returns-in-Ok-push-2-clause-keeps g c =
    let me = c.args.self.now in
    let table = me.shard.now.table in
    rw (
      c.in-Ok-push-2.ensures.items,
      c.in_ok-reserve.ensures.items,
      c.in_ok-reserve-2.ensures.items,
      ← c.draft-draft.ensures.charge,
    ) (standing_guest me.shard.now
    me.seat me.pins.items me.standing.items me.next c.requires.keeps
    c.insert_pinned-answer.new.seat c.insert_pinned-answer.ensures.seat (slots_of table)
    (capacity_of table) (is_strict table) c.draft-draft.result c.draft-draft.ensures.serial
    (rw c.in-Standalone.is at c.in-Ok.ensures.view))

pub insert_pinned-answer-requires-clause-may : goal.insert_pinned-answer-requires-clause-may
insert_pinned-answer-requires-clause-may g c =
    may_insert (plan_of c.args.self.now.shard.now.table) c.draft-draft.result
    c.draft-draft.result.name c.args.value.now (view c.args.self.now.seat.seat)
    c.draft-draft.ensures.may (λ k. (omega (arith, c.type_inv.value k)))

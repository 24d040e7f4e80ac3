use Rattle.std.proofs.Common.{rules, ◌≤◌, length, arith}
use Rattle.hcc_c.proofs.Copies.{copies_length, copies_none, copies_value, has_room}
use Rattle.hcc_c.proofs.closed.Left.value.Goals as goal

pub returns-in_default : goal.returns-in_default
returns-in_default c =
    let closed = c.in_ok-closed.closed.now in
    record {
      refused = search rules;
      told = search rules;
      copied = rw c.in_ok-closed.ensures.its.0
          (copies_none closed c.args.shard c.args.slot c.args.buffer.now c.in_default.ensures);
    }

pub returns-then-buffer-length : goal.returns-then-buffer-length
returns-then-buffer-length c =
    let closed = c.in_ok-closed.closed.now in
    record {
      refused = search rules;
      told = search rules;
      copied = rw c.in_ok-closed.ensures.its.0
          (copies_length closed c.args.shard c.args.slot c.args.buffer.now c.in-Some.left
          c.in-Some.ensures c.if-buffer-length.true);
    }

pub value-requires-clause-entry : goal.value-requires-clause-entry
value-requires-clause-entry c =
    let closed = c.in_ok-closed.closed.now in let longer = c.if-buffer-length.false in
    let enough : c.in-Some.left.len ≤ length c.args.buffer.now = omega arith in
    has_room closed c.args.shard c.args.slot c.args.buffer.now c.in-Some.left c.in-Some.ensures
    enough

pub returns : goal.returns
returns c =
    let closed = c.in_ok-closed.closed.now in
    record {
      refused = search rules;
      told = search rules;
      copied = rw c.in_ok-closed.ensures.its.0
          (copies_value closed c.args.shard c.args.slot c.args.buffer.now c.in-Some.left
          c.in-Some.ensures c.value.result c.value.new.buffer c.value.ensures);
    }

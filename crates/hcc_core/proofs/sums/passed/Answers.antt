use Rattle.std.proofs.Common.{arith}
use Rattle.hcc_core.proofs.ReaderLemmas.{passed_total}
use Rattle.hcc_core.proofs.sums.passed.Goals as goal

pub in_entries-entries-requires : goal.in_entries-entries-requires
in_entries-entries-requires c = let all =
    passed_total c.args.slots.now c.args.clients.now c.args.slot in omega arith

pub in_hands-hands-requires : goal.in_hands-hands-requires
in_hands-hands-requires c = let all =
    passed_total c.args.slots.now c.args.clients.now c.args.slot in omega arith

pub overflow_add-result : goal.overflow_add-result
overflow_add-result c = let all = passed_total c.args.slots.now c.args.clients.now c.args.slot in
    omega arith

pub returns : goal.returns
returns c = let all = passed_total c.args.slots.now c.args.clients.now c.args.slot in omega arith

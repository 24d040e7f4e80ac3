use Rattle.std.proofs.Common.{arith}
use Rattle.hcc_core.proofs.ReaderLemmas.{residents_total, occupied_total}
use Rattle.hcc_core.proofs.sums.occupancy.Goals as goal

pub freed_slots-freed_slots-requires : goal.freed_slots-freed_slots-requires
freed_slots-freed_slots-requires c = let held = occupied_total c.args.clients.now in omega arith

pub overflow_add-result-2 : goal.overflow_add-result-2
overflow_add-result-2 c =
    let entries = residents_total c.args.slots.now in
    let held = occupied_total c.args.clients.now in
    omega arith

pub returns : goal.returns
returns c =
    let entries = residents_total c.args.slots.now in
    let held = occupied_total c.args.clients.now in
    omega arith

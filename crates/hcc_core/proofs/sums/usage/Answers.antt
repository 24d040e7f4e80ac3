use Rattle.std.proofs.Common.{arith}
use Rattle.hcc_core.specs.World.{charge_of}
use Rattle.hcc_core.proofs.SumLemmas.{sum_by_total}
use Rattle.hcc_core.proofs.ReaderLemmas.{amounts_total}
use Rattle.hcc_core.proofs.sums.usage.Goals as goal

pub charges-entries-requires : goal.charges-entries-requires
charges-entries-requires c = let entries = sum_by_total charge_of c.args.slots.now in omega arith

pub granted-granted-requires : goal.granted-granted-requires
granted-granted-requires c = let parts = amounts_total c.args.clients.now in omega arith

pub needed-needed-requires : goal.needed-needed-requires
needed-needed-requires c = let parts = amounts_total c.args.clients.now in omega arith

pub freed-freed-requires : goal.freed-freed-requires
freed-freed-requires c = let parts = amounts_total c.args.clients.now in omega arith

pub standing-standing-requires : goal.standing-standing-requires
standing-standing-requires c = let parts = amounts_total c.args.clients.now in omega arith

pub overflow_add-result : goal.overflow_add-result
overflow_add-result c =
    let entries = sum_by_total charge_of c.args.slots.now in
    let parts = amounts_total c.args.clients.now in
    omega arith

pub overflow_add-result-2 : goal.overflow_add-result-2
overflow_add-result-2 c =
    let entries = sum_by_total charge_of c.args.slots.now in
    let parts = amounts_total c.args.clients.now in
    omega arith

pub overflow_add-result-3 : goal.overflow_add-result-3
overflow_add-result-3 c =
    let entries = sum_by_total charge_of c.args.slots.now in
    let parts = amounts_total c.args.clients.now in
    omega arith

pub overflow_add-result-4 : goal.overflow_add-result-4
overflow_add-result-4 c =
    let entries = sum_by_total charge_of c.args.slots.now in
    let parts = amounts_total c.args.clients.now in
    omega arith

pub returns : goal.returns
returns c =
    let entries = sum_by_total charge_of c.args.slots.now in
    let parts = amounts_total c.args.clients.now in
    omega arith

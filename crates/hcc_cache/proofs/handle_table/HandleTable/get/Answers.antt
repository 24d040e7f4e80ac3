use Rattle.std.proofs.Common.{◌∙◌, ap, sym, arith}
use Rattle.slab.specs.Entry.{value_of}
use Rattle.hcc_cache.proofs.Handles.HandleTables.{entry_at, found_at, is_held, is_vacant}
use Rattle.hcc_cache.proofs.handle_table.HandleTable.get.Goals as goal

pub returns-then-hold : goal.returns-then-hold
returns-then-hold c =
    let places = c.self.inside.places.items in
    let read = rw c.deref.ensures.value at c.in-Some.ensures.lookup in
    let there = entry_at places _ _ read.1 (omega arith) in
    rw (← c.self.view_is) (sym (found_at places _ _ there
    ∙ ap value_of (is_vacant c.in-Some.hold.now c.if-hold.true)))

pub returns-else-hold : goal.returns-else-hold
returns-else-hold c =
    let places = c.self.inside.places.items in
    let read = rw c.deref.ensures.value at c.in-Some.ensures.lookup in
    let there = entry_at places _ _ read.1 (omega arith) in
    rw (← c.self.view_is) (sym (found_at places _ _ there
    ∙ ap value_of (is_held c.in-Some.hold.now c.if-hold.false)))

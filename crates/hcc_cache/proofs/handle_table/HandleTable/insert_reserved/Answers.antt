use Rattle.std.proofs.Common.{◌≡◌, ◌+◌, ◌∙◌, Some, ap, arith, slice_get, sym}
use Rattle.std.proofs.lemmas.List.{length-map, map-set, map_push}
use Rattle.slab.proofs.EntryLemmas.{IsSound-fill, IsSound-push, count-set, next_is_vacant, next_within, vacant_before_end}
use Rattle.slab.proofs.SlabLemmas.{Updates-set}
use Rattle.slab.specs.Entry.{value_of}
use Rattle.slab.specs.declared.Entry.TheVariants.{Occupied, Vacant}
use Rattle.hcc_cache.proofs.Handles.HandleTables.{is_held, next_at}
use Rattle.hcc_cache.proofs.handle_table.HandleTable.insert_reserved.Goals as goal
use Rattle.hcc_cache.specs.HandleTables.{entries_of, entry_of}

pub invariant_of-self : goal.invariant_of-self
invariant_of-self c =
    let places = c.self.inside.places.items in
    let as_long = length-map places entry_of in
    let pushed = IsSound-push _ _ _ c.args.hold c.self.invariant.1 (omega arith) in
    let held = is_held c.args.hold c.requires.serial in
    (c.self.invariant.0 + 1, rw (c.push_reserved.ensures.items, map_push, held) pushed)

pub index_mut-place-requires : goal.index_mut-place-requires
index_mut-place-requires c =
    let as_long = length-map c.self.inside.places.items entry_of in
    omega (arith, next_within _ _ _ c.self.invariant.1 (λ e. omega arith))

-- the first vacant place, which names the next by its shard
vacant : (c : goal.After-self-2-1) → slice_get (entries_of c.self.inside.places.items)
    c.self.inside.next ≡ Some (Vacant c.index_mut-place.result.now.shard)
vacant c =
    let places = c.self.inside.places.items in
    let as_long = length-map places entry_of in
    let found = vacant_before_end _ _ _ c.self.invariant.1 (λ e. omega arith) in
    let next = next_at places _ _ c.index_mut-place.ensures.value found.0 found.1 in
    found.1 ∙ ap (λ n. Some (Vacant n)) (sym next)

pub invariant_of-self-2 : goal.invariant_of-self-2
invariant_of-self-2 c =
    let filled = IsSound-fill _ _ _ _ c.args.hold c.self.invariant.1 (vacant c) in
    (c.self.invariant.0 + 1, rw (map-set, is_held c.args.hold c.requires.serial) filled)

pub returns-clause-was_vacant : goal.returns-clause-was_vacant
returns-clause-was_vacant c = rw (← c.self.view_is) (next_is_vacant _ _ _ c.self.invariant.1)

pub returns-clause-updates : goal.returns-clause-updates
returns-clause-updates c =
    let as_long = length-map (entries_of c.self.inside.places.items) value_of in
    let also = length-map c.self.inside.places.items entry_of in
    let within = next_within _ _ _ c.self.invariant.1 (λ e. omega arith) in
    rw (← c.self.view_is) (Updates-set _ _ _ _ (omega arith)
    (rw (map-set, map-set, is_held c.args.hold c.requires.serial)))

pub returns-clause-len : goal.returns-clause-len
returns-clause-len c =
    let counted = count-set (entries_of c.self.inside.places.items) c.self.inside.next _
    (Occupied c.args.hold) (vacant c) in
    rw (← c.self.view_is, map-set, is_held c.args.hold c.requires.serial) (omega arith)

use Rattle.std.proofs.Common.{◌≡◌, ◌-◌, Some, arith, slice_get}
use Rattle.std.proofs.lemmas.List.{map-set}
use Rattle.slab.proofs.EntryLemmas.{IsSound-vacate, count-set}
use Rattle.slab.proofs.SlabLemmas.{ContainsKey-within, Updates-set}
use Rattle.slab.specs.declared.Entry.TheVariants.{Occupied, Vacant}
use Rattle.hcc_cache.proofs.Handles.HandleTables.{found_at, held_at}
use Rattle.hcc_cache.proofs.handle_table.HandleTable.remove.Goals as goal
use Rattle.hcc_cache.specs.HandleTables.{entries_of}

-- the place has the handle before
occupied : (c : goal.After-self-2-1)
    → slice_get (entries_of c.self.inside.places.items) c.args.index
    ≡ Some (Occupied c.index_mut-place.result.now)
occupied c =
    let some = rw (← c.self.view_is) at c.requires in
    held_at c.self.inside.places.items c.args.index _ c.index_mut-place.ensures.value some

pub invariant_of-self : goal.invariant_of-self
invariant_of-self c =
    let vacated = IsSound-vacate _ _ _ _ _ c.self.invariant.1 (occupied c) in
    (c.self.invariant.0 - 1, rw map-set vacated)

pub returns-clause-value : goal.returns-clause-value
returns-clause-value c =
    let places = c.self.inside.places.items in
    rw (← c.self.view_is) (found_at places c.args.index _ (occupied c))

pub returns-clause-updates : goal.returns-clause-updates
returns-clause-updates c =
    Updates-set _ _ c.args.index _ (ContainsKey-within c.args.self.now c.args.index c.requires)
    (rw (← c.self.view_is, map-set, map-set))

pub returns-clause-len : goal.returns-clause-len
returns-clause-len c =
    let counted = count-set (entries_of c.self.inside.places.items) c.args.index _
    (Vacant c.self.inside.next) (occupied c) in
    rw (← c.self.view_is, map-set) (omega arith)

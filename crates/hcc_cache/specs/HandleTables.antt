-- What stands at the places of a client's table of handles.
use Rattle.std.specs.Prelude.{ℕ, List, map, if◌then◌else◌, ◌==◌}
use Rattle.slab.specs.Entry.{IsSound}
use Rattle.slab.specs.declared.Entry.{Entry}
use Rattle.slab.specs.declared.Entry.TheVariants.{Occupied, Vacant}
use Rattle.hcc_cache.specs.declared.handle_table.TheConstants.{VACANT}
use Rattle.hcc_cache.specs.declared.holding.Hold.{Hold}

-- a place as a slab's entry: without a handle it names the next such place
abbrev pub entry_of : Hold → Entry Hold
entry_of hold = if hold.serial == VACANT then Vacant hold.shard else Occupied hold

abbrev pub entries_of : List Hold → List (Entry Hold)
entries_of places = map entry_of places

-- the list from `next` holds every place without a handle
abbrev pub IsLinked : List Hold → ℕ → Type 0
IsLinked places next = (held : ℕ) × IsSound (entries_of places) held next

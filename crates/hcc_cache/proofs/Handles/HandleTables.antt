-- A place of a client's table of handles, read as a slab's entry.
use Rattle.std.proofs.Common.{◌≡◌, ◌≢◌, ℕ, ◌<◌, List, map, length, get_or, Some, None, IsSome, slice_get, refl, sym, ap, ◌∙◌, inl, inr, arith}
use Rattle.std.proofs.lemmas.Bool.{cases_eq, ne_eqb}
use Rattle.std.proofs.lemmas.List.{get_or-map, length-map}
use Rattle.std.proofs.lemmas.Option.{get_or_from_slice_get, slice_get-get_or, slice_get_within}
use Rattle.slab.proofs.EntryLemmas.{occupied_at}
use Rattle.slab.specs.Entry.{value_of}
use Rattle.slab.specs.declared.Entry.{Entry}
use Rattle.slab.specs.declared.Entry.TheVariants.{Occupied, Vacant}
use Rattle.hcc_cache.specs.HandleTables.{entries_of, entry_of}
use Rattle.hcc_cache.specs.declared.handle_table.TheConstants.{VACANT}
use Rattle.hcc_cache.specs.declared.holding.Hold.{Hold}

module _ (hold : Hold) where
  pub is_held : hold.serial ≢ VACANT → entry_of hold ≡ Occupied hold
  is_held differs = rw (ne_eqb hold.serial VACANT differs) refl

  pub is_vacant : hold.serial ≡ VACANT → entry_of hold ≡ Vacant hold.shard
  is_vacant same = rw same refl

  -- a place that is occupied has its own hold
  held_there : (value : Hold) → entry_of hold ≡ Occupied value → entry_of hold ≡ Occupied hold
  held_there value occupied =
      elim (cases_eq hold.serial VACANT) [
        | inl same ↦ let named = is_vacant same in cc
        | inr differs ↦ is_held differs
      ]

  -- a vacant place names the next by its shard
  next_there : (next : ℕ) → entry_of hold ≡ Vacant next → hold.shard ≡ next
  next_there next vacant =
      elim (cases_eq hold.serial VACANT) [
        | inl same ↦ let named = is_vacant same in cc
        | inr differs ↦ let held = is_held differs in cc
      ]

module _ (places : List Hold) (index : ℕ) where
  -- what is found at an index is what its entry has
  pub found_at : (entry : Entry Hold) → slice_get (entries_of places) index ≡ Some entry
      → get_or (map value_of (entries_of places)) index None ≡ value_of entry
  found_at entry there =
      get_or-map value_of (entries_of places) index entry None
      (slice_get_within _ index entry there)
      ∙ ap value_of (get_or_from_slice_get (entries_of places) index entry entry there)

  module _ (hold : Hold) (read : hold ≡ get_or places index hold) where
    -- what a read of a place gives is the entry there
    pub entry_at : index < length places
        → slice_get (entries_of places) index ≡ Some (entry_of hold)
    entry_at within =
        slice_get-get_or (entries_of places) index (entry_of hold)
        (omega (arith, length-map places entry_of))
        ∙ ap Some (get_or-map entry_of places index hold (entry_of hold) within
        ∙ ap entry_of (sym read))

    -- the same, where a handle is found at the index
    pub held_at : IsSome (get_or (map value_of (entries_of places)) index None)
        → slice_get (entries_of places) index ≡ Some (Occupied hold)
    held_at some =
        let found = occupied_at (entries_of places) index some in
        let within = slice_get_within (entries_of places) index (Occupied found.0) found.1 in
        let there = entry_at (omega (arith, length-map places entry_of)) in
        let occupied : entry_of hold ≡ Occupied found.0 = cc in
        there ∙ ap Some (held_there hold found.0 occupied)

    -- the same, where the entry is vacant
    pub next_at : (next : ℕ) → slice_get (entries_of places) index ≡ Some (Vacant next)
        → hold.shard ≡ next
    next_at next found =
        let within = slice_get_within (entries_of places) index (Vacant next) found in
        let there = entry_at (omega (arith, length-map places entry_of)) in
        let vacant : entry_of hold ≡ Vacant next = cc in
        next_there hold next vacant

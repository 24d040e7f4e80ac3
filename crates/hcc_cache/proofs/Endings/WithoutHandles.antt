-- What a client without handles knows: no references, and no standalone entries.
use Rattle.std.proofs.Common.{◌≡◌, ℕ, suc, ◌≤◌, List, [], ◌∷◌, Option, Some, None, is_some, count_by, slice_get, slice_index_or, refl, arith}
use Rattle.std.proofs.lemmas.List.{nil_from_length}
use Rattle.slab.specs.Slab.{slab_len}
use Rattle.hcc_core.specs.Sums.{total}
use Rattle.hcc_core.proofs.SumLemmas.{total-member}
use Rattle.hcc_shard.specs.declared.seat.ShardSeat.{ShardSeat}
use Rattle.hcc_shard.specs.Callers.{view_of}
use Rattle.hcc_cache.specs.declared.cache.Cache.{Cache}
use Rattle.hcc_cache.specs.declared.client.Client.{Client}
use Rattle.hcc_cache.specs.declared.holding.Alone.{Alone}
use Rattle.hcc_cache.specs.declared.seeded.Seeded.{Seeded}
use Rattle.hcc_cache.specs.Clients.{held_by}
use Rattle.hcc_cache.specs.Known.{records_at, references_of, standalones_at, Knows}

-- Where each standalone entry has a reference and there are no references, there is no entry.
none_alone : (slots : List (Option Alone))
    → ((index : ℕ) (a : Alone) → slice_index_or slots index None ≡ Some a → 1 ≤ a.references)
    → total references_of slots ≡ 0 → count_by is_some slots ≡ 0
none_alone [] some none = refl
none_alone (None ∷ rest) some none =
    let later = none_alone rest (λ index a h. some (suc index) a h) (omega arith) in
    omega arith
none_alone (Some a ∷ rest) some none =
    let first = some 0 a refl in
    absurd (omega arith)

module _ {T : Type 0} (cache : Cache T) (client : Client T) (knows : Knows cache client)
    (none : held_by client ≡ 0) where
  no_handles : slab_len client.handles ≡ 0
  no_handles = let count = knows.count in omega arith

  no_alone : slab_len client.alone ≡ 0
  no_alone =
      let all = knows.holds.references in
      let empty = no_handles in
      none_alone client.alone.slots (λ index a h. (knows.holds.some index a h).0) (omega arith)

  -- It holds nothing at any of its seats.
  pub holds_nothing : (s : ℕ) (seat : ShardSeat (Seeded T))
      → slice_get client.seats.items s ≡ Some seat
      → ((view_of seat).records ≡ []) × ((view_of seat).work.standalones ≡ [])
  holds_nothing s seat at =
      let pinned = total-member records_at client.seats.items s seat at in
      let standing = total-member standalones_at client.seats.items s seat at in
      let all = knows.holds.references in
      let pins = knows.holds.pins in
      let entries = knows.holds.entries in
      let empty = no_handles in
      let alone = no_alone in (
        nil_from_length (view_of seat).records (omega arith),
        nil_from_length (view_of seat).work.standalones (omega arith),
      )

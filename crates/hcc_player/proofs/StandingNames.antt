-- The names of the standalone entries for which a client's handles stand.
use Rattle.std.proofs.Common.{◌≡◌, ℕ, ◌<◌, Bool, true, false, Option, Some, None, if◌then◌else◌}
use Rattle.std.proofs.Common.{option_map, slice_index_or, refl, sym, ap, ◌∙◌, subst}
use Rattle.hcc_rule.specs.declared.view.Record.{Record}
use Rattle.hcc_rule.specs.Records.{record_in}
use Rattle.hcc_cache.specs.declared.cache.Cache.{Cache}
use Rattle.hcc_cache.specs.declared.client.Client.{Client}
use Rattle.hcc_cache.specs.declared.handle.Handle.{Handle}
use Rattle.hcc_cache.specs.declared.holding.Alone.{Alone}
use Rattle.hcc_cache.specs.declared.holding.Hold.{Hold}
use Rattle.hcc_cache.specs.declared.holding.Kept.{Kept}
use Rattle.hcc_cache.specs.declared.holding.Kept.TheVariants.{Pinned, Standing}
use Rattle.hcc_cache.specs.Clients.{Held, held_alone, held_as, held_entry, held_of, hold_of, if_of}
use Rattle.hcc_cache.specs.Clients.{is_of, kept_as, records_in}
use Rattle.hcc_cache.specs.Known.{IsKeptAs, Knows}

-- what the client keeps of a handle is in its slab
pub hold_there : (number : ℕ) (h : Handle) (x : Option Hold) (hold : Hold)
    → if_of number h x ≡ Some hold → x ≡ Some hold
hold_there number h None hold is = cc
hold_there number h (Some k) hold is = by (is_of number h k) is
  where
    by : (b : Bool) → (if b then Some k else None) ≡ Some hold → Some k ≡ Some hold
    by true e = e
    by false e = cc

-- a handle on an entry of the table stands for no standalone one
none_stands : (seed name : ℕ) (o : Option Record) (held : Held)
    → option_map (λ (r : Record). held_entry seed r.entry) o ≡ Some held
    → held.standing ≡ Some name → ⊥
none_stands seed name None held is standing = cc
none_stands seed name (Some r) held is standing =
    let same : held_entry seed r.entry ≡ held = cc in
    let no : None ≡ Some name = ap (λ (x : Held). x.standing) same ∙ standing in cc

module _ {T : Type 0} (cache : Cache T) (client : Client T) where
  -- what a handle stands for, by what is kept of it
  pub stands_as : (h : Handle) (hold : Hold) (kept : Kept) → hold_of client h ≡ Some hold
      → hold.kept ≡ kept
      → held_of cache client h ≡ kept_as cache.seed client.seats.items client.alone hold kept
  stands_as h hold kept at is =
      ap (held_as cache.seed client.seats.items client.alone) at
      ∙ ap (kept_as cache.seed client.seats.items client.alone hold) is

  pub stands_alone : (h : Handle) (hold : Hold) (index : ℕ) (a : Alone)
      → hold_of client h ≡ Some hold → hold.kept ≡ Standing index
      → slice_index_or client.alone.slots index None ≡ Some a
      → held_of cache client h ≡ Some (held_alone hold.key a)
  stands_alone h hold index a at is there =
      stands_as h hold (Standing index) at is ∙ ap (option_map (held_alone hold.key)) there

  pub stands_pinned : (h : Handle) (hold : Hold) (slot : ℕ) (counting : Bool) (r : Record)
      → hold_of client h ≡ Some hold → hold.kept ≡ Pinned slot counting
      → record_in hold.serial (records_in client.seats.items hold.shard) ≡ Some r
      → held_of cache client h ≡ Some (held_entry cache.seed r.entry)
  stands_pinned h hold slot counting r at is there =
      stands_as h hold (Pinned slot counting) at is
      ∙ ap (option_map (λ (q : Record). held_entry cache.seed q.entry)) there

module _ {T : Type 0} (cache : Cache T) (client : Client T) (known : Knows cache client) where
  -- they are among the serials that the client used
  pub standing_used : (h : Handle) (held : Held) (name : ℕ) → held_of cache client h ≡ Some held
      → held.standing ≡ Some name → name < client.used
  standing_used h held name here standing = by (hold_of client h) refl
    where
      by_kept : (hold : Hold) (kept : Kept) → hold_of client h ≡ Some hold → hold.kept ≡ kept
          → name < client.used
      by_kept hold (Pinned slot counting) at is =
          absurd (none_stands cache.seed name _ held
          (sym (stands_as cache client h hold (Pinned slot counting) at is) ∙ here) standing)
      by_kept hold (Standing index) at is =
          let of = known.holds.each h.index hold (hold_there client.number h _ hold at) in
          let stands = subst (IsKeptAs cache.seed client.seats.items client.alone hold) is
          of.0.stands in
          let both : Some (held_alone hold.key stands.entry) ≡ Some held =
          sym (stands_alone cache client h hold index stands.entry at is stands.there) ∙ here in
          let same : held_alone hold.key stands.entry ≡ held = cc in
          let names : Some stands.entry.name ≡ Some name =
          ap (λ (x : Held). x.standing) same ∙ standing in
          let it : stands.entry.name ≡ name = cc in
          subst (λ n. n < client.used) it (known.holds.some index stands.entry stands.there).2

      by : (o : Option Hold) → hold_of client h ≡ o → name < client.used
      by None free =
          let none : held_of cache client h ≡ None = rw free refl in
          let no : None ≡ Some held = sym none ∙ here in cc
      by (Some hold) at = by_kept hold hold.kept at refl

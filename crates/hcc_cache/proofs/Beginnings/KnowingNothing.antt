-- Clients that know of nothing that was done, as they are dealt their seats, and see no entry.
use Rattle.std.proofs.Common.{◌≡◌, inl, inr, ℕ, List, [], Option, None, Some, slice_get, slice_set, sym, refl, ap, ◌∙◌, arith}
use Rattle.std.specs.Prelude.{option_and_then}
use Rattle.std.specs.declared.alloc.Global.{Global}
use Rattle.hcc_core.specs.declared.slot.Slot.{Slot}
use Rattle.hcc_core.specs.Opening.{new_slot}
use Rattle.hcc_core.proofs.ListLemmas.{replicate_is}
use Rattle.hcc_rule.specs.declared.image.ImageEntry.{ImageEntry}
use Rattle.hcc_rule.specs.declared.view.Done.{Done}
use Rattle.hcc_rule.specs.Acts.{world_of}
use Rattle.hcc_rule.specs.Callers.{world_at}
use Rattle.hcc_rule.specs.Images.{slots_with}
use Rattle.hcc_rule.proofs.Basics.Lists.{each_set}
use Rattle.hcc_rule.proofs.Images.Fillings.{each_get}
use Rattle.hcc_table.specs.Standing.{entry_shown, shown_at}
use Rattle.hcc_shard.specs.declared.seat.ShardSeat.{ShardSeat}
use Rattle.hcc_shard.specs.declared.shard.Shard.{Shard}
use Rattle.hcc_shard.specs.Callers.{plan_of}
use Rattle.hcc_shard.specs.Ended.{past_of}
use Rattle.hcc_shard.specs.Stays.{KnowNoEvent}
use Rattle.hcc_cache.specs.declared.cache.Cache.{Cache}
use Rattle.hcc_cache.specs.declared.client.Client.{Client}
use Rattle.hcc_cache.specs.declared.config.Config.{Config}
use Rattle.hcc_cache.specs.declared.seeded.Seeded.{Seeded}
use Rattle.hcc_cache.specs.Ended.{KnowNothing}
use Rattle.hcc_cache.specs.Opened.{AreGiven, AreUnseated, KnowsNoneShown}
use Rattle.hcc_cache.specs.Reopened.{Starts, image_of}
use Rattle.hcc_cache.proofs.Basics.Lists.{get_push}

module _ {T : Type 0} where
  -- without seats they know nothing
  pub nothing_first : (config : Config) (clients : List (Client T)) → AreUnseated config clients
      → KnowNothing clients
  nothing_first config clients all k client h s seat at =
      let none : slice_get [] s ≡ Some seat =
      ap (λ seats. slice_get seats s) (sym (all.each k client h).1) ∙ at in
      cc

  -- nor do they by seats that know of no event
  pub nothing_more : (old now : List (Client T)) (seats : List (ShardSeat (Seeded T)))
      → KnowNothing old → KnowNoEvent seats → AreGiven 0 old seats now → KnowNothing now
  nothing_more old now seats nothing none given k client h s seat at =
      let g = given.given k client (omega arith) h in
      elim (get_push g.0.seats.items g.1 seat s
      (ap (λ all. slice_get all s) (sym g.4.gained) ∙ at)) [
        | inl before ↦ nothing k g.0 g.2 s seat before
        | inr last ↦
            ap past_of (sym last.1)
            ∙ each_get (λ (x : ShardSeat (Seeded T)). past_of x ≡ []) seats k g.1 none g.3
      ]

  -- nor once client 0 used its serials
  pub nothing_started : (config : Config) (used : ℕ) (clients : List (Client T))
      (was first : Client T) → KnowNothing clients → slice_get clients 0 ≡ Some was
      → Starts config used was first → KnowNothing (slice_set clients 0 first)
  nothing_started config used clients was first nothing here starts =
      each_set (λ j (x : Client T). (s : ℕ) (seat : ShardSeat (Seeded T))
      → slice_get x.seats.items s ≡ Some seat → past_of seat ≡ []) clients 0 first
      (λ s seat at. nothing 0 was here s seat
      (ap (λ (x : Client T). slice_get x.seats.items s) (sym starts.same) ∙ at))
      (λ j x other h. nothing j x h)

-- No slot of a table without entries shows one.
none_in : (size slot : ℕ)
    → option_and_then entry_shown (slice_get (slots_with size []) slot) ≡ None
none_in size slot = by (slice_get (slots_with size []) slot) refl
  where
    by : (o : Option Slot) → slice_get (slots_with size []) slot ≡ o
        → option_and_then entry_shown o ≡ None
    by None at = refl
    by (Some x) at = ap entry_shown (replicate_is size slot new_slot x at)

module _ {T : Type 0} where
  -- Where a shard began with no entries, the world after nothing was done shows none,
  new_world : (shard : Shard (Seeded T) Global) (seat : ShardSeat (Seeded T)) → image_of shard ≡ []
      → past_of seat ≡ [] → (slot : ℕ) → shown_at (world_at shard.table seat.seat) slot ≡ None
  new_world shard seat image nothing slot =
      let size = (plan_of shard).geometry.slots in
      ap (λ (history : List Done). shown_at (world_of (plan_of shard) history) slot) nothing
      ∙ (ap (λ (es : List ImageEntry).
      option_and_then entry_shown (slice_get (slots_with size es) slot)) image
      ∙ none_in size slot)

  -- and so no client of a new cache sees one.
  pub none_shown : (cache : Cache T) (clients : List (Client T))
      → ((s : ℕ) (shard : Shard (Seeded T) Global) → slice_get cache.shards.items s ≡ Some shard
      → image_of shard ≡ []) → KnowNothing clients
      → (k : ℕ) (client : Client T) → slice_get clients k ≡ Some client
      → KnowsNoneShown cache client
  none_shown cache clients images nothing k client h s shard seat there at =
      new_world shard seat (images s shard there) (nothing k client h s seat at)

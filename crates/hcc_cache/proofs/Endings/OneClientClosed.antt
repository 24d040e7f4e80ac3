-- What is left of a cache of one client is what that client knew.
use Rattle.std.proofs.Common.{◌≡◌, ℕ, ◌<◌, if◌then◌else◌, Bool, true, false, List, [], ◌∷◌, Some, None, is_some, slice_get, option_and_then, sym, refl, ap, ◌∙◌, subst, arith}
use Rattle.std.proofs.lemmas.Option.{same_Some}
use Rattle.std.specs.declared.alloc.Global.{Global}
use Rattle.hcc_word.specs.Word.{is_visible}
use Rattle.hcc_core.specs.declared.slot.Slot.{Slot}
use Rattle.hcc_core.specs.declared.slot.Slot.TheVariants as slots
use Rattle.hcc_core.specs.World.{State}
use Rattle.hcc_rule.specs.declared.geometry.Geometry.{Geometry}
use Rattle.hcc_rule.specs.declared.key.Key.{Key}
use Rattle.hcc_rule.specs.declared.view.View.{View}
use Rattle.hcc_rule.specs.Acts.{world_of}
use Rattle.hcc_rule.specs.Callers.{world_at}
use Rattle.hcc_rule.specs.Closing.{meta_at, words_of}
use Rattle.hcc_rule.specs.Ending.{ShowsWorld, TellsSlot}
use Rattle.hcc_rule.proofs.Basics.Lists.{there}
use Rattle.hcc_table.specs.Standing.{entry_shown, shown_at}
use Rattle.hcc_shard.specs.declared.entries.ClosedShard.{ClosedShard}
use Rattle.hcc_shard.specs.declared.seat.ShardSeat.{ShardSeat}
use Rattle.hcc_shard.specs.declared.shard.Shard.{Shard}
use Rattle.hcc_shard.specs.Callers.{plan_of, view_of}
use Rattle.hcc_shard.specs.Ended.{past_of}
use Rattle.hcc_shard.proofs.Imagings.{entry_if_visible}
use Rattle.hcc_cache.specs.declared.cache.Cache.{Cache}
use Rattle.hcc_cache.specs.declared.client.Client.{Client}
use Rattle.hcc_cache.specs.declared.seeded.Seeded.{Seeded}
use Rattle.hcc_cache.specs.Clients.{view_by}
use Rattle.hcc_cache.specs.Ended.{LeavesWorld}
use Rattle.hcc_cache.specs.Keys.{fits_seeded, tag_at}

module _ {T : Type 0} (fits : T → Key → List ℕ → Type 0) (cache : Cache T) (client : Client T)
    (s : ℕ) (shard : Shard (Seeded T) Global) (seat : ShardSeat (Seeded T))
    (left : ClosedShard Global) (sits : slice_get client.seats.items s ≡ Some seat)
    (leaves : LeavesWorld fits cache (client ∷ []) s shard left) where
  -- All that was known is what the client knew.
  known_is : leaves.history ≡ past_of seat
  known_is =
      let known = leaves.known in
      let low = known.low in
      let first : known.index ≡ 0 = omega arith in
      let same : known.client ≡ client =
      same_Some _ _ (sym known.there ∙ ap (slice_get (client ∷ [])) first) in
      let read = ap (λ (c : Client T). slice_get c.seats.items s) same in
      let seat_is : known.seat ≡ seat = same_Some _ _ (sym known.seat_is ∙ read ∙ sits) in
      known.knows ∙ ap past_of seat_is

  pub closed_alone : ShowsWorld (fits_seeded fits) (tag_at cache s) cache.geometry
      (words_of left.table) (view_of seat) (world_at shard.table seat.seat)
  closed_alone =
      let viewed : view_by (slice_get client.seats.items s) ≡ view_of seat = ap view_by sits in
      subst (λ h. ShowsWorld (fits_seeded fits) (tag_at cache s) cache.geometry
      (words_of left.table) (view_of seat) (world_of (plan_of shard) h)) known_is
      (subst (λ v. ShowsWorld (fits_seeded fits) (tag_at cache s) cache.geometry
      (words_of left.table) v (world_of (plan_of shard) leaves.history)) viewed leaves.shows)

module _ {T : Type 0} (fits : T → Key → List ℕ → Type 0) (tag : T) (room : ℕ) (words : List ℕ)
    (v : View T) (s : ℕ) where
  -- a slot's word is visible where the slot shows an entry
  slot_shown : (slot : Slot) → TellsSlot fits tag room words v s slot
      → is_visible (meta_at room words s) ≡ is_some (entry_shown slot)
  slot_shown (slots.Empty strays) told = by (is_visible (meta_at room words s)) refl
    where
      by : (b : Bool) → is_visible (meta_at room words s) ≡ b
          → is_visible (meta_at room words s) ≡ false
      by true shown = let bad : true ≡ false = sym (entry_if_visible _ shown) ∙ told.none in cc
      by false hidden = hidden
  slot_shown (slots.Building client strays) told = absurd told
  slot_shown (slots.Shareable e) told = told.shown ∙ by e.shown
    where
      by : (b : Bool) → b ≡ is_some (if b then Some e.entry else None)
      by true = refl
      by false = refl

-- So each slot's word is visible where the world shows an entry there.
pub shown_alone : {T : Type 0} (fits : T → Key → List ℕ → Type 0) (tag : T) (geometry : Geometry)
    (words : List ℕ) (v : View T) (world : State) → ShowsWorld fits tag geometry words v world
    → (slot : ℕ) → slot < geometry.slots
    → is_visible (meta_at geometry.room words slot) ≡ is_some (shown_at world slot)
shown_alone fits tag geometry words v world shows slot low =
    let size = shows.size in
    let one = there world.slots slot (omega arith) in
    slot_shown fits tag geometry.room words v slot one.0 (shows.told slot one.0 one.1)
    ∙ ap (λ o. is_some (option_and_then entry_shown o)) (sym one.1)

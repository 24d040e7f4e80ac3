-- A cache that begins with what is visible in a closed one, and is closed before any call, has the
-- same.
use Rattle.std.proofs.Common.{◌≡◌, ℕ, ◌+◌, ◌<◌, ◌≤◌, ◌==◌, cond, Bool, true, false, List, [], ◌∷◌, Option, Some, None, map, min, replicate, slice_get, subst, sym, refl, ap, ◌∙◌, arith}
use Rattle.std.proofs.lemmas.List.{length-replicate}
use Rattle.std.specs.List.{filter, range_with_len}
use Rattle.std.specs.declared.alloc.Global.{Global}
use Rattle.hcc_word.specs.Word.{is_visible, releases_of}
use Rattle.hcc_core.specs.declared.limits.TheConstants.{MOST_USES}
use Rattle.hcc_core.specs.declared.slot.Resident.{Resident}
use Rattle.hcc_core.specs.declared.slot.Slot.{Slot}
use Rattle.hcc_core.specs.declared.slot.Slot.TheVariants as slots
use Rattle.hcc_core.specs.Opening.{new_slot}
use Rattle.hcc_core.specs.Sums.{total, when}
use Rattle.hcc_core.specs.World.{State}
use Rattle.hcc_core.proofs.ListLemmas.{replicate_is}
use Rattle.hcc_core.proofs.SumLemmas.{total-zero, total-nothing}
use Rattle.hcc_rule.specs.declared.geometry.Geometry.{Geometry}
use Rattle.hcc_rule.specs.declared.image.ImageEntry.{ImageEntry}
use Rattle.hcc_rule.specs.declared.key.Key.{Key}
use Rattle.hcc_rule.specs.declared.layout.TheConstants.{CHARGE, KEY0, KEY1}
use Rattle.hcc_rule.specs.declared.view.View.{View}
use Rattle.hcc_rule.specs.Closing.{data_at, key_at, meta_at, words_of}
use Rattle.hcc_rule.specs.Ending.{ShowsWorld, TellsSlot}
use Rattle.hcc_rule.specs.ImageLimits.{AreRising}
use Rattle.hcc_rule.specs.Acts.{world_of}
use Rattle.hcc_rule.specs.Images.{entries_in, slots_with}
use Rattle.hcc_rule.specs.Views.{Each}
use Rattle.hcc_rule.proofs.Basics.Lists.{each_map, there, within}
use Rattle.hcc_rule.specs.Words.{key_of}
use Rattle.hcc_rule.proofs.Images.Fillings.{filled_total}
use Rattle.hcc_rule.proofs.LastSeat.ClosingSums.{one_at, total_both, total_range}
use Rattle.hcc_shard.specs.declared.entries.ClosedShard.{ClosedShard}
use Rattle.hcc_shard.specs.Callers.{plan_of}
use Rattle.hcc_shard.specs.Imaged.{is_shown}
use Rattle.hcc_shard.specs.Left.{value_at}
use Rattle.hcc_shard.proofs.Imagings.{entry_if_visible}
use Rattle.hcc_shard.proofs.Values.{value_kept}
use Rattle.hcc_cache.specs.declared.cache.Cache.{Cache}
use Rattle.hcc_cache.specs.declared.client.Client.{Client}
use Rattle.hcc_cache.specs.declared.closed.Closed.{Closed}
use Rattle.hcc_cache.specs.declared.config.Config.{Config}
use Rattle.hcc_cache.specs.Closings.{AreBack, IsClosed, all_joined, views_at}
use Rattle.hcc_cache.specs.Ended.{LeavesWorlds}
use Rattle.hcc_cache.specs.Images.{Visible, visible_at, visible_entries, visible_from, visible_in}
use Rattle.hcc_cache.specs.Keys.{fits_seeded, key_from, tag_at}
use Rattle.hcc_cache.specs.Opened.{IsCacheOf}
use Rattle.hcc_cache.specs.Reopened.{IsReopened}
use Rattle.hcc_cache.specs.Taken.{Split, begun, home_of, sum_in}
use Rattle.hcc_cache.proofs.Images.AllComesBack.{each_placed, total_flat, whole_taken}

-- Of a slot.

-- what a visible entry is to its user
abbrev pub visible_by : (seed : ℕ) → Resident → Visible
visible_by seed r = record {
  key = key_from seed (key_of r.entry);
  value = r.entry.value;
  charge = r.entry.charge;
  uses = r.uses;
}

-- what a slot of a world gives to a sum over visible entries
abbrev pub given_by : (seed : ℕ) → (Visible → ℕ) → Slot → ℕ
given_by seed f (slots.Empty strays) = 0
given_by seed f (slots.Building client strays) = 0
given_by seed f (slots.Shareable r) = when r.shown (f (visible_by seed r))

-- what the words of a slot say of its entry
abbrev pub told_by : (seed room : ℕ) (words : List ℕ) (slot : ℕ) → Visible
told_by seed room words slot = record {
  key = key_from seed (key_at room words slot);
  value = value_at room words slot;
  charge = data_at room words slot CHARGE;
  uses = releases_of (meta_at room words slot);
}

-- what they give to such a sum
abbrev pub gives_by : (seed room : ℕ) (words : List ℕ) → (Visible → ℕ) → (slot : ℕ) → ℕ
gives_by seed room words f slot =
    when (is_visible (meta_at room words slot)) (f (told_by seed room words slot))

module _ {T : Type 0} (fits : T → Key → List ℕ → Type 0) (tag : T) (room seed : ℕ)
    (words : List ℕ) (v : View T) (f : Visible → ℕ) where
  -- a slot without an entry gives nothing
  none_given : (s : ℕ) (b : Bool) → is_visible (meta_at room words s) ≡ b
      → (is_visible (meta_at room words s) ≡ true → ⊥) → gives_by seed room words f s ≡ 0
  none_given s true is never = absurd (never is)
  none_given s false is never = rw is refl

  -- The words of a slot give what the world's slot does.
  slot_gives : (s : ℕ) (slot : Slot) → TellsSlot fits tag room words v s slot
      → given_by seed f slot ≡ gives_by seed room words f s
  slot_gives s (slots.Empty strays) told =
      sym (none_given s (is_visible (meta_at room words s)) refl
      (λ shown. let bad : true ≡ false = sym (entry_if_visible _ shown) ∙ told.none in cc))
  slot_gives s (slots.Building client strays) told = absurd told
  slot_gives s (slots.Shareable e) told =
      let first : data_at room words s KEY0 ≡ told.kept.made.key.w0 =
      told.kept.says KEY0 (omega arith) in
      let second : data_at room words s KEY1 ≡ told.kept.made.key.w1 =
      told.kept.says KEY1 (omega arith) in
      let charge : data_at room words s CHARGE ≡ told.kept.made.charge =
      told.kept.says CHARGE (omega arith) in
      let made : key_of e.entry ≡ told.kept.made.key = ap key_of told.same in
      let key : key_at room words s ≡ key_of e.entry =
      (λ j. record { w0 = first j; w1 = second j }) ∙ sym made in
      let value : value_at room words s ≡ e.entry.value =
      value_kept fits tag room words v s e.entry.stamp told.kept
      ∙ ap (λ x. x.value) (sym told.same) in
      let paid : data_at room words s CHARGE ≡ e.entry.charge =
      charge ∙ ap (λ x. x.charge) (sym told.same) in
      let uses = told.uses in
      let same : told_by seed room words s ≡ visible_by seed e =
      (λ j. record { key = key_from seed (key j); value = value j; charge = paid j; uses = uses j })
      in
      sym (ap (λ b. when b (f (told_by seed room words s))) told.shown
      ∙ ap (λ x. when e.shown (f x)) same)

-- what the members of a list give that pass a test
total_filtered : {A : Type 0} (f : A → ℕ) (of : ℕ → A) (p : ℕ → Bool) (xs : List ℕ)
    → total f (map of (filter p xs)) ≡ total (λ x. when (p x) (f (of x))) xs
total_filtered f of p [] = refl
total_filtered f of p (x ∷ xs) = by (p x) (total_filtered f of p xs)
  where
    by : (b : Bool)
        → total f (map of (filter p xs)) ≡ total (λ x. when (p x) (f (of x))) xs
        → total f (map of (cond b (x ∷ filter p xs) (filter p xs)))
        ≡ when b (f (of x)) + total (λ x. when (p x) (f (of x))) xs
    by true rest = omega arith
    by false rest = omega arith

-- What is visible in a closed shard gives what the slots of its world do.
pub shard_gives : {T : Type 0} (fits : T → Key → List ℕ → Type 0) (tag : T) (geometry : Geometry)
    (v : View T) (world : State) (seed : ℕ) (f : Visible → ℕ) (left : ClosedShard Global)
    → left.table.geometry ≡ geometry
    → ShowsWorld fits tag geometry (words_of left.table) v world
    → total f (visible_in seed (Some left)) ≡ total (given_by seed f) world.slots
shard_gives fits tag geometry v world seed f left size shows =
    let words = words_of left.table in
    total_filtered f (visible_at seed left) (is_shown left.table)
    (range_with_len 0 left.table.geometry.slots)
    ∙ (ap (λ (g : Geometry). total (gives_by seed g.room words f) (range_with_len 0 g.slots)) size
    ∙ (ap (λ n. total (gives_by seed geometry.room words f) (range_with_len 0 n)) (sym shows.size)
    ∙ sym (total_range (given_by seed f) (gives_by seed geometry.room words f) world.slots
    (λ s slot at. slot_gives fits tag geometry.room seed words v f s slot (shows.told s slot at)))))

-- The slots of a shard that begins with entries give what these do.
pub begun_gives : (seed size : ℕ) (f : Visible → ℕ) (es : List ImageEntry) → AreRising 0 size es
    → total (given_by seed f) (slots_with size es)
    ≡ total (λ (e : ImageEntry). f (visible_from seed e)) es
begun_gives seed size f es rising =
    let filled = filled_total size (given_by seed f) (λ (e : ImageEntry). f (visible_from seed e))
    0 0 es (replicate size new_slot) refl (λ m e. refl) rising (length-replicate size new_slot)
    (λ s x low at. replicate_is size s new_slot x at) in
    let empty = total-zero (given_by seed f) size new_slot refl in
    omega arith

-- Of all shards.

-- What is counted shard by shard is what is counted of all, where each entry belongs in one.
sum_homes : (c : Config) (n : ℕ) (f : Visible → ℕ) (es : List Visible)
    → Each (λ (e : Visible). home_of c e < n) es
    → total (λ s. sum_in c s f es) (range_with_len 0 n) ≡ total f es
sum_homes c n f [] low = total-nothing (λ s. 0) (range_with_len 0 n) (λ i x at. refl)
sum_homes c n f (e ∷ es) low =
    let both = total_both (λ s. when (home_of c e == s) (f e)) (λ s. sum_in c s f es)
    (range_with_len 0 n) in
    let one = one_at (home_of c e) (f e) n low.0 in
    let rest = sum_homes c n f es low.1 in
    omega arith

-- Entries with few uses are begun as they are.
total_begun : (f : Visible → ℕ) (es : List Visible)
    → Each (λ (e : Visible). e.uses ≤ MOST_USES) es
    → total (λ (e : Visible). f (begun e)) es ≡ total f es
total_begun f [] few = refl
total_begun f (e ∷ es) few =
    let low = few.0 in
    let uses : min e.uses MOST_USES ≡ e.uses = omega arith in
    let same : begun e ≡ e =
    (λ j. record { key = e.key; value = e.value; charge = e.charge; uses = uses j }) in
    let one = ap f same in
    let rest = total_begun f es few.1 in
    omega arith

module _ {T : Type 0} (fits : T → Key → List ℕ → Type 0) (config : Config) (tag : T)
    (cache next : Cache T) (clients started : List (Client T)) (closed last : Closed)
    (cache_is : IsCacheOf config tag cache) (back : AreBack cache clients)
    (is : IsClosed fits cache clients closed)
    (again : IsReopened fits config tag (visible_entries closed.seed closed.shards.items) next
    started)
    (ended : IsClosed fits next started last) (worlds : LeavesWorlds fits next started last)
  where
    abbrev entries : List Visible
    entries = visible_entries closed.seed closed.shards.items

    -- What a shard shows gives what the entries do that belong there.
    shard_has : (f : Visible → ℕ) (s : ℕ) (left : ClosedShard Global)
        → slice_get last.shards.items s ≡ Some (Some left)
        → total f (visible_in last.seed (Some left))
        ≡ sum_in config s (λ (e : Visible). f (begun e)) entries
    shard_has f s left at =
        let count = ended.count in
        let low = within last.shards.items s (Some left) at in
        let shard = there next.shards.items s (omega arith) in
        let plan = plan_of shard.0 in
        let world = worlds s shard.0 left shard.1 at in
        let known = world.known in
        let none : world.history ≡ [] =
        known.knows ∙ again.past known.index known.client known.there s known.seat known.seat_is in
        let shows =
        subst (λ h. ShowsWorld (fits_seeded fits) (tag_at next s) next.geometry
        (words_of left.table) (all_joined (views_at s started)) (world_of plan h)) none
        world.shows in
        let first = shard_gives (fits_seeded fits) (tag_at next s) next.geometry
        (all_joined (views_at s started)) (world_of plan []) last.seed f left
        (ended.size s left at) shows in
        let second = begun_gives last.seed plan.geometry.slots f (entries_in plan.image)
        (again.began s shard.0 shard.1).rising in
        let seed = ended.seed ∙ again.cache_is.seed in
        let third = ap (λ (n : ℕ). total (λ (e : ImageEntry). f (visible_from n e))
        (entries_in plan.image)) seed in
        let taken = ap (λ (x : Split). sum_in config s (λ (e : Visible). f (begun e)) x.taken)
        (whole_taken fits config tag cache clients closed cache_is back is) in
        first ∙ (second ∙ (third ∙ ((again.begins s shard.0 shard.1).counts f ∙ taken)))

    -- All that is visible gives what all entries do.
    pub same_entries : (f : Visible → ℕ)
        → total f (visible_entries last.seed last.shards.items) ≡ total f entries
    same_entries f =
        let placed = each_placed fits config tag cache clients closed cache_is back is in
        let homes = each_map (λ (e : Visible). (home_of config e < config.shards)
        × (e.uses ≤ MOST_USES)) (λ (e : Visible). home_of config e < config.shards)
        (λ e h. h.0) entries placed in
        let uses = each_map (λ (e : Visible). (home_of config e < config.shards)
        × (e.uses ≤ MOST_USES)) (λ (e : Visible). e.uses ≤ MOST_USES) (λ e h. h.1) entries
        placed in
        total_flat f (visible_in last.seed) last.shards.items
        ∙ (total_range (λ x. total f (visible_in last.seed x))
        (λ s. sum_in config s (λ (e : Visible). f (begun e)) entries) last.shards.items by_shard
        ∙ (ap (λ n. total (λ s. sum_in config s (λ (e : Visible). f (begun e)) entries)
        (range_with_len 0 n)) (ended.count ∙ again.cache_is.count)
        ∙ (sum_homes config config.shards (λ (e : Visible). f (begun e)) entries homes
        ∙ total_begun f entries uses)))
      where
        by_shard : (s : ℕ) (x : Option (ClosedShard Global))
            → slice_get last.shards.items s ≡ Some x → total f (visible_in last.seed x)
            ≡ sum_in config s (λ (e : Visible). f (begun e)) entries
        by_shard s None at = absurd (last.whole.there s at)
        by_shard s (Some left) at = shard_has f s left at

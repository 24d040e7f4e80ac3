-- All that is visible in a closed cache comes into another one of the same sizes.
use Rattle.std.proofs.Common.{◌≡◌, ◌≢◌, ℕ, zero, suc, ◌+◌, ◌*◌, ◌<◌, ◌≤◌, ◌==◌, nat_le, nat_lt, cond, Bool, true, false, List, [], ◌∷◌, Option, Some, None, length, map, slice_get, sym, refl, ap, ◌∙◌, arith}
use Rattle.std.proofs.lemmas.Bool.{le-leb, lt-ltb, ne_eqb}
use Rattle.std.specs.List.{filter, flat_map, range_with_len}
use Rattle.std.specs.declared.alloc.Global.{Global}
use Rattle.hcc_word.specs.Word.{releases_of}
use Rattle.hcc_core.specs.declared.limits.TheConstants.{MOST_USES}
use Rattle.hcc_core.specs.Sums.{total, when}
use Rattle.hcc_core.proofs.SumLemmas.{total-append, total-nothing}
use Rattle.hcc_rule.specs.declared.geometry.Geometry.{Geometry}
use Rattle.hcc_rule.specs.declared.key.Key.{Key}
use Rattle.hcc_rule.specs.declared.layout.TheConstants.{CHARGE, KEY0, KEY1}
use Rattle.hcc_rule.specs.declared.view.Made.{Made}
use Rattle.hcc_rule.specs.Closing.{data_at, has_entry, key_at, meta_at, over_entries, words_of}
use Rattle.hcc_rule.specs.Views.{Each}
use Rattle.hcc_rule.proofs.Basics.Lists.{there, within}
use Rattle.hcc_rule.proofs.Images.Fillings.{each_get}
use Rattle.hcc_shard.specs.declared.entries.ClosedShard.{ClosedShard}
use Rattle.hcc_shard.specs.Callers.{view_of}
use Rattle.hcc_shard.specs.Imaged.{is_shown}
use Rattle.hcc_shard.specs.Left.{value_at}
use Rattle.hcc_shard.proofs.Imagings.{entry_if_visible}
use Rattle.hcc_cache.specs.declared.cache.Cache.{Cache}
use Rattle.hcc_cache.specs.declared.client.Client.{Client}
use Rattle.hcc_cache.specs.declared.closed.Closed.{Closed}
use Rattle.hcc_cache.specs.declared.config.Config.{Config}
use Rattle.hcc_cache.specs.Clients.{view_by}
use Rattle.hcc_cache.specs.Closings.{AreBack, IsClosed}
use Rattle.hcc_cache.specs.Configs.{shard_capacity}
use Rattle.hcc_cache.specs.Images.{Visible, visible_at, visible_entries, visible_in}
use Rattle.hcc_cache.specs.Keys.{IsKeyOf, key_from}
use Rattle.hcc_cache.specs.Known.{IsHome}
use Rattle.hcc_cache.specs.Opened.{IsCacheOf}
use Rattle.hcc_cache.specs.Sharding.{key_to, shard_of}
use Rattle.hcc_cache.specs.Taken.{IsRoomyFor, home_of, is_sound, places_of, split_of, sum_in}
use Rattle.hcc_cache.proofs.Images.ShardByShard.{each_flat, each_passing}
use Rattle.hcc_cache.proofs.Beginnings.AllComeIn.{roomy_taken}

-- Of sums.

-- a chain of lists gives what its lists give
pub total_flat : {X A : Type 0} (f : A → ℕ) (g : X → List A) (xs : List X)
    → total f (flat_map g xs) ≡ total (λ x. total f (g x)) xs
total_flat f g [] = refl
total_flat f g (x ∷ xs) =
    let both = total-append f (g x) (flat_map g xs) in
    let rest = total_flat f g xs in
    omega arith

-- where one member alone gives something, no more than that one gives
total_one : {X : Type 0} (f : X → ℕ) (xs : List X) (k most : ℕ)
    → ((j : ℕ) (x : X) → slice_get xs j ≡ Some x → j ≢ k → f x ≡ 0)
    → ((x : X) → slice_get xs k ≡ Some x → f x ≤ most) → total f xs ≤ most
total_one f [] k most none few = omega arith
total_one f (x ∷ xs) zero most none few =
    let first = few x refl in
    let rest = total-nothing f xs (λ j y at. none (suc j) y at (λ same. cc)) in
    omega arith
total_one f (x ∷ xs) (suc k) most none few =
    let first = none 0 x refl (λ same. cc) in
    let rest = total_one f xs k most (λ j y at other. none (suc j) y at (λ same. other cc))
    (λ y at. few y at) in
    omega arith

-- What the numbers of a range give that pass a test is no more than these bounds in sum.
total_passing : {A : Type 0} (f : A → ℕ) (of : ℕ → A) (p : ℕ → Bool) (most : ℕ → ℕ)
    (from n : ℕ) → ((s : ℕ) → s < from + n → p s ≡ true → f (of s) ≤ most s)
    → total f (map of (filter p (range_with_len from n))) ≤ total most (range_with_len from n)
total_passing f of p most from zero few = omega arith
total_passing f of p most from (suc n) few = by (p from) refl
    (total_passing f of p most (from + 1) n (λ s low. few s (omega arith)))
  where
    by : (b : Bool) → p from ≡ b
        → total f (map of (filter p (range_with_len (from + 1) n)))
        ≤ total most (range_with_len (from + 1) n)
        → total f (map of (cond b (from ∷ filter p (range_with_len (from + 1) n))
        (filter p (range_with_len (from + 1) n))))
        ≤ most from + total most (range_with_len (from + 1) n)
    by true is rest = let first = few from (omega arith) is in omega arith
    by false is rest = omega arith

when_less : (b : Bool) (n : ℕ) → when b n ≤ n
when_less true n = omega arith
when_less false n = omega arith

-- Of a closed cache.

module _ {T : Type 0} (fits : T → Key → List ℕ → Type 0) (config : Config) (tag : T)
    (cache : Cache T) (clients : List (Client T)) (closed : Closed)
    (cache_is : IsCacheOf config tag cache) (back : AreBack cache clients)
    (is : IsClosed fits cache clients closed) where
  abbrev entries : List Visible
  entries = visible_entries closed.seed closed.shards.items

  -- Of a visible slot.
  module _ (s : ℕ) (left : ClosedShard Global)
      (here : slice_get closed.shards.items s ≡ Some (Some left)) (slot : ℕ)
      (low : slot < left.table.geometry.slots) (shown : is_shown left.table slot ≡ true) where
    abbrev told : Visible
    told = visible_at closed.seed left slot

    inside : slot < cache.geometry.slots
    inside = let size = is.size s left here in rw (← size) low

    has : has_entry cache.geometry.room (words_of left.table) slot ≡ true
    has = let size = is.size s left here in entry_if_visible _ (rw size at shown)

    -- What its client made under the stamp.
    pub record IsTold : Type 0 where
      pub made : Made
      pub key : key_at left.table.geometry.room (words_of left.table) slot ≡ made.key
      pub charge : told.charge ≡ made.charge
      pub value : told.value ≡ made.value
      pub paid : 0 < made.charge
      pub short : length made.value ≤ 8 * cache.geometry.room
      pub few : told.uses ≤ MOST_USES
      pub home : IsKeyOf cache.seed (length cache.shards.items) s made.key

    told_is : IsTold
    told_is =
        let room = ap (λ (g : Geometry). g.room) (is.size s left here) in
        let kept = (is.closes s left here).kept slot inside has in
        let stamp = (is.closes s left here).stamp_at slot in
        let first : data_at cache.geometry.room (words_of left.table) slot KEY0
        ≡ kept.made.key.w0 = kept.says KEY0 (omega arith) in
        let second : data_at cache.geometry.room (words_of left.table) slot KEY1
        ≡ kept.made.key.w1 = kept.says KEY1 (omega arith) in
        let charge : data_at cache.geometry.room (words_of left.table) slot CHARGE
        ≡ kept.made.charge = kept.says CHARGE (omega arith) in
        let shards = is.count in
        let low = within closed.shards.items s (Some left) here in
        let by = is.members s stamp kept.made (omega arith) kept.listed in
        let knows = back.known by.index by.client by.there in
        let seats = knows.seated.count in
        let seat = there by.client.seats.items s (omega arith) in
        let listed = ap (λ v. slice_get v.made stamp.number) (sym (ap view_by seat.1))
        ∙ by.listed in
        let home = each_get (IsHome cache.seed (length by.client.seats.items) s)
        (view_of seat.0).made stamp.number kept.made (knows.homes s seat.0 seat.1) listed in
        record {
          made = kept.made;
          key = ap (λ (r : ℕ). key_at r (words_of left.table) slot) room
              ∙ (λ j. record { w0 = first j; w1 = second j });
          charge = ap (λ (r : ℕ). data_at r (words_of left.table) slot CHARGE) room ∙ charge;
          value =
              ap (λ (r : ℕ). value_at r (words_of left.table) slot) room
              ∙ is.values s left here slot stamp kept;
          paid = kept.right.paid;
          short = kept.right.short;
          few =
              let uses = (is.closes s left here).uses slot inside has in
              let same = ap (λ (r : ℕ). releases_of (meta_at r (words_of left.table) slot)) room in
              omega arith;
          home = rw (← seats) home;
        }

    -- It belongs in the shard where it was.
    belongs : home_of config told ≡ s
    belongs =
        let t = told_is in
        let key : key_to config.seed told.key ≡ t.made.key =
        ap (λ k. key_to config.seed (key_from closed.seed k)) t.key
        ∙ (ap (λ (n : ℕ). key_to config.seed (key_from n t.made.key)) is.seed
        ∙ (ap (λ (n : ℕ). key_to n (key_from cache.seed t.made.key)) (sym cache_is.seed)
        ∙ t.home.0)) in
        ap (λ k. shard_of k config.shards) key
        ∙ (ap (shard_of t.made.key) (sym cache_is.count) ∙ t.home.1)

    -- It has a charge, and a slot has room for its value.
    sound : is_sound config told ≡ true
    sound =
        let t = told_is in
        let charge = t.charge in
        let paid = t.paid in
        let long = ap length t.value in
        let short = t.short in
        let room = ap (λ (g : Geometry). g.room) cache_is.geometry in
        let some : nat_lt 0 told.charge ≡ true = lt-ltb 0 told.charge (omega arith) in
        let fits : nat_le (length told.value) (8 * config.room) ≡ true =
        le-leb (length told.value) (8 * config.room) (omega arith) in
        rw (some, fits) refl

  -- Whatever is counted, a shard's own entries alone count for it.
  counted : (shard : ℕ) (f : Visible → ℕ) (most : ℕ)
      → ((left : ClosedShard Global) → slice_get closed.shards.items shard ≡ Some (Some left)
      → over_entries left.table.geometry.room (words_of left.table) left.table.geometry.slots
      (λ slot. f (visible_at closed.seed left slot)) ≤ most)
      → sum_in config shard f entries ≤ most
  counted shard f most own =
      let flat = total_flat one (visible_in closed.seed) closed.shards.items in
      let few = total_one (λ x. total one (visible_in closed.seed x)) closed.shards.items shard
      most others here in
      omega arith
    where
      one : Visible → ℕ
      one e = when (home_of config e == shard) (f e)

      others : (j : ℕ) (x : Option (ClosedShard Global)) → slice_get closed.shards.items j ≡ Some x
          → j ≢ shard → total one (visible_in closed.seed x) ≡ 0
      others j None at other = refl
      others j (Some left) at other =
          let few = total_passing one (visible_at closed.seed left) (is_shown left.table) (λ s. 0)
          0 left.table.geometry.slots (λ slot low shown.
          let home = belongs j left at slot (omega arith) shown in
          let away = ne_eqb (home_of config (visible_at closed.seed left slot)) shard
          (λ same. other (sym home ∙ same)) in
          let none = ap (λ b. when b (f (visible_at closed.seed left slot))) away in
          omega arith) in
          let zero = total-nothing (λ (s : ℕ). 0) (range_with_len 0 left.table.geometry.slots)
          (λ k x at. refl) in
          omega arith

      here : (x : Option (ClosedShard Global)) → slice_get closed.shards.items shard ≡ Some x
          → total one (visible_in closed.seed x) ≤ most
      here None at = omega arith
      here (Some left) at =
          let few = total_passing one (visible_at closed.seed left) (is_shown left.table)
          (λ slot. when (has_entry left.table.geometry.room (words_of left.table) slot)
          (f (visible_at closed.seed left slot))) 0 left.table.geometry.slots
          (λ slot low shown.
          let less = when_less (home_of config (visible_at closed.seed left slot) == shard)
          (f (visible_at closed.seed left slot)) in
          let entry = ap (λ b. when b (f (visible_at closed.seed left slot)))
          (entry_if_visible _ shown) in
          omega arith) in
          let sum = own left at in
          omega arith

  pub roomy_closed : IsRoomyFor config entries
  roomy_closed = record {
    sound =
        each_flat (λ (e : Visible). is_sound config e ≡ true) (visible_in closed.seed)
        closed.shards.items sound_in;
    places = λ shard. counted shard (λ e. 1) (places_of config) (λ left at.
        let size = is.size shard left at in
        let slots = ap (λ (g : Geometry). g.slots) cache_is.geometry in
        rw (size, ← slots) (is.closes shard left at).places);
    charges = λ strict shard. counted shard (λ e. e.charge) (shard_capacity config) (λ left at.
        let size = is.size shard left at in
        rw (size, ← cache_is.capacity) (is.within shard left at (cache_is.strict ∙ strict)));
  }
    where
      sound_in : (s : ℕ) (x : Option (ClosedShard Global))
          → slice_get closed.shards.items s ≡ Some x
          → Each (λ (e : Visible). is_sound config e ≡ true) (visible_in closed.seed x)
      sound_in s None at = tt
      sound_in s (Some left) at =
          each_passing (λ (e : Visible). is_sound config e ≡ true) (visible_at closed.seed left)
          (is_shown left.table) 0 left.table.geometry.slots
          (λ slot low shown. sound s left at slot (omega arith) shown)

  pub whole_taken : split_of config entries ≡ record { taken = entries; left = [] }
  whole_taken = roomy_taken config entries roomy_closed

  -- Each belongs in one of the shards, and has no more uses than an entry may begin with.
  pub each_placed : Each (λ (e : Visible). (home_of config e < config.shards)
      × (e.uses ≤ MOST_USES)) entries
  each_placed =
      each_flat (λ (e : Visible). (home_of config e < config.shards) × (e.uses ≤ MOST_USES))
      (visible_in closed.seed) closed.shards.items placed_in
    where
      placed_in : (s : ℕ) (x : Option (ClosedShard Global))
          → slice_get closed.shards.items s ≡ Some x
          → Each (λ (e : Visible). (home_of config e < config.shards) × (e.uses ≤ MOST_USES))
          (visible_in closed.seed x)
      placed_in s None at = tt
      placed_in s (Some left) at =
          each_passing
          (λ (e : Visible). (home_of config e < config.shards) × (e.uses ≤ MOST_USES))
          (visible_at closed.seed left) (is_shown left.table) 0 left.table.geometry.slots
          (λ slot low shown.
          let home = belongs s left at slot (omega arith) shown in
          let inside = within closed.shards.items s (Some left) at in
          let count = is.count in
          let shards = cache_is.count in
          (omega arith, (told_is s left at slot (omega arith) shown).few))

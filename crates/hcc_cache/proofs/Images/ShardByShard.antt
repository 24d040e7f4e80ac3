-- The image of a closed cache, shard by shard.
use Rattle.std.proofs.Common.{◌≡◌, ℕ, zero, suc, ◌+◌, ◌<◌, cond, Bool, true, false, List, [], ◌∷◌, ◌++◌, Option, Some, None, map, take, slice_get, sym, refl, ap, ◌∙◌, add-one, append_assoc, arith}
use Rattle.std.proofs.lemmas.List.{map-append}
use Rattle.std.specs.List.{filter, flat_map, range_with_len}
use Rattle.std.specs.declared.alloc.Global.{Global}
use Rattle.hcc_rule.specs.declared.image.ImageEntry.{ImageEntry}
use Rattle.hcc_rule.specs.declared.key.Key.{Key}
use Rattle.hcc_rule.specs.declared.layout.TheConstants.{KEY0, KEY1}
use Rattle.hcc_rule.specs.Closing.{data_at, has_entry, words_of}
use Rattle.hcc_rule.specs.Views.{Each}
use Rattle.hcc_rule.proofs.Basics.Lists.{each_append}
use Rattle.hcc_shard.specs.declared.entries.ClosedShard.{ClosedShard}
use Rattle.hcc_shard.specs.Imaged.{AreShown, IsOfWords, is_shown}
use Rattle.hcc_shard.proofs.Imagings.{entry_if_visible}
use Rattle.hcc_cache.specs.declared.cache.Cache.{Cache}
use Rattle.hcc_cache.specs.declared.client.Client.{Client}
use Rattle.hcc_cache.specs.declared.closed.Closed.{Closed}
use Rattle.hcc_cache.specs.declared.image.Saved.{Saved}
use Rattle.hcc_cache.specs.Closings.{IsClosed}
use Rattle.hcc_cache.specs.Images.{AreRight, Visible, visible_at, visible_entries, visible_from, visible_in, visible_of}
use Rattle.hcc_cache.proofs.Basics.Lists.{take_snoc}

-- Of a shard's entries some were saved behind what was there, and the rest is to come.
abbrev pub IsSaving : (seed : ℕ) (old : List Saved) (all : List ImageEntry) (now : List Saved)
    (rest : List ImageEntry) → Type 0
IsSaving seed old all now rest =
    map visible_of now ++ map (visible_from seed) rest
    ≡ map visible_of old ++ map (visible_from seed) all

-- One more was saved.
pub saving_more : (seed : ℕ) (old : List Saved) (all : List ImageEntry) (now : List Saved)
    (e : ImageEntry) (rest : List ImageEntry) (s : Saved) → IsSaving seed old all now (e ∷ rest)
    → visible_of s ≡ visible_from seed e → IsSaving seed old all (now ++ s ∷ []) rest
saving_more seed old all now e rest s before same =
    ap (λ vs. vs ++ map (visible_from seed) rest) (map-append visible_of now (s ∷ []))
    ∙ (append_assoc (map visible_of now) (visible_of s ∷ []) (map (visible_from seed) rest)
    ∙ (ap (λ v. map visible_of now ++ v ∷ map (visible_from seed) rest) same ∙ before))

module _ (seed : ℕ) (left : ClosedShard Global) where
  -- what is told of entries is what the words of their slots say
  each_visible : (es : List ImageEntry) → Each (IsOfWords left.table) es
      → map (visible_from seed) es
      ≡ map (visible_at seed left) (map (λ (e : ImageEntry). e.slot) es)
  each_visible [] of = refl
  each_visible (e ∷ es) of =
      let key = of.0.key in
      let value = of.0.value in
      let charge = of.0.charge in
      let uses = of.0.uses in
      let first : visible_from seed e ≡ visible_at seed left e.slot =
      rw (key, value, charge, uses) refl in
      let rest = each_visible es of.1 in
      cc

  -- The image of a shard is what it shows.
  pub shown_visible : (es : List ImageEntry) → AreShown left.table left.table.geometry.slots es
      → map (visible_from seed) es ≡ visible_in seed (Some left)
  shown_visible es shown =
      each_visible es shown.each ∙ ap (map (visible_at seed left)) shown.slots

flat_map_append : {X A : Type 0} (f : X → List A) (xs : List X) (x : X)
    → flat_map f (xs ++ x ∷ []) ≡ flat_map f xs ++ f x
flat_map_append f [] x = none (f x)
  where
    none : {A : Type 0} (ys : List A) → ys ++ [] ≡ ys
    none [] = refl
    none (y ∷ ys) = ap (λ zs. y ∷ zs) (none ys)
flat_map_append f (y ∷ ys) x =
    ap (λ zs. f y ++ zs) (flat_map_append f ys x) ∙ sym (append_assoc (f y) (flat_map f ys) (f x))

-- One more shard is told.
pub visible_more : (seed : ℕ) (shards : List (Option (ClosedShard Global))) (k : ℕ)
    (left : ClosedShard Global) → slice_get shards k ≡ Some (Some left)
    → visible_entries seed (take (k + 1) shards)
    ≡ visible_entries seed (take k shards) ++ visible_in seed (Some left)
visible_more seed shards k left here =
    let step : take (k + 1) shards ≡ take k shards ++ Some left ∷ [] =
    rw add-one (take_snoc shards k (Some left) here) in
    ap (flat_map (visible_in seed)) step
    ∙ flat_map_append (visible_in seed) (take k shards) (Some left)

-- What each of a chain of lists has, the chain has.
pub each_flat : {X A : Type 0} (P : A → Type 0) (f : X → List A) (xs : List X)
    → ((k : ℕ) (x : X) → slice_get xs k ≡ Some x → Each P (f x)) → Each P (flat_map f xs)
each_flat P f [] h = tt
each_flat P f (x ∷ xs) h =
    each_append P (f x) (flat_map f xs) (h 0 x refl) (each_flat P f xs (λ k y e. h (suc k) y e))

-- What each number of a range has that passes a test, those that pass it have.
pub each_passing : {A : Type 0} (P : A → Type 0) (f : ℕ → A) (p : ℕ → Bool) (from n : ℕ)
    → ((s : ℕ) → s < from + n → p s ≡ true → P (f s))
    → Each P (map f (filter p (range_with_len from n)))
each_passing P f p from zero h = tt
each_passing P f p from (suc n) h = by (p from) refl (each_passing P f p (from + 1) n
    (λ s low. h s (omega arith)))
  where
    by : (b : Bool) → p from ≡ b → Each P (map f (filter p (range_with_len (from + 1) n)))
        → Each P (map f (cond b (from ∷ filter p (range_with_len (from + 1) n))
        (filter p (range_with_len (from + 1) n))))
    by true is rest = (h from (omega arith) is, rest)
    by false is rest = rest

module _ {T : Type 0} (fits : T → Key → List ℕ → Type 0) (cache : Cache T)
    (clients : List (Client T)) (closed : Closed) (is : IsClosed fits cache clients closed) where
  -- What a visible slot says is right, as its maker's value was.
  slot_right : (s : ℕ) (left : ClosedShard Global)
      → slice_get closed.shards.items s ≡ Some (Some left) → (slot : ℕ)
      → slot < left.table.geometry.slots → is_shown left.table slot ≡ true
      → fits cache.tag (visible_at closed.seed left slot).key
      (visible_at closed.seed left slot).value
  slot_right s left here slot low shown =
      let size = is.size s left here in
      let closes = is.closes s left here in
      let inside : slot < cache.geometry.slots = rw (← size) low in
      let has : has_entry cache.geometry.room (words_of left.table) slot ≡ true =
      entry_if_visible _ (rw size at shown) in
      let kept = closes.kept slot inside has in
      let first : data_at cache.geometry.room (words_of left.table) slot KEY0
      ≡ kept.made.key.w0 = kept.says KEY0 (omega arith) in
      let second : data_at cache.geometry.room (words_of left.table) slot KEY1
      ≡ kept.made.key.w1 = kept.says KEY1 (omega arith) in
      let value = is.values s left here slot (closes.stamp_at slot) kept in
      rw (size, first, second, value, is.seed) kept.right.fitting.right

  -- So is all that is visible.
  pub visible_right : AreRight fits cache.tag (visible_entries closed.seed closed.shards.items)
  visible_right =
      each_flat (λ (e : Visible). fits cache.tag e.key e.value) (visible_in closed.seed)
      closed.shards.items one
    where
      one : (s : ℕ) (x : Option (ClosedShard Global)) → slice_get closed.shards.items s ≡ Some x
          → AreRight fits cache.tag (visible_in closed.seed x)
      one s None h = tt
      one s (Some left) h =
          each_passing (λ (e : Visible). fits cache.tag e.key e.value)
          (visible_at closed.seed left) (is_shown left.table) 0 left.table.geometry.slots
          (λ slot low shown. slot_right s left h slot (omega arith) shown)

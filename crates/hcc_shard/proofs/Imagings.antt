-- The image of a closed shard, slot by slot.
use Rattle.std.proofs.Common.{◌≡◌, ℕ, zero, suc, ◌+◌, ◌*◌, ◌/◌, ◌<◌, ◌≤◌, ◌++◌, ◌&&◌, cond, nat_le, nat_lt, Bool, true, false, List, map, [], Some, None, ◌∷◌, length, refl, sym, subst, ap, ◌∙◌, arith}
use Rattle.std.proofs.lemmas.Bool.{eqb-true, le-leb, le-ltb, leb-true, ne_eqb}
use Rattle.std.proofs.lemmas.List.{map-append}
use Rattle.std.proofs.lemmas.List.Elements.{filter-append}
use Rattle.std.proofs.lemmas.List.Folds.{list_any-append}
use Rattle.std.specs.List.{filter, list_any, range_with_len}
use Rattle.hcc_word.specs.declared.layout.TheConstants.{INVISIBLE, VISIBLE}
use Rattle.hcc_word.specs.Word.{is_shareable, is_visible, state_of}
use Rattle.hcc_core.specs.declared.limits.TheConstants.{MOST_USES, OCCUPANCY_PERCENT}
use Rattle.hcc_core.specs.Sums.{when}
use Rattle.hcc_core.proofs.SumLemmas.{total-append}
use Rattle.hcc_rule.specs.declared.closed.ClosedTable.{ClosedTable}
use Rattle.hcc_rule.specs.declared.image.ImageEntry.{ImageEntry}
use Rattle.hcc_rule.specs.declared.key.Key.{Key}
use Rattle.hcc_rule.specs.declared.layout.TheConstants.{CHARGE, KEY0, KEY1}
use Rattle.hcc_rule.specs.declared.view.View.{View}
use Rattle.hcc_rule.specs.Closing.{Closes, IsKept, IsWithin, data_at, has_entry, over_entries, words_of}
use Rattle.hcc_rule.specs.ImageLimits.{charges_of}
use Rattle.hcc_rule.specs.Views.{Each}
use Rattle.hcc_shard.specs.Imaged.{AreShown, GivesFitting, IsOfWords, ShownAt, is_shown}
use Rattle.hcc_shard.specs.Left.{AreLeft}
use Rattle.hcc_shard.specs.Reopened.{AreFitting, is_free, is_long, is_rising, is_worn, refusal_of}
use Rattle.hcc_shard.proofs.Lefts.{total_more}
use Rattle.hcc_shard.proofs.Names.{each_more, length_more}
use Rattle.hcc_shard.proofs.Reopenings.{both}
use Rattle.hcc_shard.proofs.Values.{value_kept, value_length}

-- a range of one number more
range_more : (a n : ℕ) → range_with_len a (n + 1) ≡ range_with_len a n ++ (a + n) ∷ []
range_more a zero = ap (λ m. m ∷ []) (let same : a ≡ a + 0 = omega arith in same)
range_more a (suc n) =
    let past : suc n + 1 ≡ suc (n + 1) = omega arith in
    rw past (ap (λ ms. a ∷ ms) (range_more (a + 1) n
    ∙ ap (λ m. range_with_len (a + 1) n ++ m ∷ [])
    (let same : a + 1 + n ≡ a + suc n = omega arith in same)))

-- A visible entry is one.
pub entry_if_visible : (word : ℕ) → is_visible word ≡ true → is_shareable word ≡ true
entry_if_visible word seen =
    let is : state_of word ≡ VISIBLE = eqb-true (state_of word) VISIBLE seen in
    le-leb INVISIBLE (state_of word) (omega arith)

-- Slots that rise from one on rise from any below.
rising_below : (low high size : ℕ) (es : List ImageEntry) → low ≤ high
    → is_rising high size es ≡ true → is_rising low size es ≡ true
rising_below low high size [] below h = refl
rising_below low high size (e ∷ es) below h =
    let all = both (nat_le high e.slot && nat_lt e.slot size) (is_rising (e.slot + 1) size es) h in
    let here = both (nat_le high e.slot) (nat_lt e.slot size) all.0 in
    let from : high ≤ e.slot = leb-true high e.slot here.0 in
    let above : nat_le low e.slot ≡ true = le-leb low e.slot (omega arith) in
    rw (above, here.1, all.1) refl

-- Those that are taken from a range rise.
pub rising_in_range : (p : ℕ → Bool) (a n size : ℕ) (es : List ImageEntry) → a + n ≤ size
    → map (λ (e : ImageEntry). e.slot) es ≡ filter p (range_with_len a n)
    → is_rising a size es ≡ true
rising_in_range p a zero size [] within same = refl
rising_in_range p a zero size (e ∷ es) within same = cc
rising_in_range p a (suc n) size es within same =
    by (p a) (λ fs others. rising_in_range p (a + 1) n size fs (omega arith) others) es same
  where
    by : (b : Bool)
        → ((fs : List ImageEntry)
        → map (λ (f : ImageEntry). f.slot) fs ≡ filter p (range_with_len (a + 1) n)
        → is_rising (a + 1) size fs ≡ true)
        → (fs : List ImageEntry)
        → map (λ (f : ImageEntry). f.slot) fs
        ≡ cond b (a ∷ filter p (range_with_len (a + 1) n)) (filter p (range_with_len (a + 1) n))
        → is_rising a size fs ≡ true
    by false rest fs same = rising_below a (a + 1) size fs (omega arith) (rest fs same)
    by true rest [] same = cc
    by true rest (f ∷ fs) same =
        let first : f.slot ≡ a = cc in
        let others : map (λ (e : ImageEntry). e.slot) fs ≡ filter p (range_with_len (a + 1) n) =
        cc in
        let after = rest fs others in
        let from : nat_le a a ≡ true = le-leb a a (omega arith) in
        let inside : nat_lt a size ≡ true = le-leb (suc a) size (omega arith) in
        rw (first, from, inside, after) refl

-- Those that are taken from a range are of it, and meet the test.
each_in_range : (p : ℕ → Bool) (a n size : ℕ) (es : List ImageEntry) → a + n ≤ size
    → map (λ (e : ImageEntry). e.slot) es ≡ filter p (range_with_len a n)
    → Each (λ (e : ImageEntry). (p e.slot ≡ true) × (e.slot < size)) es
each_in_range p a zero size [] within same = tt
each_in_range p a zero size (e ∷ es) within same = cc
each_in_range p a (suc n) size es within same =
    by (p a) refl (λ fs others. each_in_range p (a + 1) n size fs (omega arith) others) es same
  where
    AreOfRange : List ImageEntry → Type 0
    AreOfRange = Each (λ (e : ImageEntry). (p e.slot ≡ true) × (e.slot < size))

    by : (b : Bool) → p a ≡ b
        → ((fs : List ImageEntry)
        → map (λ (f : ImageEntry). f.slot) fs ≡ filter p (range_with_len (a + 1) n)
        → AreOfRange fs)
        → (fs : List ImageEntry)
        → map (λ (f : ImageEntry). f.slot) fs
        ≡ cond b (a ∷ filter p (range_with_len (a + 1) n)) (filter p (range_with_len (a + 1) n))
        → AreOfRange fs
    by false is rest fs same = rest fs same
    by true is rest [] same = cc
    by true is rest (f ∷ fs) same =
        let first : f.slot ≡ a = cc in
        let others : map (λ (e : ImageEntry). e.slot) fs ≡ filter p (range_with_len (a + 1) n) =
        cc in
        ((rw first is, omega arith), rest fs others)

-- One member more that doesn't meet a test is one list more that none of meets it.
any_more : (p : ImageEntry → Bool) (es : List ImageEntry) (e : ImageEntry)
    → list_any p es ≡ false → p e ≡ false → list_any p (es ++ e ∷ []) ≡ false
any_more p es e before here = list_any-append p es (e ∷ []) ∙ rw (before, here) refl

-- Charges that are within a capacity, where it is strict, aren't too large.
not_large : (strict : Bool) (capacity sum : ℕ) → (strict ≡ true → sum ≤ capacity)
    → (strict && nat_lt capacity sum) ≡ false
not_large false capacity sum within = refl
not_large true capacity sum within = le-ltb capacity sum (within refl)

module _ {A : Type 0} (table : ClosedTable A) where
  -- what is left
  abbrev IsLeft : Type 0
  IsLeft = AreLeft table.geometry.slots table.geometry.room (words_of table)

  -- the sum of what the entries of the first slots give
  abbrev sum_to : (size : ℕ) → (ℕ → ℕ) → ℕ
  sum_to = over_entries table.geometry.room (words_of table)

  abbrev charge_at : ℕ → ℕ
  charge_at s = data_at table.geometry.room (words_of table) s CHARGE

  -- The visible entries of the first slots: each may begin in a shard, and they are no more, nor
  -- is their charge, than all entries there.
  pub record IsImaging (size : ℕ) (es : List ImageEntry) : Type 0 where
    pub shown : AreShown table size es
    pub short : list_any (is_long table.geometry.room) es ≡ false
    pub fresh : list_any is_worn es ≡ false
    pub paid : list_any is_free es ≡ false
    pub few : length es ≤ sum_to size (λ s. 1)
    pub small : charges_of es ≤ sum_to size charge_at

  -- At first there are none.
  pub image_none : IsImaging 0 []
  image_none = record {
    shown = record { slots = refl; each = tt };
    short = refl;
    fresh = refl;
    paid = refl;
    few = omega arith;
    small = omega arith;
  }

  -- what one slot more gives
  filter_more : (size : ℕ) (b : Bool) → is_shown table size ≡ b
      → filter (is_shown table) (range_with_len 0 (size + 1))
      ≡ filter (is_shown table) (range_with_len 0 size) ++ cond b (size ∷ []) []
  filter_more size b is =
      ap (filter (is_shown table)) (range_more 0 size)
      ∙ (filter-append (is_shown table) (range_with_len 0 size) ((0 + size) ∷ [])
      ∙ ap (λ ms. filter (is_shown table) (range_with_len 0 size) ++ ms) last)
    where
      last : filter (is_shown table) ((0 + size) ∷ []) ≡ cond b (size ∷ []) []
      last = let same : 0 + size ≡ size = omega arith in rw (same, is) refl

  sum_more : (size : ℕ) (f : ℕ → ℕ) → sum_to (size + 1) f
      ≡ sum_to size f + when (has_entry table.geometry.room (words_of table) size) (f size)
  sum_more size f =
      total_more (λ s. when (has_entry table.geometry.room (words_of table) s) (f s)) size

  -- Then comes a slot that shows none,
  pub image_past : (size : ℕ) (es : List ImageEntry) → IsImaging size es
      → ShownAt table size None → IsImaging (size + 1) es
  image_past size es i none = record {
    shown = record {
      slots = i.shown.slots ∙ sym (filter_more size false none ∙ append_none _);
      each = i.shown.each;
    };
    short = i.short;
    fresh = i.fresh;
    paid = i.paid;
    few =
        let more = sum_more size (λ s. 1) in
        let before = i.few in
        omega arith;
    small =
        let more = sum_more size charge_at in
        let before = i.small in
        omega arith;
  }
    where
      append_none : (xs : List ℕ) → xs ++ [] ≡ xs
      append_none [] = refl
      append_none (x ∷ xs) = ap (λ ys. x ∷ ys) (append_none xs)

  -- or one that shows an entry.
  pub image_more : (size : ℕ) (es : List ImageEntry) (e : ImageEntry) → IsImaging size es
      → ShownAt table size (Some e) → IsLeft → size < table.geometry.slots
      → IsImaging (size + 1) (es ++ e ∷ [])
  image_more size es e i shows left low = record {
    shown = record {
      slots = map-append (λ (f : ImageEntry). f.slot) es (e ∷ [])
          ∙ (ap (λ ms. ms ++ e.slot ∷ []) i.shown.slots
          ∙ (ap (λ m. filter (is_shown table) (range_with_len 0 size) ++ m ∷ []) shows.1
          ∙ sym (filter_more size true shows.0)));
      each = each_more (IsOfWords table) es e i.shown.each shows.2;
    };
    short = any_more (is_long table.geometry.room) es e i.short fits;
    fresh = any_more is_worn es e i.fresh fresh;
    paid = any_more is_free es e i.paid paid;
    few =
        let more = sum_on (λ s. 1) in
        let before = i.few in
        let longer = length_more es e in
        omega arith;
    small =
        let more = sum_on charge_at in
        let before = i.small in
        let sum = total-append (λ (f : ImageEntry). f.charge) es (e ∷ []) in
        let same = charge in
        omega arith;
  }
    where
      here : has_entry table.geometry.room (words_of table) size ≡ true
      here = entry_if_visible _ shows.0

      fits : is_long table.geometry.room e ≡ false
      fits =
          let long = left.short size low here in
          let bytes = value_length table.geometry.room (words_of table) size in
          let same = ap length (rw shows.1 at shows.2.value) in
          le-ltb (8 * table.geometry.room) (length e.value.items) (omega arith)

      fresh : is_worn e ≡ false
      fresh =
          let few = left.uses size low here in
          let same = rw shows.1 at shows.2.uses in
          le-ltb MOST_USES e.uses (omega arith)

      charge : e.charge ≡ charge_at size
      charge = rw shows.1 at shows.2.charge

      paid : is_free e ≡ false
      paid = let some = left.paid size low here in ne_eqb e.charge 0 (λ none. omega (arith, charge))

      sum_on : (f : ℕ → ℕ) → sum_to (size + 1) f ≡ sum_to size f + f size
      sum_on f = sum_more size f ∙ ap (λ b. sum_to size f + when b (f size)) here

  -- A shard of its size takes those of all slots, where the charges are within its capacity.
  pub image_taken : (es : List ImageEntry) (capacity : ℕ) (strict : Bool)
      → IsImaging table.geometry.slots es → is_rising 0 table.geometry.slots es ≡ true → IsLeft
      → IsWithin table.geometry capacity strict (words_of table)
      → refusal_of table.geometry capacity strict es ≡ None
  image_taken es capacity strict i rising left within =
      rw (rising, i.short, i.fresh, i.paid, few, large) refl
    where
      few : nat_lt (table.geometry.slots * OCCUPANCY_PERCENT / 100) (length es) ≡ false
      few =
          let places = left.places in
          let all = i.few in
          le-ltb (table.geometry.slots * OCCUPANCY_PERCENT / 100) (length es) (omega arith)

      large : (strict && nat_lt capacity (charges_of es)) ≡ false
      large = not_large strict capacity (charges_of es)
          (λ is. let most = within is in let all = i.small in omega arith)

module _ {A T : Type 0} (table : ClosedTable A) (fits : T → Key → List ℕ → Type 0) (tag : T)
    (v : View T) (c : Closes fits tag table.geometry (words_of table) v) where
  -- what an entry of the image says is right, as its maker's value was
  one_fits : (e : ImageEntry) → is_shown table e.slot ≡ true → e.slot < table.geometry.slots
      → IsOfWords table e → fits tag e.key e.value.items
  one_fits e shown low of =
      subst (λ bytes. fits tag e.key bytes) (sym value)
      (subst (λ k. fits tag k kept.made.value) (sym key) kept.right.fitting)
    where
      kept : IsKept fits tag table.geometry.room (words_of table) v e.slot (c.stamp_at e.slot)
      kept = c.kept e.slot low (entry_if_visible _ shown)

      key : e.key ≡ kept.made.key
      key =
          let first : data_at table.geometry.room (words_of table) e.slot KEY0
          ≡ kept.made.key.w0 = kept.says KEY0 (omega arith) in
          let second : data_at table.geometry.room (words_of table) e.slot KEY1
          ≡ kept.made.key.w1 = kept.says KEY1 (omega arith) in
          of.key ∙ rw (first, second) refl

      value : e.value.items ≡ kept.made.value
      value = of.value ∙ value_kept fits tag table.geometry.room (words_of table) v e.slot
          (c.stamp_at e.slot) kept

  -- All entries are.
  pub image_fits : GivesFitting table fits tag
  image_fits es shown =
      all es (each_in_range (is_shown table) 0 table.geometry.slots table.geometry.slots es
      (omega arith) shown.slots) shown.each
    where
      all : (es : List ImageEntry)
          → Each (λ (e : ImageEntry).
          (is_shown table e.slot ≡ true) × (e.slot < table.geometry.slots)) es
          → Each (IsOfWords table) es → AreFitting fits tag es
      all [] slots of = tt
      all (e ∷ es) slots of =
          (one_fits e slots.0.0 slots.0.1 of.0, all es slots.1 of.1)

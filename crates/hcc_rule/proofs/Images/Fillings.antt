-- The entries of an image: what client 0 made of them, and the slots that they are put into.
use Rattle.std.proofs.Common.{◌≡◌, ℕ, zero, suc, ◌+◌, ◌<◌, ◌≤◌, ◌⊎◌, inl, inr, List, [], ◌∷◌, ◌++◌, Option, Some, None, option_and_then, length, slice_get, slice_set, replicate, sym, refl, ap, ◌∙◌, arith}
use Rattle.std.proofs.lemmas.List.{length-set}
use Rattle.hcc_core.specs.declared.slot.Slot.{Slot}
use Rattle.hcc_core.specs.declared.slot.Stamp.{Stamp}
use Rattle.hcc_core.specs.Opening.{new_slot}
use Rattle.hcc_core.specs.Sums.{total}
use Rattle.hcc_core.proofs.ListLemmas.{read_here, read_last, read_other, replicate_is}
use Rattle.hcc_core.proofs.SumLemmas.{total-set}
use Rattle.hcc_rule.specs.declared.image.ImageEntry.{ImageEntry}
use Rattle.hcc_rule.specs.declared.view.Made.{Made}
use Rattle.hcc_rule.specs.Images.{made_of_entry, made_from, resident_of, filled, slots_with}
use Rattle.hcc_rule.specs.ImageLimits.{AreRising}
use Rattle.hcc_rule.specs.Rule.{books_weigh, list_weighs, slot_weighs}
use Rattle.hcc_rule.specs.Views.{Each}
use Rattle.hcc_rule.proofs.Basics.Lists.{there, each_set}

-- what holds of each member holds of the one that is read
pub each_get : {A : Type 0} (P : A → Type 0) (xs : List A) (i : ℕ) (x : A) → Each P xs
    → slice_get xs i ≡ Some x → P x
each_get P [] i x all at = cc
each_get P (y ∷ ys) zero x all at = let same : x ≡ y = cc in rw same all.0
each_get P (y ∷ ys) (suc i) x all at = each_get P ys i x all.1 at

-- a member of a list with one more at its end is that one, or one before it
pub pushed_at : {A : Type 0} (xs : List A) (y : A) (k : ℕ) (x : A)
    → slice_get (xs ++ y ∷ []) k ≡ Some x
    → ((k ≡ length xs) × (x ≡ y)) ⊎ (slice_get xs k ≡ Some x)
pushed_at [] y zero x at = inl (refl, (cc))
pushed_at [] y (suc k) x at = cc
pushed_at (z ∷ zs) y zero x at = inr at
pushed_at (z ∷ zs) y (suc k) x at = elim (pushed_at zs y k x at) [
  | inl last ↦ inl (ap suc last.0, last.1)
  | inr there ↦ inr there
]

-- What client 0 made.

pub made_length : (n : ℕ) (es : List ImageEntry) → length (made_from n es) ≡ length es
made_length n [] = refl
made_length n (e ∷ es) = ap suc (made_length (n + 1) es)

-- the entry of a number is made under that serial
pub made_get : (n : ℕ) (es : List ImageEntry) (k : ℕ) (e : ImageEntry) → slice_get es k ≡ Some e
    → slice_get (made_from n es) k ≡ Some (made_of_entry (n + k) e)
made_get n [] k e at = cc
made_get n (x ∷ es) zero e at =
    let same : x ≡ e = cc in
    ap Some (ap (made_of_entry n) same
    ∙ ap (λ m. made_of_entry m e) (let g : n ≡ n + 0 = omega arith in g))
made_get n (x ∷ es) (suc k) e at =
    made_get (n + 1) es k e at
    ∙ ap (λ m. Some (made_of_entry m e)) (let g : n + 1 + k ≡ n + suc k = omega arith in g)

-- the entry that was made under a serial
pub record IsMadeOf (n : ℕ) (es : List ImageEntry) (k : ℕ) (made : Made) : Type 0 where
  pub entry : ImageEntry
  pub listed : slice_get es k ≡ Some entry
  pub same : made ≡ made_of_entry (n + k) entry

pub made_only : (n : ℕ) (es : List ImageEntry) (k : ℕ) (made : Made)
    → slice_get (made_from n es) k ≡ Some made → IsMadeOf n es k made
made_only n [] k made at = cc
made_only n (x ∷ es) zero made at = record {
  entry = x;
  listed = refl;
  same = let is : made ≡ made_of_entry n x = cc in
      is ∙ ap (λ m. made_of_entry m x) (let g : n ≡ n + 0 = omega arith in g);
}
made_only n (x ∷ es) (suc k) made at =
    let rest = made_only (n + 1) es k made at in
    record {
      entry = rest.entry;
      listed = rest.listed;
      same = rest.same
          ∙ ap (λ m. made_of_entry m rest.entry)
          (let g : n + 1 + k ≡ n + suc k = omega arith in g);
    }

-- Slots that rise.

pub rising_in : (low size : ℕ) (es : List ImageEntry) (i : ℕ) (e : ImageEntry)
    → AreRising low size es → slice_get es i ≡ Some e → (low ≤ e.slot) × (e.slot < size)
rising_in low size [] i e rising at = cc
rising_in low size (x ∷ es) zero e rising at =
    let same : x ≡ e = cc in
    rw (← same) (rising.0, rising.1)
rising_in low size (x ∷ es) (suc i) e rising at =
    let rest = rising_in (x.slot + 1) size es i e rising.2 at in
    let first = rising.0 in
    (omega arith, rest.1)

-- those before another one are below it
pub rising_before : (low size : ℕ) (es : List ImageEntry) (last e : ImageEntry) (i : ℕ)
    → AreRising low size (es ++ last ∷ []) → slice_get es i ≡ Some e → e.slot < last.slot
rising_before low size [] last e i rising at = cc
rising_before low size (x ∷ es) last e zero rising at =
    let same : x ≡ e = cc in
    let rest = rising_in (x.slot + 1) size (es ++ last ∷ []) (length es) last rising.2
    (read_last es last) in
    let more = rest.0 in
    rw (← same) (omega arith)
rising_before low size (x ∷ es) last e (suc i) rising at =
    rising_before (x.slot + 1) size es last e i rising.2 at

-- The slots that they are put into.

module _ (size : ℕ) where
  pub filled_length : (n : ℕ) (es : List ImageEntry) (all : List Slot)
      → length (filled size n es all) ≡ length all
  filled_length n [] all = refl
  filled_length n (e ∷ es) all =
      filled_length (n + 1) es (slice_set all e.slot (resident_of size n e))
      ∙ length-set all e.slot (resident_of size n e)

  -- what holds of each slot as it was, and of each entry in its slot, holds of all slots
  pub filled_each : (P : ℕ → Slot → Type 0) (n : ℕ) (es : List ImageEntry) (all : List Slot)
      → ((s : ℕ) (x : Slot) → slice_get all s ≡ Some x → P s x)
      → ((k : ℕ) (e : ImageEntry) → slice_get es k ≡ Some e
      → P e.slot (resident_of size (n + k) e))
      → (s : ℕ) (x : Slot) → slice_get (filled size n es all) s ≡ Some x → P s x
  filled_each P n [] all was mine s x at = was s x at
  filled_each P n (e ∷ es) all was mine s x at =
      filled_each P (n + 1) es (slice_set all e.slot (resident_of size n e))
      (each_set P all e.slot (resident_of size n e)
      (rw (let g : n ≡ n + 0 = omega arith in g) (mine 0 e refl))
      (λ j y other there. was j y there))
      (λ k f there. rw (let g : n + 1 + k ≡ n + suc k = omega arith in g) (mine (suc k) f there))
      s x at

  -- one entry more
  pub filled_push : (n : ℕ) (es : List ImageEntry) (e : ImageEntry) (all : List Slot)
      → filled size n (es ++ e ∷ []) all
      ≡ slice_set (filled size n es all) e.slot (resident_of size (n + length es) e)
  filled_push n [] e all =
      ap (λ m. slice_set all e.slot (resident_of size m e))
      (let g : n ≡ n + 0 = omega arith in g)
  filled_push n (x ∷ es) e all =
      filled_push (n + 1) es e (slice_set all x.slot (resident_of size n x))
      ∙ ap (λ m. slice_set (filled size (n + 1) es (slice_set all x.slot (resident_of size n x)))
      e.slot (resident_of size m e))
      (let g : n + 1 + length es ≡ n + suc (length es) = omega arith in g)

  -- a slot below all entries stays as it was
  filled_below : (n low : ℕ) (es : List ImageEntry) (all : List Slot) (s : ℕ)
      → AreRising low size es → s < low → slice_get (filled size n es all) s ≡ slice_get all s
  filled_below n low [] all s rising less = refl
  filled_below n low (e ∷ es) all s rising less =
      let near = rising.0 in
      filled_below (n + 1) (e.slot + 1) es (slice_set all e.slot (resident_of size n e)) s rising.2
      (omega arith)
      ∙ read_other all e.slot s (resident_of size n e) (λ same. omega arith)

  -- each entry stands in its slot
  pub filled_at : (n low : ℕ) (es : List ImageEntry) (all : List Slot) (k : ℕ) (e : ImageEntry)
      → AreRising low size es → length all ≡ size → slice_get es k ≡ Some e
      → slice_get (filled size n es all) e.slot ≡ Some (resident_of size (n + k) e)
  filled_at n low [] all k e rising wide at = cc
  filled_at n low (x ∷ es) all zero e rising wide at =
      let same : x ≡ e = cc in
      let old = there all x.slot (let near = rising.1 in omega arith) in
      let new : Slot = resident_of size n x in
      let mine : slice_get (filled size (n + 1) es (slice_set all x.slot new)) x.slot ≡ Some new =
      filled_below (n + 1) (x.slot + 1) es (slice_set all x.slot new) x.slot rising.2 (omega arith)
      ∙ read_here all x.slot old.0 new old.1 in
      rw (← same) (mine
      ∙ ap (λ m. Some (resident_of size m x)) (let g : n ≡ n + 0 = omega arith in g))
  filled_at n low (x ∷ es) all (suc k) e rising wide at =
      filled_at (n + 1) (x.slot + 1) es (slice_set all x.slot (resident_of size n x)) k e rising.2
      (length-set all x.slot (resident_of size n x) ∙ wide) at
      ∙ ap (λ m. Some (resident_of size m e)) (let g : n + 1 + k ≡ n + suc k = omega arith in g)

  -- a sum over the slots is that over the entries, where an empty slot gives nothing
  pub filled_total : (f : Slot → ℕ) (g : ImageEntry → ℕ) (n low : ℕ) (es : List ImageEntry)
      (all : List Slot)
      → f new_slot ≡ 0 → ((m : ℕ) (e : ImageEntry) → f (resident_of size m e) ≡ g e)
      → AreRising low size es → length all ≡ size
      → ((s : ℕ) (x : Slot) → low ≤ s → slice_get all s ≡ Some x → x ≡ new_slot)
      → total f (filled size n es all) ≡ total f all + total g es
  filled_total f g n low [] all none mine rising wide empty = omega arith
  filled_total f g n low (e ∷ es) all none mine rising wide empty =
      let old = there all e.slot (let near = rising.1 in omega arith) in
      let was : old.0 ≡ new_slot = empty e.slot old.0 rising.0 old.1 in
      let gave : f old.0 ≡ 0 = ap f was ∙ none in
      let new : Slot = resident_of size n e in
      let gives = mine n e in
      let change = total-set f all e.slot old.0 new old.1 in
      let low_is = rising.0 in
      let rest = filled_total f g (n + 1) (e.slot + 1) es (slice_set all e.slot new) none mine
      rising.2 (length-set all e.slot new ∙ wide)
      (λ s x more at. empty s x (omega arith)
      (sym (read_other all e.slot s new (λ same. omega arith)) ∙ at)) in
      omega arith

  -- what its slots weigh is what the list of the entries does
  pub filled_weighs : (h : Stamp → ℕ) (n low : ℕ) (es : List ImageEntry) (all : List Slot)
      → AreRising low size es → length all ≡ size
      → ((s : ℕ) (x : Slot) → low ≤ s → slice_get all s ≡ Some x → x ≡ new_slot)
      → total (slot_weighs h) (filled size n es all)
      ≡ total (slot_weighs h) all + list_weighs h 0 n (made_from n es)
  filled_weighs h n low [] all rising wide empty = omega arith
  filled_weighs h n low (e ∷ es) all rising wide empty =
      let old = there all e.slot (let near = rising.1 in omega arith) in
      let was : old.0 ≡ new_slot = empty e.slot old.0 rising.0 old.1 in
      let gave : slot_weighs h old.0 ≡ 0 = ap (slot_weighs h) was in
      let new : Slot = resident_of size n e in
      let change = total-set (slot_weighs h) all e.slot old.0 new old.1 in
      let low_is = rising.0 in
      let rest = filled_weighs h (n + 1) (e.slot + 1) es (slice_set all e.slot new)
      rising.2 (length-set all e.slot new ∙ wide)
      (λ s x more at. empty s x (omega arith)
      (sym (read_other all e.slot s new (λ same. omega arith)) ∙ at)) in
      omega arith

  -- an entry of the image stands in this slot
  pub record IsPlacedIn (es : List ImageEntry) (s : ℕ) (x : Slot) : Type 0 where
    pub number : ℕ
    pub entry : ImageEntry
    pub listed : slice_get es number ≡ Some entry
    pub here : entry.slot ≡ s
    pub same : x ≡ resident_of size number entry

  -- each slot is empty, or has an entry of the image
  pub slot_with : (es : List ImageEntry) (s : ℕ) (x : Slot)
      → slice_get (slots_with size es) s ≡ Some x → (x ≡ new_slot) ⊎ IsPlacedIn es s x
  slot_with es = filled_each (λ s x. (x ≡ new_slot) ⊎ IsPlacedIn es s x) 0 es
      (replicate size new_slot)
      (λ s x at. inl (replicate_is size s new_slot x at))
      (λ k e at. inr record {
        number = k;
        entry = e;
        listed = at;
        here = refl;
        same = ap (λ m. resident_of size m e) (let g : 0 + k ≡ k = omega arith in g);
      })

  -- the same of what is read of a slot
  pub read_with : {A : Type 0} (f : Slot → Option A) (es : List ImageEntry) (s : ℕ) (a : A)
      → f new_slot ≡ None → option_and_then f (slice_get (slots_with size es) s) ≡ Some a
      → (x : Slot) × IsPlacedIn es s x × (f x ≡ Some a)
  read_with f es s a none is = by (slice_get (slots_with size es) s) refl is
    where
      by : (o : Option Slot) → slice_get (slots_with size es) s ≡ o
          → option_and_then f o ≡ Some a
          → (x : Slot) × IsPlacedIn es s x × (f x ≡ Some a)
      by None at is = cc
      by (Some x) at is = elim (slot_with es s x at) [
        | inl empty ↦ let bad : None ≡ Some a = sym none ∙ (ap f (sym empty) ∙ is) in cc
        | inr placed ↦ (x, placed, is)
      ]

-- lists of nothing weigh nothing
pub books_weigh_none : (h : Stamp → ℕ) (k n : ℕ) → books_weigh h k (replicate n []) ≡ 0
books_weigh_none h k zero = refl
books_weigh_none h k (suc n) = let rest = books_weigh_none h (k + 1) n in omega arith

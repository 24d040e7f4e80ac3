-- The slots of a draft: which are free, and what stands in them.
use Rattle.std.proofs.Common.{◌≡◌, inl, inr, ℕ, zero, suc, ◌+◌, ◌-◌, ◌%◌, ◌^◌, ◌<◌, ◌≤◌, nat_le, nat_lt, Bool, true, false, List, [], ◌∷◌, ◌++◌, Option, Some, None, bit_and, bit_or, length, slice_get, slice_set, sym, refl, ap, ◌∙◌, append_assoc, arith}
use Rattle.std.specs.List.{list_any}
use Rattle.std.specs.Option.{is_some}
use Rattle.std.proofs.lemmas.Bool.{cases_eq, cases_lt, le-leb, lt-ltb}
use Rattle.std.proofs.lemmas.Option.{same_Some}
use Rattle.hcc_core.specs.declared.limits.TheConstants.{MOST_SLOTS}
use Rattle.hcc_core.specs.Sums.{total}
use Rattle.hcc_core.proofs.ListLemmas.{read_other}
use Rattle.hcc_rule.specs.declared.image.ImageEntry.{ImageEntry}
use Rattle.hcc_rule.specs.declared.key.Key.{Key}
use Rattle.hcc_rule.specs.Probes.{probe_slot}
use Rattle.hcc_rule.specs.Views.{Each}
use Rattle.hcc_rule.proofs.Basics.Lists.{within}
use Rattle.hcc_rule.proofs.Probes.ProbeLaws.{first_masked, next_masked, probe_of_slot}
use Rattle.hcc_shard.specs.Reopened.{is_rising}
use Rattle.hcc_cache.specs.Drafts.{HasFree, IsFilled, given, standing}
use Rattle.hcc_cache.specs.Sharding.{IsReached}

-- Of free slots.

-- where fewer entries stand than there are slots, one is free
pub free_there : (places : List (Option ImageEntry))
    → total (given (λ e. 1)) places < length places → HasFree places
free_there [] few = absurd (omega arith)
free_there (None ∷ places) few = (0, refl)
free_there (Some e ∷ places) few =
    let rest = free_there places (omega arith) in
    (suc rest.0, rest.1)

-- a slot where nothing stands is free, and in one where something does that is an entry
pub none_if : (o : Option ImageEntry) → is_some o ≡ false → o ≡ None
none_if None h = refl
none_if (Some e) h = cc

pub some_if : (o : Option ImageEntry) → is_some o ≡ true → (e : ImageEntry) × (o ≡ Some e)
some_if None h = cc
some_if (Some x) h = (x, refl)

-- what is filled still is, once an entry stands in a slot that was free
pub filled_still : (places : List (Option ImageEntry)) (at : ℕ) (e : ImageEntry) (slot : ℕ)
    → slice_get places at ≡ Some None → IsFilled places slot
    → IsFilled (slice_set places at (Some e)) slot
filled_still places at e slot free filled = elim (cases_eq slot at) [
  | inl same ↦
      let both : Some (Some filled.0) ≡ Some None =
      sym filled.1 ∙ (ap (slice_get places) same ∙ free) in
      cc
  | inr other ↦ (filled.0, read_other places at slot (Some e) other ∙ filled.1)
]

-- What is reached past slots of one kind is reached past those of another that has them all.
pub reached_past : (slots : ℕ) (key : Key) (P Q : ℕ → Type 0) (slot : ℕ)
    → ((s : ℕ) → P s → Q s) → IsReached slots key P slot → IsReached slots key Q slot
reached_past slots key P Q slot among h = record {
  probe = h.probe;
  here = h.here;
  passes = λ i low. among (probe_slot slots key i) (h.passes i low);
}

-- The first probes of a key are taken, and the word is at the next one.
pub record IsSeeking (places : List (Option ImageEntry)) (key : Key) (i word : ℕ) : Type 0 where
  pub at : bit_and word (length places - 1) ≡ probe_slot (length places) key i
  pub taken : (j : ℕ) → j < i → IsFilled places (probe_slot (length places) key j)

module _ (places : List (Option ImageEntry)) (key : Key)
    (power : MOST_SLOTS % length places ≡ 0) where
  -- at first none was looked at
  pub seeking_none : IsSeeking places key 0 key.w1
  seeking_none = record {
    at = first_masked (length places) key power;
    taken = λ j low. absurd (omega arith);
  }

  -- one more is taken
  pub seeking_more : (i word slot : ℕ) → IsSeeking places key i word
      → slot ≡ bit_and word (length places - 1) → IsFilled places slot
      → IsSeeking places key (i + 1) ((word + bit_or key.w0 1) % 2 ^ 64)
  seeking_more i word slot s is full = record {
    at = next_masked (length places) key power i word s.at;
    taken = λ j low. elim (cases_lt j i) [
      | inl before ↦ s.taken j before
      | inr last ↦
          let same : j ≡ i = omega arith in
          let here : slot ≡ probe_slot (length places) key j =
          is ∙ s.at ∙ ap (probe_slot (length places) key) (sym same) in
          (full.0, ap (slice_get places) (sym here) ∙ full.1)
    ];
  }

  -- they aren't all taken
  pub seeking_ends : (i word : ℕ) → IsSeeking places key i word → HasFree places
      → length places ≤ i → ⊥
  seeking_ends i word s free all =
      let inside = within places free.0 None free.1 in
      let found = probe_of_slot (length places) key power free.0 inside in
      let low = found.1 in
      let taken = s.taken found.0 (omega arith) in
      let both : Some (Some taken.0) ≡ Some None =
      sym taken.1 ∙ (ap (slice_get places) found.2 ∙ free.1) in
      cc

-- Of what stands.

-- what stands in some slots was put behind what there was
abbrev pub IsGathering : (all : List (Option ImageEntry)) (now : List ImageEntry)
    (rest : List (Option ImageEntry)) → Type 0
IsGathering all now rest = now ++ standing rest ≡ standing all

pub gathering_none : (all : List (Option ImageEntry)) (now : List ImageEntry)
    (rest : List (Option ImageEntry)) → IsGathering all now (None ∷ rest)
    → IsGathering all now rest
gathering_none all now rest h = h

pub gathering_more : (all : List (Option ImageEntry)) (now : List ImageEntry) (e : ImageEntry)
    (rest : List (Option ImageEntry)) → IsGathering all now (Some e ∷ rest)
    → IsGathering all (now ++ e ∷ []) rest
gathering_more all now e rest h = append_assoc now (e ∷ []) (standing rest) ∙ h

pub gathering_all : (all : List (Option ImageEntry)) (now : List ImageEntry)
    → IsGathering all now [] → now ≡ standing all
gathering_all all now h = sym (none now) ∙ h
  where
    none : (xs : List ImageEntry) → xs ++ [] ≡ xs
    none [] = refl
    none (x ∷ xs) = ap (λ ys. x ∷ ys) (none xs)

-- Sums over it are sums over the slots.
pub standing_total : (f : ImageEntry → ℕ) (places : List (Option ImageEntry))
    → total f (standing places) ≡ total (given f) places
standing_total f [] = refl
standing_total f (None ∷ places) = let rest = standing_total f places in omega arith
standing_total f (Some e ∷ places) = ap (λ n. f e + n) (standing_total f places)

pub standing_length : (places : List (Option ImageEntry))
    → length (standing places) ≡ total (given (λ e. 1)) places
standing_length [] = refl
standing_length (None ∷ places) = let rest = standing_length places in omega arith
standing_length (Some e ∷ places) = let rest = standing_length places in omega arith

-- Each stands in some slot.
pub standing_at : (places : List (Option ImageEntry)) (k : ℕ) (e : ImageEntry)
    → slice_get (standing places) k ≡ Some e
    → (slot : ℕ) × (slice_get places slot ≡ Some (Some e))
standing_at [] k e h = cc
standing_at (None ∷ places) k e h =
    let rest = standing_at places k e h in
    (suc rest.0, rest.1)
standing_at (Some x ∷ places) zero e h = (0, ap Some h)
standing_at (Some x ∷ places) (suc k) e h =
    let rest = standing_at places k e h in
    (suc rest.0, rest.1)

-- What stands in a slot is among what stands.
pub standing_has : (places : List (Option ImageEntry)) (slot : ℕ) (e : ImageEntry)
    → slice_get places slot ≡ Some (Some e)
    → (k : ℕ) × (slice_get (standing places) k ≡ Some e)
standing_has [] slot e h = cc
standing_has (None ∷ places) zero e h = cc
standing_has (None ∷ places) (suc slot) e h = standing_has places slot e h
standing_has (Some x ∷ places) zero e h = (0, same_Some _ _ h)
standing_has (Some x ∷ places) (suc slot) e h =
    let rest = standing_has places slot e h in
    (suc rest.0, rest.1)

-- What each has that stands, all have.
pub standing_each : (P : ImageEntry → Type 0) (places : List (Option ImageEntry))
    → ((slot : ℕ) (e : ImageEntry) → slice_get places slot ≡ Some (Some e) → P e)
    → Each P (standing places)
standing_each P [] h = tt
standing_each P (None ∷ places) h = standing_each P places (λ slot e at. h (suc slot) e at)
standing_each P (Some e ∷ places) h =
    (h 0 e refl, standing_each P places (λ slot x at. h (suc slot) x at))

-- A test that none meets isn't met.
pub standing_any : (p : ImageEntry → Bool) (places : List (Option ImageEntry))
    → ((slot : ℕ) (e : ImageEntry) → slice_get places slot ≡ Some (Some e) → p e ≡ false)
    → list_any p (standing places) ≡ false
standing_any p [] h = refl
standing_any p (None ∷ places) h = standing_any p places (λ slot e at. h (suc slot) e at)
standing_any p (Some e ∷ places) h =
    let first = h 0 e refl in
    let rest = standing_any p places (λ slot x at. h (suc slot) x at) in
    rw (first, rest) refl

-- Their slots rise, where each has its own.
pub standing_rising : (low first size : ℕ) (places : List (Option ImageEntry)) → low ≤ first
    → first + length places ≤ size
    → ((slot : ℕ) (e : ImageEntry) → slice_get places slot ≡ Some (Some e)
    → e.slot ≡ first + slot)
    → is_rising low size (standing places) ≡ true
standing_rising low first size [] below inside own = refl
standing_rising low first size (None ∷ places) below inside own =
    standing_rising low (first + 1) size places (omega arith) (omega arith)
    (λ slot e at. let is = own (suc slot) e at in omega arith)
standing_rising low first size (Some e ∷ places) below inside own =
    let is = own 0 e refl in
    let from : nat_le low e.slot ≡ true = le-leb low e.slot (omega arith) in
    let under : nat_lt e.slot size ≡ true = lt-ltb e.slot size (omega arith) in
    let rest =
    standing_rising (e.slot + 1) (first + 1) size places (omega arith) (omega arith)
    (λ slot x at. let next = own (suc slot) x at in omega arith) in
    rw (from, under, rest) refl

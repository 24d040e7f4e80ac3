-- Names that clients hold: where they are found, and where not.
use Rattle.std.proofs.Common.{◌≡◌, ℕ, zero, suc, ◌+◌, ◌<◌, ◌≤◌, ◌&&◌, ◌||◌, ◌==◌, Bool, true, false}
use Rattle.std.proofs.Common.{cond, not, nat_lt, is_none, List, [], ◌∷◌, Option, Some, None}
use Rattle.std.proofs.Common.{slice_get, length, position, one-add, refl, sym, ap, ◌∙◌, arith}
use Rattle.std.specs.Prelude.{option_and_then}
use Rattle.std.specs.List.{list_any, position_or_len}
use Rattle.std.proofs.lemmas.Bool.{and_parts, eqb-true, ltb-true, ltb-false, false≢true}
use Rattle.hcc_core.specs.declared.slot.Entry.{Entry}
use Rattle.hcc_core.specs.declared.slot.Slot.{Slot}
use Rattle.hcc_core.specs.declared.slot.Slot.TheVariants as slots
use Rattle.hcc_core.specs.Sums.{when, total}
use Rattle.hcc_core.specs.World.{State, is_named, has_reference, slot_holding}
use Rattle.hcc_core.specs.Runs.{entry_held, held_at, named_on, named_in, FindsOne}

-- no reference of this client has this name
abbrev pub Unheld : State → ℕ → ℕ → Type 0
Unheld w client name = (slot : ℕ) (entry : Entry) → held_at w client name slot ≡ Some entry → ⊥

-- who has the name that is unheld
pub named_free : (w : State) (client name c n : ℕ) → Unheld w client name
    → ((client == c) && (name == n)) ≡ true → Unheld w c n
named_free w client name c n free h =
    let both = and_parts (client == c) (name == n) h in
    let c_is : c ≡ client = sym (eqb-true client c both.0) in
    let n_is : n ≡ name = sym (eqb-true name n both.1) in
    rw (c_is, n_is) free

-- where no member is found to pass, none passes
none_passes : {X : Type 0} (p : X → Bool) (xs : List X) (i : ℕ) (x : X)
    → length xs ≤ position_or_len p xs → slice_get xs i ≡ Some x → p x ≡ true → ⊥
none_passes p [] i x past at passes = cc
none_passes {X = X} p (y ∷ ys) i x past at passes = by (p y) refl (none_passes p ys) past i at
  where
    by : (b : Bool) → p y ≡ b
        → ((i : ℕ) (x : X) → length ys ≤ position_or_len p ys → slice_get ys i ≡ Some x → p x ≡ true
        → ⊥)
        → suc (length ys) ≤ cond (not b) (1 + position_or_len p ys) 0
        → (i : ℕ) → slice_get (y ∷ ys) i ≡ Some x → ⊥
    by true is later past i at = omega arith
    by false is later past zero at =
        let first : y ≡ x = cc in false≢true (sym is ∙ ap p first ∙ passes)
    by false is later past (suc i) at = later i x (omega arith) at passes

-- what a reading found is held there
held_there : (client name : ℕ) (o : Option Slot) (entry : Entry)
    → option_and_then (entry_held client name) o ≡ Some entry
    → (seen : Slot) × (o ≡ Some seen) × (has_reference client name seen ≡ true)
held_there client name None entry h = cc
held_there client name (Some (slots.Empty strays)) entry h = cc
held_there client name (Some (slots.Building other strays)) entry h = cc
held_there client name (Some (slots.Shareable r)) entry h =
    (slots.Shareable r, refl, by (list_any (is_named client name) r.references) refl h)
  where
    by : (b : Bool) → list_any (is_named client name) r.references ≡ b
        → cond b (Some r.entry) None ≡ Some entry
        → list_any (is_named client name) r.references ≡ true
    by true is h = is
    by false is h = cc

-- a name that no slot is found to hold is unheld
pub unheld : (w : State) (client name : ℕ) → is_none (slot_holding w.slots client name) ≡ true
    → Unheld w client name
unheld w client name none s entry h =
    by (nat_lt (position_or_len (has_reference client name) w.slots) (length w.slots)) refl none
  where
    by : (b : Bool)
        → nat_lt (position_or_len (has_reference client name) w.slots) (length w.slots) ≡ b
        → is_none (cond b (Some (position_or_len (has_reference client name) w.slots)) None) ≡ true
        → ⊥
    by true is none = cc
    by false is none =
        let there = held_there client name (slice_get w.slots s) entry h in
        none_passes (has_reference client name) w.slots s there.0 (ltb-false _ _ is) there.1 there.2

-- Names that are counted.

-- a test that passes counts, and only one that passes
pub any_counts : {X : Type 0} (p : X → Bool) (xs : List X) → list_any p xs ≡ true
    → 1 ≤ total (λ x. when (p x) 1) xs
any_counts p [] h = absurd (false≢true h)
any_counts p (x ∷ xs) h = by (p x) (any_counts p xs) h
  where
    by : (b : Bool) → (list_any p xs ≡ true → 1 ≤ total (λ x. when (p x) 1) xs)
        → (b || list_any p xs) ≡ true → 1 ≤ when b 1 + total (λ x. when (p x) 1) xs
    by true later h = omega arith
    by false later h = let rest = later h in omega arith

pub counts_any : {X : Type 0} (p : X → Bool) (xs : List X) → 1 ≤ total (λ x. when (p x) 1) xs
    → list_any p xs ≡ true
counts_any p [] h = absurd (omega arith)
counts_any p (x ∷ xs) h = by (p x) (counts_any p xs) h
  where
    by : (b : Bool) → (1 ≤ total (λ x. when (p x) 1) xs → list_any p xs ≡ true)
        → 1 ≤ when b 1 + total (λ x. when (p x) 1) xs → (b || list_any p xs) ≡ true
    by true later h = refl
    by false later h = later (omega arith)

-- a slot whose entry is not held under the name has no reference of it
none_on : (client name : ℕ) (slot : Slot)
    → ((entry : Entry) → entry_held client name slot ≡ Some entry → ⊥)
    → named_on client name slot ≡ 0
none_on client name (slots.Empty strays) free = refl
none_on client name (slots.Building other strays) free = refl
none_on client name (slots.Shareable r) free = by (named_on client name (slots.Shareable r)) refl
  where
    by : (n : ℕ) → named_on client name (slots.Shareable r) ≡ n
        → named_on client name (slots.Shareable r) ≡ 0
    by zero is = is
    by (suc n) is =
        let held = counts_any (is_named client name) r.references (omega arith) in
        absurd (free r.entry (rw held refl))

none_in : (client name : ℕ) (all : List Slot)
    → ((s : ℕ) (entry : Entry)
    → option_and_then (entry_held client name) (slice_get all s) ≡ Some entry → ⊥)
    → total (named_on client name) all ≡ 0
none_in client name [] free = refl
none_in client name (slot ∷ rest) free =
    let first = none_on client name slot (free zero) in
    let others = none_in client name rest (λ s. free (suc s)) in
    omega arith

pub unheld_none : (w : State) (client name : ℕ) → Unheld w client name → named_in w client name ≡ 0
unheld_none w client name free = none_in client name w.slots free

-- Names that are found.

-- the first member that passes, where there is one
first_found : {X : Type 0} (p : X → Bool) (xs : List X) → position_or_len p xs < length xs
    → (x : X) × (slice_get xs (position_or_len p xs) ≡ Some x) × (p x ≡ true)
first_found p [] within = absurd (omega arith)
first_found {X = X} p (y ∷ ys) within = by (p y) refl (first_found p ys) within
  where
    by : (b : Bool) → p y ≡ b
        → (position_or_len p ys < length ys
        → (x : X) × (slice_get ys (position_or_len p ys) ≡ Some x) × (p x ≡ true))
        → cond (not b) (1 + position_or_len p ys) 0 < suc (length ys)
        → (x : X) × (slice_get (y ∷ ys) (cond (not b) (1 + position_or_len p ys) 0) ≡ Some x)
        × (p x ≡ true)
    by true is later within = (y, refl, is)
    by false is later within =
        let next = later (omega arith) in (next.0, rw one-add next.1, next.2)

position_found : {X : Type 0} (p : X → Bool) (xs : List X) (i : ℕ) → position p xs ≡ Some i
    → (x : X) × (slice_get xs i ≡ Some x) × (p x ≡ true)
position_found {X = X} p xs i h = by (nat_lt (position_or_len p xs) (length xs)) refl h
  where
    by : (b : Bool) → nat_lt (position_or_len p xs) (length xs) ≡ b
        → cond b (Some (position_or_len p xs)) None ≡ Some i
        → (x : X) × (slice_get xs i ≡ Some x) × (p x ≡ true)
    by true within h =
        let here : position_or_len p xs ≡ i = cc in
        rw (← here) (first_found p xs (ltb-true _ _ within))
    by false within h = cc

-- a slot with the reference has an entry
entry_there : (client name : ℕ) (seen : Slot) → has_reference client name seen ≡ true
    → (entry : Entry) × (entry_held client name seen ≡ Some entry)
entry_there client name (slots.Empty strays) h = absurd (false≢true h)
entry_there client name (slots.Building other strays) h = absurd (false≢true h)
entry_there client name (slots.Shareable r) h = (r.entry, rw h refl)

found_stands : (w : State) (client name slot : ℕ) → slot_holding w.slots client name ≡ Some slot
    → (entry : Entry) × (held_at w client name slot ≡ Some entry)
found_stands w client name slot h =
    let at = position_found (has_reference client name) w.slots slot h in
    let there = entry_there client name at.0 at.2 in
    (there.0, ap (option_and_then (entry_held client name)) at.1 ∙ there.1)

-- a client has each name on one slot at most
abbrev pub Apart : State → Type 0
Apart w = (client name slot slot' : ℕ) (entry entry' : Entry)
    → held_at w client name slot ≡ Some entry → held_at w client name slot' ≡ Some entry'
    → slot ≡ slot'

-- so the slot that is found is the one where the reference stands
pub finds_one : (w : State) → Apart w → ((client name : ℕ) → named_in w client name ≤ 1)
    → FindsOne w
finds_one w apart one = record {
  one = one;
  stands = found_stands w;
  found = λ client name slot entry h.
      by client name slot entry h (slot_holding w.slots client name) refl;
}
  where
    by : (client name slot : ℕ) (entry : Entry) → held_at w client name slot ≡ Some entry
        → (o : Option ℕ) → slot_holding w.slots client name ≡ o
        → slot_holding w.slots client name ≡ Some slot
    by client name slot entry h None is = absurd (unheld w client name (ap is_none is) slot entry h)
    by client name slot entry h (Some s) is =
        let there = found_stands w client name s is in
        is ∙ ap Some (apart client name s slot there.0 entry there.1 h)

-- Lists of records: what is found by a name, how often a name is called, what the records of a slot
-- weigh, and the first record of each slot. Callers cite these.
use Rattle.std.proofs.Common.{◌≡◌, ◌≢◌, ℕ, ◌+◌, ◌≤◌, ◌++◌, Bool, true, false, cond, not, eq-eqb, ne_eqb, List, [], ◌∷◌, Option, Some, None, length, sym, refl, ap, ◌∙◌, arith}
use Rattle.std.specs.List.{find}
use Rattle.std.proofs.lemmas.Bool.{eqb-true}
use Rattle.hcc_core.specs.declared.client.Client.{Client}
use Rattle.hcc_core.specs.Sums.{when, total}
use Rattle.hcc_core.specs.Outcomes.{dropped}
use Rattle.hcc_core.proofs.SumLemmas.{sum_at, total-append}
use Rattle.hcc_core.proofs.DroppedLemmas.{dropped-total, dropped-le}
use Rattle.hcc_rule.specs.declared.view.Record.{Record}
use Rattle.hcc_rule.specs.Between.{IsBetweenCalls}
use Rattle.hcc_rule.specs.Passing.{IsIdle}
use Rattle.hcc_rule.specs.Views.{is_on, is_called, times_called, load_of, Each}
use Rattle.hcc_rule.specs.Records.{record_in, weight_on, off, different}
use Rattle.hcc_rule.proofs.Basics.Findings.{none_passes, find_passes}

-- Records by name.

-- a record that is found stays found once others are appended
pub found_before : (x : ℕ) (rs qs : List Record) (q : Record) → record_in x rs ≡ Some q
    → record_in x (rs ++ qs) ≡ Some q
found_before x [] qs q is = cc
found_before x (r ∷ rs) qs q is = by (is_called x r) (found_before x rs qs q) is
  where
    by : (b : Bool) → (record_in x rs ≡ Some q → record_in x (rs ++ qs) ≡ Some q)
        → cond b (Some r) (record_in x rs) ≡ Some q
        → cond b (Some r) (record_in x (rs ++ qs)) ≡ Some q
    by true later is = is
    by false later is = later is

-- where none is found, the appended ones are searched
pub found_behind : (x : ℕ) (rs qs : List Record) → record_in x rs ≡ None
    → record_in x (rs ++ qs) ≡ record_in x qs
found_behind x [] qs is = refl
found_behind x (r ∷ rs) qs is = by (is_called x r) (found_behind x rs qs) is
  where
    by : (b : Bool) → (record_in x rs ≡ None → record_in x (rs ++ qs) ≡ record_in x qs)
        → cond b (Some r) (record_in x rs) ≡ None
        → cond b (Some r) (record_in x (rs ++ qs)) ≡ record_in x qs
    by true later is = cc
    by false later is = later is

-- a record of a free name that is appended is found
pub found_new : (x : ℕ) (rs : List Record) (q : Record) → record_in x rs ≡ None → q.name ≡ x
    → record_in x (rs ++ q ∷ []) ≡ Some q
found_new x rs q free named =
    found_behind x rs (q ∷ []) free ∙ ap (λ b. cond b (Some q) None) (eq-eqb q.name x named)

-- one of another name changes nothing
pub found_beside : (x : ℕ) (rs : List Record) (q : Record) → q.name ≢ x
    → record_in x (rs ++ q ∷ []) ≡ record_in x rs
found_beside x [] q other = ap (λ b. cond b (Some q) None) (ne_eqb q.name x other)
found_beside x (r ∷ rs) q other = ap (λ o. cond (is_called x r) (Some r) o)
    (found_beside x rs q other)

-- a record of another name stays found once one is dropped
pub found_else : (x y : ℕ) (rs : List Record) → x ≢ y
    → record_in x (dropped (is_called y) rs) ≡ record_in x rs
found_else x y [] other = refl
found_else x y (r ∷ rs) other = by (is_called y r) refl (found_else x y rs other)
  where
    by : (b : Bool) → is_called y r ≡ b → record_in x (dropped (is_called y) rs) ≡ record_in x rs
        → record_in x (cond b rs (r ∷ dropped (is_called y) rs))
        ≡ cond (is_called x r) (Some r) (record_in x rs)
    by true is later =
        let named : r.name ≡ y = eqb-true r.name y is in
        let none = ne_eqb r.name x (λ e. other (sym e ∙ named)) in
        rw none refl
    by false is later = ap (λ o. cond (is_called x r) (Some r) o) later

-- where none is found the name is called by none
pub never_called : (x : ℕ) (rs : List Record) → record_in x rs ≡ None → times_called x rs ≡ 0
never_called x rs is = none_passes (is_called x) rs is

-- where the name is called by none, none is found
pub found_nowhere : (x : ℕ) (rs : List Record) → times_called x rs ≡ 0 → record_in x rs ≡ None
found_nowhere x [] none = refl
found_nowhere x (r ∷ rs) none = by (is_called x r) (found_nowhere x rs) none
  where
    by : (b : Bool) → (times_called x rs ≡ 0 → record_in x rs ≡ None)
        → when b 1 + times_called x rs ≡ 0
        → cond b (Some r) (record_in x rs) ≡ None
    by true later none = absurd (omega arith)
    by false later none = later (omega arith)

-- how often a name is called over two lists
pub called_append : (x : ℕ) (rs qs : List Record)
    → times_called x (rs ++ qs) ≡ times_called x rs + times_called x qs
called_append x rs qs = total-append (λ r. when (is_called x r) 1) rs qs

-- once a record was dropped that is found by a name, that name is called once less
pub called_less : (x : ℕ) (rs : List Record) (q : Record) → record_in x rs ≡ Some q
    → times_called x (dropped (is_called x) rs) + 1 ≡ times_called x rs
called_less x rs q is =
    let left = dropped-total (is_called x) (λ r. when (is_called x r) 1) rs q is in
    let one : when (is_called x q) 1 ≡ 1 = ap (λ b. when b 1) (find_passes (is_called x) rs q is) in
    omega arith

-- and no name more often
pub called_dropped : (x y : ℕ) (rs : List Record)
    → times_called x (dropped (is_called y) rs) ≤ times_called x rs
called_dropped x y rs = dropped-le (is_called y) (λ r. when (is_called x r) 1) rs

-- a name that is called once is free once its record was dropped
pub found_no_more : (x : ℕ) (rs : List Record) (q : Record) → record_in x rs ≡ Some q
    → times_called x rs ≤ 1 → record_in x (dropped (is_called x) rs) ≡ None
found_no_more x rs q is once =
    let less = called_less x rs q is in
    found_nowhere x (dropped (is_called x) rs) (omega arith)

-- What records weigh.

-- what the records of a slot weigh over two lists
pub weight_append : (slot : ℕ) (rs qs : List Record)
    → weight_on slot (rs ++ qs) ≡ weight_on slot rs + weight_on slot qs
weight_append slot rs qs = total-append (λ r. when (is_on slot r) r.weight) rs qs

-- and once one was dropped
pub weight_dropped : (slot x : ℕ) (rs : List Record) (q : Record) → record_in x rs ≡ Some q
    → weight_on slot (dropped (is_called x) rs) + when (is_on slot q) q.weight ≡ weight_on slot rs
weight_dropped slot x rs q is = dropped-total (is_called x) (λ r. when (is_on slot r) r.weight) rs q
    is

-- what all records weigh over two lists
pub load_append : (rs qs : List Record) → load_of (rs ++ qs) ≡ load_of rs + load_of qs
load_append rs qs = total-append (λ (r : Record). r.weight) rs qs

-- and once one was dropped
pub load_dropped : (x : ℕ) (rs : List Record) (q : Record) → record_in x rs ≡ Some q
    → load_of (dropped (is_called x) rs) + q.weight ≡ load_of rs
load_dropped x rs q is = dropped-total (is_called x) (λ (r : Record). r.weight) rs q is

-- The first record of each slot.

-- a sum of ones is a length
pub total_ones : {A : Type 0} (xs : List A) → total (λ x. 1) xs ≡ length xs
total_ones [] = refl
total_ones (x ∷ xs) = let rest = total_ones xs in omega arith

-- no two of them are of one slot
abbrev pub Apart : List Record → Type 0
Apart [] = Unit {0}
Apart (r ∷ rs) = Each (λ (q : Record). q.slot ≢ r.slot) rs × Apart rs

-- what holds of each record holds of those of other slots
off_each : (P : Record → Type 0) (slot : ℕ) (rs : List Record) → Each P rs → Each P (off slot rs)
off_each P slot [] h = tt
off_each P slot (q ∷ qs) h = by (is_on slot q) (off_each P slot qs h.1)
  where
    by : (b : Bool) → Each P (off slot qs) → Each P (cond (not b) (q ∷ off slot qs) (off slot qs))
    by true later = later
    by false later = (h.0, later)

-- and these are of other slots
off_others : (slot : ℕ) (rs : List Record) → Each (λ (q : Record). q.slot ≢ slot) (off slot rs)
off_others slot [] = tt
off_others slot (q ∷ qs) = by (is_on slot q) refl (off_others slot qs)
  where
    by : (b : Bool) → is_on slot q ≡ b → Each (λ (q : Record). q.slot ≢ slot) (off slot qs)
        → Each (λ (q : Record). q.slot ≢ slot) (cond (not b) (q ∷ off slot qs) (off slot qs))
    by true is later = later
    by false is later = (λ e. let bad : true ≡ false = sym (eq-eqb q.slot slot e) ∙ is in cc, later)

-- and stay apart
off_apart : (slot : ℕ) (rs : List Record) → Apart rs → Apart (off slot rs)
off_apart slot [] h = tt
off_apart slot (q ∷ qs) h = by (is_on slot q) (off_apart slot qs h.1)
  where
    by : (b : Bool) → Apart (off slot qs) → Apart (cond (not b) (q ∷ off slot qs) (off slot qs))
    by true later = later
    by false later = (off_each (λ (z : Record). z.slot ≢ q.slot) slot qs h.0, later)

-- the first records of slots are some of the records
pub different_each : (P : Record → Type 0) (rs : List Record) → Each P rs → Each P (different rs)
different_each P [] h = tt
different_each P (r ∷ rs) h = (h.0, off_each P r.slot (different rs) (different_each P rs h.1))

-- and no two of them are of one slot
pub different_apart : (rs : List Record) → Apart (different rs)
different_apart [] = tt
different_apart (r ∷ rs) =
    (off_others r.slot (different rs), off_apart r.slot (different rs) (different_apart rs))

-- a sum over those of other slots, with one over those of the slot, is the sum over all
pub off_total : (f : Record → ℕ) (slot : ℕ) (rs : List Record)
    → total f (off slot rs) + total (λ r. when (is_on slot r) (f r)) rs ≡ total f rs
off_total f slot [] = refl
off_total f slot (q ∷ qs) = by (is_on slot q) (off_total f slot qs)
  where
    by : (b : Bool) → total f (off slot qs) + total (λ r. when (is_on slot r) (f r)) qs ≡ total f qs
        → total f (cond (not b) (q ∷ off slot qs) (off slot qs))
        + (when b (f q) + total (λ r. when (is_on slot r) (f r)) qs)
        ≡ f q + total f qs
    by true later = omega arith
    by false later = omega arith

-- a sum over the first records of slots is part of the sum over all
pub different_part : (f : Record → ℕ) (rs : List Record) → total f (different rs) ≤ total f rs
different_part f [] = omega arith
different_part f (r ∷ rs) =
    let rest = different_part f rs in
    let others = off_total f r.slot (different rs) in
    omega arith

-- without those of a slot there is none of it
off_none : (f : Record → ℕ) (slot : ℕ) (rs : List Record)
    → total (λ r. when (is_on slot r) (f r)) (off slot rs) ≡ 0
off_none f slot [] = refl
off_none f slot (q ∷ qs) = by (is_on slot q) refl (off_none f slot qs)
  where
    by : (b : Bool) → is_on slot q ≡ b → total (λ r. when (is_on slot r) (f r)) (off slot qs) ≡ 0
        → total (λ r. when (is_on slot r) (f r)) (cond (not b) (q ∷ off slot qs) (off slot qs)) ≡ 0
    by true is later = later
    by false is later = let none : when (is_on slot q) (f q) ≡ 0 =
        ap (λ b. when b (f q)) is in omega arith

-- and those of another slot stay
off_else : (f : Record → ℕ) (slot away : ℕ) (rs : List Record) → slot ≢ away
    → total (λ r. when (is_on slot r) (f r)) (off away rs)
    ≡ total (λ r. when (is_on slot r) (f r)) rs
off_else f slot away [] other = refl
off_else f slot away (q ∷ qs) other = by (is_on away q) refl (off_else f slot away qs other)
  where
    by : (b : Bool) → is_on away q ≡ b
        → total (λ r. when (is_on slot r) (f r)) (off away qs)
        ≡ total (λ r. when (is_on slot r) (f r)) qs
        → total (λ r. when (is_on slot r) (f r)) (cond (not b) (q ∷ off away qs) (off away qs))
        ≡ when (is_on slot q) (f q) + total (λ r. when (is_on slot r) (f r)) qs
    by true is later =
        let there : q.slot ≡ away = eqb-true q.slot away is in
        let none : when (is_on slot q) (f q) ≡ 0 =
        ap (λ b. when b (f q)) (ne_eqb q.slot slot (λ e. other (sym e ∙ there))) in
        omega arith
    by false is later = omega arith

-- The first records of slots have one of a slot at most: the first of its records.
pub different_on : (f : Record → ℕ) (slot : ℕ) (rs : List Record)
    → total (λ r. when (is_on slot r) (f r)) (different rs) ≡ sum_at f (find (is_on slot) rs)
different_on f slot [] = refl
different_on f slot (r ∷ rs) = by (is_on slot r) refl (different_on f slot rs)
  where
    by : (b : Bool) → is_on slot r ≡ b
        → total (λ q. when (is_on slot q) (f q)) (different rs) ≡ sum_at f (find (is_on slot) rs)
        → when b (f r) + total (λ q. when (is_on slot q) (f q)) (off r.slot (different rs))
        ≡ sum_at f (cond b (Some r) (find (is_on slot) rs))
    by true is later =
        let here : r.slot ≡ slot = eqb-true r.slot slot is in
        let none = off_none f slot (different rs) in
        let same = ap (λ k. total (λ q. when (is_on slot q) (f q)) (off k (different rs))) here in
        omega arith
    by false is later =
        let away : slot ≢ r.slot = λ e. let bad : true ≡ false =
        sym (eq-eqb r.slot slot (sym e)) ∙ is in cc in
        let same = off_else f slot r.slot (different rs) away in
        omega arith

-- So there is one at most.
pub different_once : (slot : ℕ) (rs : List Record)
    → total (λ r. when (is_on slot r) 1) (different rs) ≤ 1
different_once slot rs =
    let one = different_on (λ r. 1) slot rs in
    let few = by (find (is_on slot) rs) in
    omega arith
  where
    by : (o : Option Record) → sum_at (λ (r : Record). 1) o ≤ 1
    by None = omega arith
    by (Some r) = omega arith

-- Clients.

-- a client with nothing in hand is between its calls
pub idle_between : (work : Client) → IsIdle work → IsBetweenCalls work
idle_between work idle = rw idle refl

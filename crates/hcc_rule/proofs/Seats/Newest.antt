-- The newest record of a view is found by its name, and without it the records are those before it.
use Rattle.std.proofs.Common.{◌≡◌, ℕ, ◌+◌, Bool, true, false, cond, List, [], ◌∷◌, ◌++◌, Some, None, refl, ap, arith}
use Rattle.std.specs.List.{find}
use Rattle.std.proofs.lemmas.Bool.{eq-eqb}
use Rattle.hcc_core.specs.Outcomes.{dropped}
use Rattle.hcc_core.proofs.SumLemmas.{total-append}
use Rattle.hcc_rule.specs.declared.view.Record.{Record}
use Rattle.hcc_rule.specs.Views.{is_called, load_of}
use Rattle.hcc_rule.specs.Records.{record_in}

-- where none passes before it, a member that passes is found, and is the one that is dropped
last_found : {A : Type 0} (p : A → Bool) (xs : List A) (x : A) → p x ≡ true → find p xs ≡ None
    → find p (xs ++ x ∷ []) ≡ Some x
last_found p [] x passes none = rw passes refl
last_found {A} p (y ∷ ys) x passes none = by (p y) (last_found p ys x passes) none
  where
    by : (b : Bool) → (find p ys ≡ None → find p (ys ++ x ∷ []) ≡ Some x)
        → cond b (Some y) (find p ys) ≡ None → cond b (Some y) (find p (ys ++ x ∷ [])) ≡ Some x
    by true later h = cc
    by false later h = later h

last_dropped : {A : Type 0} (p : A → Bool) (xs : List A) (x : A) → p x ≡ true → find p xs ≡ None
    → dropped p (xs ++ x ∷ []) ≡ xs
last_dropped p [] x passes none = rw passes refl
last_dropped {A} p (y ∷ ys) x passes none = by (p y) (last_dropped p ys x passes) none
  where
    by : (b : Bool) → (find p ys ≡ None → dropped p (ys ++ x ∷ []) ≡ ys)
        → cond b (Some y) (find p ys) ≡ None
        → cond b (ys ++ x ∷ []) (y ∷ dropped p (ys ++ x ∷ [])) ≡ y ∷ ys
    by true later h = cc
    by false later h = ap (λ zs. y ∷ zs) (later h)

pub newest_found : (name : ℕ) (records : List Record) (r : Record) → r.name ≡ name
    → record_in name records ≡ None → record_in name (records ++ r ∷ []) ≡ Some r
newest_found name records r called free =
    last_found (is_called name) records r (eq-eqb r.name name called) free

pub newest_dropped : (name : ℕ) (records : List Record) (r : Record) → r.name ≡ name
    → record_in name records ≡ None → dropped (is_called name) (records ++ r ∷ []) ≡ records
newest_dropped name records r called free =
    last_dropped (is_called name) records r (eq-eqb r.name name called) free

pub newest_weighs : (records : List Record) (r : Record)
    → load_of (records ++ r ∷ []) ≡ load_of records + r.weight
newest_weighs records r =
    let all = total-append (λ (q : Record). q.weight) records (r ∷ []) in omega arith

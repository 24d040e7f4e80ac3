-- Places for clients, of which one is written after another.
use Rattle.std.proofs.Common.{◌≡◌, ℕ, zero, suc, ◌<◌, Result, IsSomeAnd, ◌∙◌, List, [], ◌∷◌, ◌++◌, Option, Some, None, drop, take, length, slice_index_or, slice_set, map, refl, sym, ap, arith}
use Rattle.hcc_cache.specs.declared.client.Client.{Client}
use Rattle.hcc_cache.specs.declared.tags.AnyBytes.{AnyBytes}
use Rattle.hcc_c.specs.declared.refusal.Refusal.{Refusal}
use Rattle.hcc_c.specs.declared.session.Session.{Session}
use Rattle.std.proofs.lemmas.List.{append_assoc, map-append}
use Rattle.hcc_c.specs.declared.objects.ClientPlace.{ClientPlace}
use Rattle.hcc_c.specs.Pools.{first_of, held_in, judged_back, judged_each, clients_in}

-- what is left from an index on begins with what the place there holds
module _ {P S : Type 0} (value : P → Option S) where
  pub rest_at : (ps : List P) (k : ℕ) (d : P) → k < length ps
      → drop k (map value ps) ≡ value (slice_index_or ps k d) ∷ drop (suc k) (map value ps)
  rest_at [] k d inside = absurd (omega arith)
  rest_at (p ∷ ps) zero d inside = refl
  rest_at (p ∷ ps) (suc k) d inside = rest_at ps k d (omega arith)

  -- where a place is written, those behind it and those before it stay
  pub rest_set : (ps : List P) (k : ℕ) (p : P) → k < length ps
      → drop k (map value (slice_set ps k p)) ≡ value p ∷ drop (suc k) (map value ps)
  rest_set [] k p inside = absurd (omega arith)
  rest_set (q ∷ qs) zero p inside = refl
  rest_set (q ∷ qs) (suc k) p inside = rest_set qs k p (omega arith)

  pub front_set : (ps : List P) (k : ℕ) (p : P) → k < length ps
      → take (suc k) (map value (slice_set ps k p)) ≡ take k (map value ps) ++ value p ∷ []
  front_set [] k p inside = absurd (omega arith)
  front_set (q ∷ qs) zero p inside = refl
  front_set (q ∷ qs) (suc k) p inside =
      ap (λ xs. value q ∷ xs) (front_set qs k p (omega arith))

  -- and where it holds the same again, all do
  pub held_set : (ps : List P) (k : ℕ) (d p : P)
      → value p ≡ value (slice_index_or ps k d) → map value (slice_set ps k p) ≡ map value ps
  held_set [] k d p same = refl
  held_set (q ∷ qs) zero d p same = ap (λ v. v ∷ map value qs) same
  held_set (q ∷ qs) (suc k) d p same = ap (λ xs. value q ∷ xs) (held_set qs k d p same)

  -- what is behind a place that was written
  pub after_set : (ps : List P) (k : ℕ) (p : P)
      → drop (suc k) (map value (slice_set ps k p)) ≡ drop (suc k) (map value ps)
  after_set [] k p = refl
  after_set (q ∷ qs) zero p = refl
  after_set (q ∷ qs) (suc k) p = after_set qs k p

-- what a place for a client holds
abbrev pub held : ClientPlace → Option Session
held place = place.value

judged_on : (number : ℕ) (held : Option Session) (rest : List (Option Session))
    (answer : Result (Unit {0}) Refusal)
    → IsSomeAnd held (λ session. answer ≡ judged_back number session)
    → judged_each number (held ∷ rest) ≡ first_of answer (judged_each number rest)
judged_on number None rest answer told = absurd told
judged_on number (Some session) rest answer told =
    ap (λ a. first_of a (judged_each number rest)) (sym told)

-- those from an index on are judged by the first of them, and the rest
pub judged_next : (number : ℕ) (ps : List ClientPlace) (k : ℕ) (d : ClientPlace)
    (answer : Result (Unit {0}) Refusal) → k < length ps
    → IsSomeAnd (slice_index_or ps k d).value (λ session. answer ≡ judged_back number session)
    → judged_each number (drop k (held_in ps))
    ≡ first_of answer (judged_each number (drop (suc k) (held_in ps)))
judged_next number ps k d answer inside told =
    ap (judged_each number) (rest_at held ps k d inside)
    ∙ judged_on number (slice_index_or ps k d).value (drop (suc k) (held_in ps)) answer told

clients_on : (held : Option Session) (rest : List (Option Session)) (client : Client AnyBytes)
    → IsSomeAnd held (λ session. client ≡ session.client)
    → clients_in (held ∷ rest) ≡ client ∷ clients_in rest
clients_on None rest client told = absurd told
clients_on (Some session) rest client told = ap (λ c. c ∷ clients_in rest) (sym told)

-- and so are their clients
pub clients_next : (ps : List ClientPlace) (k : ℕ) (d : ClientPlace) (client : Client AnyBytes)
    → k < length ps → IsSomeAnd (slice_index_or ps k d).value (λ session. client ≡ session.client)
    → clients_in (drop k (held_in ps)) ≡ client ∷ clients_in (drop (suc k) (held_in ps))
clients_next ps k d client inside told =
    ap clients_in (rest_at held ps k d inside)
    ∙ clients_on (slice_index_or ps k d).value (drop (suc k) (held_in ps)) client told

-- the last of these goes in front of the rest
pub last_moved : {A B : Type 0} (f : A → B) (xs : List A) (x : A) (rest : List B)
    → map f (xs ++ x ∷ []) ++ rest ≡ map f xs ++ f x ∷ rest
last_moved f xs x rest =
    ap (λ ys. ys ++ rest) (map-append f xs (x ∷ []))
    ∙ append_assoc (map f xs) (f x ∷ []) rest

-- What views that were joined name as made and as taken, and how much.
use Rattle.std.proofs.Common.{◌≡◌, ℕ, suc, ◌+◌, ◌≤◌, ◌==◌, Bool, true, false, cond, List, [], ◌∷◌, ◌++◌, Some, length, map, slice_get, sym, refl, ap, ◌∙◌, append_assoc, arith}
use Rattle.std.specs.List.{find}
use Rattle.std.proofs.lemmas.Bool.{eqb-true}
use Rattle.std.proofs.lemmas.List.{append-nil}
use Rattle.hcc_core.specs.declared.slot.Stamp.{Stamp}
use Rattle.hcc_core.specs.Sums.{total}
use Rattle.hcc_core.proofs.SumLemmas.{total-append}
use Rattle.hcc_rule.specs.declared.view.Gone.{Gone}
use Rattle.hcc_rule.specs.declared.view.Made.{Made}
use Rattle.hcc_rule.specs.declared.view.Other.{Other}
use Rattle.hcc_rule.specs.declared.view.View.{View}
use Rattle.hcc_rule.specs.Closing.{list_by, made_by}
use Rattle.hcc_rule.specs.Passing.{as_other, joined_view}
use Rattle.hcc_rule.specs.Rule.{taken_weigh}
use Rattle.hcc_cache.specs.Closings.{all_joined, joined_views}

module _ {T : Type 0} where
  -- each of these views names its own client alone
  abbrev pub AreSingle : List (View T) → Type 0
  AreSingle vs = (k : ℕ) (w : View T) → slice_get vs k ≡ Some w → w.others ≡ []

  -- one of these views is this client's, with what was made as number n in its list
  abbrev pub HasMade : (c n : ℕ) → Made → List (View T) → Type 0
  HasMade c n m vs =
      (k : ℕ) × (w : View T) × (slice_get vs k ≡ Some w) × (w.client ≡ c)
      × (slice_get w.made n ≡ Some m)

  joined_same : (v : View T) (vs : List (View T))
      → ((joined_views v vs).client ≡ v.client) × ((joined_views v vs).made ≡ v.made)
  joined_same v [] = (refl, refl)
  joined_same v (w ∷ ws) = joined_same (joined_view v w) ws

  others_joined : (v : View T) (vs : List (View T)) → AreSingle vs
      → (joined_views v vs).others ≡ v.others ++ map as_other vs
  others_joined v [] single = sym (append-nil v.others)
  others_joined v (w ∷ ws) single =
      others_joined (joined_view v w) ws (λ k x h. single (suc k) x h)
      ∙ ap (λ os. (v.others ++ as_other w ∷ os) ++ map as_other ws) (single 0 w refl)
      ∙ append_assoc v.others (as_other w ∷ []) (map as_other ws)

  -- The first view names those after it as its others.
  others_after : (v : View T) (vs : List (View T)) → AreSingle (v ∷ vs)
      → (joined_views v vs).others ≡ map as_other vs
  others_after v vs single =
      others_joined v vs (λ k x e. single (suc k) x e)
      ∙ ap (λ os. os ++ map as_other vs) (single 0 v refl)

  find_made : (c n : ℕ) (m : Made) (vs : List (View T))
      → slice_get (made_by (find (λ (o : Other). o.client == c) (map as_other vs))) n ≡ Some m
      → HasMade c n m vs
  find_made c n m [] h = cc
  find_made c n m (w ∷ ws) h = by (w.client == c) refl (find_made c n m ws) h
    where
      later : List Other
      later = map as_other ws

      by : (b : Bool) → (w.client == c) ≡ b
          → (slice_get (made_by (find (λ (o : Other). o.client == c) later)) n ≡ Some m
          → HasMade c n m ws)
          → slice_get (made_by (cond b (Some (as_other w))
          (find (λ (o : Other). o.client == c) later))) n ≡ Some m
          → HasMade c n m (w ∷ ws)
      by true is found h = (0, w, refl, eqb-true w.client c is, h)
      by false is found h = let r = found h in (suc r.0, r.1, r.2, r.3, r.4)

  -- What the joined view names as made is in the list of one of the views.
  pub made_joined : (c n : ℕ) (m : Made) (vs : List (View T)) → AreSingle vs
      → slice_get (list_by (all_joined vs) c) n ≡ Some m → HasMade c n m vs
  made_joined c n m [] single h = none (0 == c) h
    where
      none : (b : Bool) → slice_get (cond b [] []) n ≡ Some m → HasMade c n m []
      none true h = cc
      none false h = cc
  made_joined c n m (v ∷ vs) single h =
      let same = joined_same v vs in
      by (v.client == c) refl (rw (same.0, same.1, others_after v vs single) at h)
    where
      by : (b : Bool) → (v.client == c) ≡ b
          → slice_get (cond b v.made (made_by (find (λ (o : Other). o.client == c)
          (map as_other vs)))) n ≡ Some m
          → HasMade c n m (v ∷ vs)
      by true is h = (0, v, refl, eqb-true v.client c is, h)
      by false is h = let r = find_made c n m vs h in (suc r.0, r.1, r.2, r.3, r.4)

  joined_records : (v : View T) (vs : List (View T)) → (joined_views v vs).records ≡ v.records
  joined_records v [] = refl
  joined_records v (w ∷ ws) = joined_records (joined_view v w) ws

  -- The joined view has the records of the first.
  pub records_joined : (vs : List (View T)) (v : View T) → slice_get vs 0 ≡ Some v
      → (all_joined vs).records ≡ v.records
  records_joined [] v h = absurd (let no : ⊥ = cc in no)
  records_joined (w ∷ ws) v h =
      let same : w ≡ v = cc in joined_records w ws ∙ ap (λ (x : View T). x.records) same

  -- A count of views that a joining adds up is of the joined view what it is of all views.
  sum_joined : (f : View T → ℕ) → ((v w : View T) → f (joined_view v w) ≡ f v + f w)
      → (vs : List (View T)) → 1 ≤ length vs → f (all_joined vs) ≡ total f vs
  sum_joined f both [] some = absurd (omega arith)
  sum_joined f both (v ∷ vs) some = by v vs
    where
      by : (v : View T) (vs : List (View T)) → f (joined_views v vs) ≡ f v + total f vs
      by v [] = omega arith
      by v (w ∷ ws) =
          let rest = by (joined_view v w) ws in
          let first = both v w in
          omega (arith, rest, first)

  -- The joined view took as much as all views.
  pub takings_joined : (vs : List (View T)) → 1 ≤ length vs
      → (all_joined vs).takings ≡ total (λ (w : View T). w.takings) vs
  takings_joined = sum_joined (λ w. w.takings) (λ v w. refl)

  -- What it took weighs as much as what all views took.
  pub gone_joined : (h : Stamp → ℕ) (vs : List (View T)) → 1 ≤ length vs
      → taken_weigh h (all_joined vs).gone ≡ total (λ (w : View T). taken_weigh h w.gone) vs
  gone_joined h =
      sum_joined (λ w. taken_weigh h w.gone)
      (λ v w. total-append (λ (g : Gone). h g.stamp) v.gone w.gone)

  others_total : (f : ℕ → List Made → ℕ) (vs : List (View T))
      → total (λ (o : Other). f o.client o.made) (map as_other vs)
      ≡ total (λ (w : View T). f w.client w.made) vs
  others_total f [] = refl
  others_total f (w ∷ ws) = let rest = others_total f ws in omega arith

  -- What it names as made weighs as much as what all views made, however that is weighed.
  pub made_weighs : (f : ℕ → List Made → ℕ) (vs : List (View T)) → 1 ≤ length vs → AreSingle vs
      → f (all_joined vs).client (all_joined vs).made
      + total (λ (o : Other). f o.client o.made) (all_joined vs).others
      ≡ total (λ (w : View T). f w.client w.made) vs
  made_weighs f [] some single = absurd (omega arith)
  made_weighs f (v ∷ vs) some single =
      let same = joined_same v vs in
      let sum = others_total f vs in
      rw (same.0, same.1, others_after v vs single) (omega arith)

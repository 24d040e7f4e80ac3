-- Entries that all come in.
use Rattle.std.proofs.Common.{◌≡◌, ℕ, ◌+◌, ◌≤◌, ◌==◌, ◌||◌, not, nat_le, if◌then◌else◌, Bool, true, false, List, [], ◌∷◌, ◌++◌, refl, sym, ap, ◌∙◌, append_assoc, arith}
use Rattle.std.proofs.lemmas.Bool.{le-leb, lt-ltb}
use Rattle.hcc_core.specs.Sums.{when}
use Rattle.hcc_core.proofs.SumLemmas.{total-append}
use Rattle.hcc_rule.specs.Views.{Each}
use Rattle.hcc_cache.specs.declared.config.Config.{Config}
use Rattle.hcc_cache.specs.Configs.{shard_capacity}
use Rattle.hcc_cache.specs.Images.{Visible}
use Rattle.hcc_cache.specs.Taken.{IsRoomyFor, has_place, home_of, is_granted, is_sound, is_taken, places_of, split_of, sum_in, with_all}
use Rattle.hcc_cache.proofs.Beginnings.DraftsFilled.{sum_here}

module _ (c : Config) where
  -- what all entries give in a shard, of which one is this
  sum_parts : (shard : ℕ) (f : Visible → ℕ) (done rest : List Visible) (e : Visible)
      → home_of c e ≡ shard → sum_in c shard f done + f e ≤ sum_in c shard f (done ++ e ∷ rest)
  sum_parts shard f done rest e home =
      let both = total-append (λ (x : Visible). when (home_of c x == shard) (f x)) done
      (e ∷ rest) in
      let one = sum_here c shard done e home f in
      let last = total-append (λ (x : Visible). when (home_of c x == shard) (f x)) done
      (e ∷ []) in
      omega arith

  sound_in : (done rest : List Visible) (e : Visible)
      → Each (λ (x : Visible). is_sound c x ≡ true) (done ++ e ∷ rest) → is_sound c e ≡ true
  sound_in [] rest e h = h.0
  sound_in (x ∷ done) rest e h = sound_in done rest e h.1

  granted : (done rest : List Visible) (e : Visible) (b : Bool) → c.strict ≡ b
      → IsRoomyFor c (done ++ e ∷ rest)
      → (not b || nat_le (sum_in c (home_of c e) (λ (x : Visible). x.charge) done + e.charge)
      (shard_capacity c)) ≡ true
  granted done rest e false is roomy = refl
  granted done rest e true is roomy =
      let part = sum_parts (home_of c e) (λ (x : Visible). x.charge) done rest e refl in
      let most = roomy.charges is (home_of c e) in
      le-leb _ (shard_capacity c) (omega arith)

  -- The next one is taken.
  next_taken : (done rest : List Visible) (e : Visible) → IsRoomyFor c (done ++ e ∷ rest)
      → is_taken c done e ≡ true
  next_taken done rest e roomy =
      let sound = sound_in done rest e roomy.sound in
      let part = sum_parts (home_of c e) (λ (x : Visible). 1) done rest e refl in
      let most = roomy.places (home_of c e) in
      let place : has_place c done e ≡ true = lt-ltb _ (places_of c) (omega arith) in
      let grant : is_granted c done e ≡ true = granted done rest e c.strict refl roomy in
      rw (sound, place, grant) refl

  -- So are all.
  all_taken : (done rest : List Visible) → IsRoomyFor c (done ++ rest)
      → with_all c (record { taken = done; left = [] }) rest
      ≡ record { taken = done ++ rest; left = [] }
  all_taken done [] roomy =
      ap (λ (es : List Visible). record { taken = es; left = [] }) (sym (none done))
    where
      none : (xs : List Visible) → xs ++ [] ≡ xs
      none [] = refl
      none (x ∷ xs) = ap (λ ys. x ∷ ys) (none xs)
  all_taken done (e ∷ rest) roomy =
      let goes = next_taken done rest e roomy in
      let regroup = append_assoc done (e ∷ []) rest in
      let first = ap (λ (b : Bool). with_all c (if b
      then record { taken = done ++ e ∷ []; left = [] }
      else record { taken = done; left = e ∷ [] }) rest) goes in
      first
      ∙ (all_taken (done ++ e ∷ []) rest (rw regroup roomy)
      ∙ ap (λ (es : List Visible). record { taken = es; left = [] }) regroup)

  pub roomy_taken : (es : List Visible) → IsRoomyFor c es
      → split_of c es ≡ record { taken = es; left = [] }
  roomy_taken es roomy = all_taken [] es roomy

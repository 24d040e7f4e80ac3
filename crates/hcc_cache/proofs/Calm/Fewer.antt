-- How many slots show a key, where some stop to.
use Rattle.std.proofs.Common.{◌≡◌, ◌≢◌, ◌⊎◌, inl, inr, ℕ, zero, suc, ◌+◌, ◌&&◌, ◌<◌, Bool, true, false, Some, None, sym, refl, ap, ◌∙◌, subst, arith}
use Rattle.std.specs.Int.{from_bool}
use Rattle.std.specs.Prelude.{IsSomeAnd, if◌then◌else◌}
use Rattle.std.proofs.lemmas.Bool.{cases_eq, eq-eqb}
use Rattle.hcc_core.specs.declared.slot.Entry.{Entry}
use Rattle.hcc_core.specs.Sums.{when}
use Rattle.hcc_core.specs.World.{State}
use Rattle.hcc_rule.specs.declared.key.Key.{Key}
use Rattle.hcc_rule.specs.Words.{key_of}
use Rattle.hcc_table.specs.Searched.{is_key}
use Rattle.hcc_table.specs.Standing.{ShowsKey, ShowsSame, counts_shown, shown_at, shown_of}

module _ (key : Key) where
  -- an entry of the key counts
  counts_one : (e : Entry) → key_of e ≡ key → counts_shown key (Some e) ≡ 1
  counts_one e asked =
      ap (λ z. when (is_key key z) 1) asked
      ∙ (λ k. when (eq-eqb key.w0 key.w0 refl k && eq-eqb key.w1 key.w1 refl k) 1)

  shown_same : (n : ℕ) (w next : State) → ((s : ℕ) → s < n → shown_at next s ≡ shown_at w s)
      → shown_of n key next ≡ shown_of n key w
  shown_same zero w next same = refl
  shown_same (suc n) w next same =
      let rest : shown_of n key next ≡ shown_of n key w =
      shown_same n w next (λ s less. same s (omega arith)) in
      let here : counts_shown key (shown_at next n) ≡ counts_shown key (shown_at w n) =
      ap (counts_shown key) (same n (omega arith)) in
      omega arith

  -- one slot stopped to show the key
  shown_less : (n slot c : ℕ) (w next : State) → slot < n
      → counts_shown key (shown_at next slot) ≡ 0 → counts_shown key (shown_at w slot) ≡ c
      → ((s : ℕ) → s ≢ slot → shown_at next s ≡ shown_at w s)
      → shown_of n key next + c ≡ shown_of n key w
  shown_less zero slot c w next low none had others = absurd (omega arith)
  shown_less (suc n) slot c w next low none had others = elim (cases_eq n slot) [
    | inl here ↦
        let rest : shown_of n key next ≡ shown_of n key w =
        shown_same n w next (λ s less. others s (λ e. omega (arith, e, here, less))) in
        let now : counts_shown key (shown_at next n) ≡ 0 =
        subst (λ s. counts_shown key (shown_at next s) ≡ 0) (sym here) none in
        let was : counts_shown key (shown_at w n) ≡ c =
        subst (λ s. counts_shown key (shown_at w s) ≡ c) (sym here) had in
        omega arith
    | inr other ↦
        let rest : shown_of n key next + c ≡ shown_of n key w =
        shown_less n slot c w next (omega arith) none had others in
        let same : counts_shown key (shown_at next n) ≡ counts_shown key (shown_at w n) =
        ap (counts_shown key) (others n other) in
        omega arith
  ]

module _ (size : ℕ) (key : Key) where
  -- So many slots fewer show the key, and each that didn't shows what it showed. Each that shows
  -- another thing than it did shows nothing.
  pub record Loses (n : ℕ) (w next : State) : Type 0 where
    pub count : shown_of size key next + n ≡ shown_of size key w
    pub others : (s : ℕ) → ¬ ShowsKey w key s → shown_at next s ≡ shown_at w s
    pub less : (s : ℕ) → (shown_at next s ≡ shown_at w s) ⊎ (shown_at next s ≡ None)

  pub loses_same : {w next : State} → ShowsSame w next → Loses 0 w next
  loses_same {w} {next} same = record {
    count =
        let all : shown_of size key next ≡ shown_of size key w =
        shown_same key size w next (λ s less. same s) in
        omega arith;
    others = λ s lacks. same s;
    less = λ s. inl (same s);
  }

  pub still_lacks : {n : ℕ} {w next : State} → Loses n w next → (s : ℕ) → ¬ ShowsKey w key s
      → ¬ ShowsKey next key s
  still_lacks h s lacks shows =
      lacks (subst (λ o. IsSomeAnd o (λ e. key_of e ≡ key)) (h.others s lacks) shows)

  pub loses_then : {m n : ℕ} {u v w : State} → Loses m u v → Loses n v w → Loses (m + n) u w
  loses_then h g = record {
    count = let first = h.count in let second = g.count in omega arith;
    others = λ s lacks. g.others s (still_lacks h s lacks) ∙ h.others s lacks;
    less = λ s. elim (g.less s) [
      | inl same ↦ elim (h.less s) [
        | inl was ↦ inl (same ∙ was)
        | inr none ↦ inr (same ∙ none)
      ]
      | inr none ↦ inr none
    ];
  }

  -- A slot that showed an entry of the key, or nothing, shows nothing.
  pub loses_one : {slot : ℕ} {w next : State} (entry : Entry) (b : Bool) → slot < size
      → shown_at next slot ≡ None → shown_at w slot ≡ (if b then Some entry else None)
      → key_of entry ≡ key → ((s : ℕ) → s ≢ slot → shown_at next s ≡ shown_at w s)
      → Loses (from_bool b) w next
  loses_one {slot} {w} {next} entry b low none had asked others = record {
    count =
        shown_less key size slot (from_bool b) w next low (ap (counts_shown key) none)
        (ap (counts_shown key) had ∙ counted b) others;
    others = λ s lacks. elim (cases_eq s slot) [
      | inl here ↦
          subst (λ n. shown_at next n ≡ shown_at w n) (sym here)
          (none ∙ sym (had ∙ bare b
          (subst (λ o. ¬ IsSomeAnd o (λ e. key_of e ≡ key)) had
          (subst (λ n. ¬ ShowsKey w key n) here lacks))))
      | inr other ↦ others s other
    ];
    less = λ s. elim (cases_eq s slot) [
      | inl here ↦ inr (subst (λ n. shown_at next n ≡ None) (sym here) none)
      | inr other ↦ inl (others s other)
    ];
  }
    where
      counted : (b : Bool) → counts_shown key (if b then Some entry else None) ≡ from_bool b
      counted true = counts_one key entry asked
      counted false = refl

      bare : (b : Bool) → ¬ IsSomeAnd (if b then Some entry else None) (λ e. key_of e ≡ key)
          → (if b then Some entry else None) ≡ None
      bare true lacks = absurd (lacks asked)
      bare false lacks = refl

-- Turns of the hand, one after another, go round the slots.
use Rattle.std.proofs.Common.{◌≡◌, ℕ, zero, suc, ◌+◌, ◌*◌, ◌/◌, ◌%◌, ◌^◌, ◌<◌, ◌≤◌, ◌==◌, map, sym, refl, ap, ◌∙◌, arith}
use Rattle.std.specs.List.{range_with_len}
use Rattle.std.proofs.Math.Nat.{pow-suc, mod-add-mod}
use Rattle.hcc_core.specs.declared.limits.TheConstants.{MOST_SLOTS, SLOTS_PER_TURN}
use Rattle.hcc_core.specs.Sums.{when}
use Rattle.hcc_core.specs.World.{times}
use Rattle.hcc_core.proofs.SumLemmas.{total-append}
use Rattle.hcc_rule.specs.Laws.{due_at, due_in}
use Rattle.hcc_rule.proofs.Probes.ProbeLaws.{is_power, some_slots, times_given, times_once}
use Rattle.hcc_rule.proofs.Probes.ProbeNumbers.{walk_apart, walk_reaches, wrap_within}

-- where two functions give the same numbers, each stands there as often
same_given : (f g : ℕ → ℕ) (p n a b : ℕ) → ((i : ℕ) → f (a + i) ≡ g (b + i))
    → times p (map f (range_with_len a n)) ≡ times p (map g (range_with_len b n))
same_given f g p zero a b same = refl
same_given f g p (suc n) a b same =
    let left : a ≡ a + 0 = omega arith in
    let right : b + 0 ≡ b = omega arith in
    let first : f a ≡ g b = ap f left ∙ (same 0 ∙ ap g right) in
    let here : when (f a == p) 1 ≡ when (g b == p) 1 = ap (λ (z : ℕ). when (z == p) 1) first in
    let rest = same_given f g p n (a + 1) (b + 1) later in
    omega arith
  where
    later : (i : ℕ) → f (a + 1 + i) ≡ g (b + 1 + i)
    later i =
        let left : a + 1 + i ≡ a + (1 + i) = omega arith in
        let right : b + (1 + i) ≡ b + 1 + i = omega arith in
        ap f left ∙ (same (1 + i) ∙ ap g right)

-- what a function gives is what it gives first and what it gives then
given_parts : (f : ℕ → ℕ) (p m n a : ℕ)
    → times p (map f (range_with_len a (m + n)))
    ≡ times p (map f (range_with_len a m)) + times p (map f (range_with_len (a + m) n))
given_parts f p zero n a =
    let count : zero + n ≡ n = omega arith in
    let start : a ≡ a + zero = omega arith in
    let whole = ap (λ (k : ℕ). times p (map f (range_with_len a k))) count in
    let last = ap (λ (k : ℕ). times p (map f (range_with_len k n))) start in
    omega arith
given_parts f p (suc m) n a =
    let count : suc m + n ≡ suc (m + n) = omega arith in
    let start : a + 1 + m ≡ a + suc m = omega arith in
    let whole = ap (λ (k : ℕ). times p (map f (range_with_len a k))) count in
    let last = ap (λ (k : ℕ). times p (map f (range_with_len k n))) start in
    let rest = given_parts f p m n (a + 1) in
    omega arith

module _ (slots : ℕ) (power : MOST_SLOTS % slots ≡ 0) where
  -- where a walk from the hand on is, slot by slot
  abbrev walk : (hand i : ℕ) → ℕ
  walk hand i = (hand + i * 1) % slots

  -- a hand that is where a walk is goes on as the walk does
  goes_on : (start hand a i : ℕ) → hand % slots ≡ walk start a
      → (hand + i) % slots ≡ walk start (a + i)
  goes_on start hand a i at =
      let on : start + a * 1 + i ≡ start + (a + i) * 1 = omega arith in
      sym (mod-add-mod hand slots i)
      ∙ (ap (λ z. (z + i) % slots) at
      ∙ (mod-add-mod (start + a * 1) slots i ∙ ap (λ z. z % slots) on))

  -- the slots of turns are those of the walk
  walked : (start slot turns hand a : ℕ) → hand % slots ≡ walk start a
      → times slot (due_in slots hand turns)
      ≡ times slot (map (walk start) (range_with_len a (turns * SLOTS_PER_TURN)))
  walked start slot zero hand a at =
      let none : 0 ≡ zero * SLOTS_PER_TURN = omega arith in
      ap (λ (k : ℕ). times slot (map (walk start) (range_with_len a k))) none
  walked start slot (suc turns) hand a at =
      let both = total-append (λ (z : ℕ). when (z == slot) 1) (due_at slots hand)
      (due_in slots after turns) in
      let first = same_given (λ i. (hand + i) % slots) (walk start) slot SLOTS_PER_TURN 0 a here in
      let rest = walked start slot turns after (a + SLOTS_PER_TURN) next in
      let parts = given_parts (walk start) slot SLOTS_PER_TURN (turns * SLOTS_PER_TURN) a in
      let count : SLOTS_PER_TURN + turns * SLOTS_PER_TURN ≡ suc turns * SLOTS_PER_TURN =
      omega arith in
      let whole = ap (λ (k : ℕ). times slot (map (walk start) (range_with_len a k))) count in
      omega arith
    where
      after : ℕ
      after = (hand + SLOTS_PER_TURN) % 2 ^ 64

      next : after % slots ≡ walk start (a + SLOTS_PER_TURN)
      next = wrap_within 16 64 slots (hand + SLOTS_PER_TURN) (omega arith) power
          ∙ goes_on start hand a SLOTS_PER_TURN at

      here : (i : ℕ) → (hand + (0 + i)) % slots ≡ walk start (a + i)
      here i =
          let same : 0 + i ≡ i = omega arith in
          ap (λ z. (hand + z) % slots) same ∙ goes_on start hand a i at

  -- a round of turns has as many slots as there are
  in_turns : 8 ≤ slots → slots / SLOTS_PER_TURN * SLOTS_PER_TURN ≡ slots
  in_turns some = let k = is_power slots power in by k.0 k.2
    where
      by : (k : ℕ) → slots ≡ 2 ^ k → slots / SLOTS_PER_TURN * SLOTS_PER_TURN ≡ slots
      by zero is = absurd (omega arith)
      by (suc zero) is = absurd (omega arith)
      by (suc (suc k)) is = omega (arith, pow-suc 2 (suc k), pow-suc 2 k)

  -- and each of them once
  pub due_once : 8 ≤ slots → (slot : ℕ) → slot < slots → (hand : ℕ)
      → times slot (due_in slots hand (slots / SLOTS_PER_TURN)) ≡ 1
  due_once some slot near hand =
      let start : hand ≡ hand + 0 * 1 = omega arith in
      let round = walked hand slot (slots / SLOTS_PER_TURN) hand 0 (ap (λ z. z % slots) start) in
      let whole = ap (λ (k : ℕ). times slot (map (walk hand) (range_with_len 0 k)))
      (in_turns some) in
      let found = walk_reaches slots 1 1 0 some_slot undo hand slot near in
      let given = times_given (walk hand) slots found.0 0 (omega arith) (omega (arith, found.1)) in
      let is = ap (λ (z : ℕ). times z (map (walk hand) (range_with_len 0 slots))) found.2 in
      let once = times_once (walk hand) slots 0 slot apart in
      omega arith
    where
      some_slot : 0 < slots
      some_slot = some_slots slots power

      undo : 1 * 1 ≡ 1 + 0 * slots
      undo = omega arith

      apart : (i j : ℕ) → 0 ≤ i → i < j → j < 0 + slots → walk hand i ≡ walk hand j → ⊥
      apart i j low first high same =
          let level = walk_apart slots 1 1 0 some_slot undo hand i j (omega arith) (omega arith)
          same in
          omega arith

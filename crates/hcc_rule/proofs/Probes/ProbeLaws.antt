-- The places of a key: in a table of a power of two the first ones are all slots, each once, and
-- the trail to a place is the places before it.
use Rattle.std.proofs.Common.{◌≡◌, ◌≢◌, inl, inr, ℕ, zero, suc, ◌+◌, ◌-◌, ◌*◌, ◌%◌, ◌^◌, ◌<◌, ◌≤◌, ◌==◌, Bool, List, [], ◌∷◌, ◌++◌, map, length, sym, refl, ap, ◌∙◌, arith, bit_or, bit_and, mod-lt, pow_pos, ne_eqb, true, false}
use Rattle.std.specs.Prelude.{if◌then◌else◌}
use Rattle.std.specs.List.{range_with_len}
use Rattle.std.proofs.Math.Nat.{mod-mod, mod-add-mod, add-mod}
use Rattle.std.proofs.lemmas.Bool.{cases_eq, cases_lt, eq-eqb, eqb-true}
use Rattle.std.proofs.lemmas.List.FromFn.{length-map-range_with_len, map-range_with_len_more}
use Rattle.hcc_core.specs.Sums.{when}
use Rattle.hcc_core.specs.World.{times}
use Rattle.hcc_core.specs.Outcomes.{dropped}
use Rattle.hcc_core.specs.Trails.{is_slot}
use Rattle.hcc_core.specs.declared.limits.TheConstants.{MOST_SLOTS}
use Rattle.hcc_rule.specs.declared.key.Key.{Key}
use Rattle.hcc_rule.specs.Probes.{probe_slot, before, trail_to}
use Rattle.hcc_rule.proofs.Probes.ProbeNumbers.{power_within, inverse_within, walk_apart, walk_reaches, or_one-odd, mask_within, wrap_within}

-- What stands in front of one of the numbers that a function gives in turn, where it comes once.
before_at : (f : ℕ → ℕ) (n i a p : ℕ) → i < n → f (a + i) ≡ p
    → ((j : ℕ) → a ≤ j → j < a + i → f j ≢ p)
    → before p (map f (range_with_len a n)) ≡ map f (range_with_len a i)
before_at f zero i a p inside at others = absurd (omega arith)
before_at f (suc n) zero a p inside at others =
    let first : a + 0 ≡ a = omega arith in
    let here : f a ≡ p = ap f (sym first) ∙ at in
    let later : List ℕ = map f (range_with_len (a + 1) n) in
    ap (λ (b : Bool). if b then [] else f a ∷ before p later) (eq-eqb (f a) p here)
before_at f (suc n) (suc i) a p inside at others =
    let on : a + suc i ≡ a + 1 + i = omega arith in
    let later : List ℕ = map f (range_with_len (a + 1) n) in
    let other : f a ≢ p = others a (omega arith) (omega arith) in
    let rest = before_at f n i (a + 1) p (omega arith) (ap f (sym on) ∙ at)
    (λ j low high. others j (omega arith) (omega arith)) in
    ap (λ (b : Bool). if b then [] else f a ∷ before p later) (ne_eqb (f a) p other)
    ∙ ap (λ l. f a ∷ l) rest

-- A number that a function gives comes among all that it gives.
pub times_given : (f : ℕ → ℕ) (n i a : ℕ) → a ≤ i → i < a + n
    → 1 ≤ times (f i) (map f (range_with_len a n))
times_given f zero i a low high = absurd (omega arith)
times_given f (suc n) i a low high = elim (cases_eq a i) [
  | inl here ↦
      let one : when (f a == f i) 1 ≡ 1 = ap (λ b. when b 1) (eq-eqb (f a) (f i) (ap f here)) in
      omega arith
  | inr later ↦
      let rest = times_given f n i (a + 1) (omega arith) (omega arith) in
      omega arith
]

-- A number that a function gives later on only does not come before.
times_later : (f : ℕ → ℕ) (n a p : ℕ) → ((j : ℕ) → a ≤ j → j < a + n → f j ≢ p)
    → times p (map f (range_with_len a n)) ≡ 0
times_later f zero a p others = refl
times_later f (suc n) a p others =
    let other : f a ≢ p = others a (omega arith) (omega arith) in
    let none : when (f a == p) 1 ≡ 0 = ap (λ b. when b 1) (ne_eqb (f a) p other) in
    let rest = times_later f n (a + 1) p (λ j low high. others j (omega arith) (omega arith)) in
    omega arith

-- A number stands once at most among those of a function that gives no number twice.
pub times_once : (f : ℕ → ℕ) (n a p : ℕ)
    → ((i j : ℕ) → a ≤ i → i < j → j < a + n → f i ≢ f j)
    → times p (map f (range_with_len a n)) ≤ 1
times_once f zero a p apart = omega arith
times_once f (suc n) a p apart =
    let rest = times_once f n (a + 1) p (λ i j low first high. apart i j (omega arith) first
    (omega arith)) in
    by (f a == p) refl rest
  where
    by : (b : Bool) → (f a == p) ≡ b → times p (map f (range_with_len (a + 1) n)) ≤ 1
        → when b 1 + times p (map f (range_with_len (a + 1) n)) ≤ 1
    by true is rest =
        let here : f a ≡ p = eqb-true (f a) p is in
        let none = times_later f n (a + 1) p
        (λ j low high same. apart a j (omega arith) (omega arith) (omega arith) (here ∙ sym same))
        in
        omega arith
    by false is rest = omega arith

-- What stands in front of a number stands there as often at most.
times_before : (p n : ℕ) (xs : List ℕ) → times p (before n xs) ≤ times p xs
times_before p n [] = omega arith
times_before p n (x ∷ xs) = by (x == n) (times_before p n xs)
  where
    by : (b : Bool) → times p (before n xs) ≤ times p xs
        → times p (if b then [] else x ∷ before n xs) ≤ when (x == p) 1 + times p xs
    by true rest = omega arith
    by false rest = omega arith

-- It goes from behind them.
dropped_later : (f : ℕ → ℕ) (n a p : ℕ) → ((j : ℕ) → a ≤ j → j < a + n → f j ≢ p)
    → dropped (is_slot p) (map f (range_with_len a n) ++ p ∷ []) ≡ map f (range_with_len a n)
dropped_later f zero a p others =
    ap (λ (b : Bool). if b then [] else p ∷ []) (eq-eqb p p refl)
dropped_later f (suc n) a p others =
    let later : List ℕ = map f (range_with_len (a + 1) n) ++ p ∷ [] in
    let other : f a ≢ p = others a (omega arith) (omega arith) in
    let rest = dropped_later f n (a + 1) p (λ j low high. others j (omega arith) (omega arith)) in
    ap (λ (b : Bool). if b then later else f a ∷ dropped (is_slot p) later) (ne_eqb (f a) p other)
    ∙ ap (λ l. f a ∷ l) rest

-- A divisor of the most slots is a power of two.
pub is_power : (slots : ℕ) → MOST_SLOTS % slots ≡ 0 → (k : ℕ) × (k ≤ 16) × (slots ≡ 2 ^ k)
is_power slots power = power_within 16 slots power

-- It is some number of slots.
pub some_slots : (slots : ℕ) → MOST_SLOTS % slots ≡ 0 → 0 < slots
some_slots slots power = let k = is_power slots power in omega (arith, k.2, pow_pos k.0)

-- A place is a slot.
pub probe_inside : (slots : ℕ) (key : Key) (i : ℕ) → 0 < slots → probe_slot slots key i < slots
probe_inside slots key i some = mod-lt (key.w1 + i * bit_or key.w0 1) some

module _ (slots : ℕ) (key : Key) (power : MOST_SLOTS % slots ≡ 0) where
  -- As many places as there are slots are apart.
  pub probes_apart : (i j : ℕ) → i < slots → j < slots
      → probe_slot slots key i ≡ probe_slot slots key j → i ≡ j
  probes_apart i j i_in j_in same =
      let stride : ℕ = bit_or key.w0 1 in
      let back = inverse_within 16 slots stride power (or_one-odd key.w0) in
      walk_apart slots stride back.0 back.1 (some_slots slots power) back.2 key.w1 i j i_in j_in
      same

  -- A trail has a slot once at most.
  pub trail_once : (slot i : ℕ) → times i (trail_to slots key slot) ≤ 1
  trail_once slot i =
      let part = times_before i slot (map (probe_slot slots key) (range_with_len 0 slots)) in
      let one = times_once (probe_slot slots key) slots 0 i
      (λ a b low first high same. let e =
      probes_apart a b (omega arith) (omega arith) same in absurd (omega arith)) in
      omega arith

  -- They are all the slots.
  pub probe_of_slot : (slot : ℕ) → slot < slots
      → (i : ℕ) × (i < slots) × (probe_slot slots key i ≡ slot)
  probe_of_slot slot inside =
      let stride : ℕ = bit_or key.w0 1 in
      let back = inverse_within 16 slots stride power (or_one-odd key.w0) in
      walk_reaches slots stride back.0 back.1 (some_slots slots power) back.2 key.w1 slot inside

  -- The places before a place are other slots, in the form that laws of lists ask for.
  earlier : (i : ℕ) → i < slots → (j : ℕ) → 0 ≤ j → j < 0 + i
      → probe_slot slots key j ≢ probe_slot slots key i
  earlier i inside j low high same =
      let one = probes_apart j i (omega arith) inside same in
      omega arith

  -- The trail to a place is the places before it.
  pub trail_at : (i : ℕ) → i < slots
      → trail_to slots key (probe_slot slots key i)
      ≡ map (probe_slot slots key) (range_with_len 0 i)
  trail_at i inside =
      before_at (probe_slot slots key) slots i 0 (probe_slot slots key i) inside first
      (earlier i inside)
    where
      first : probe_slot slots key (0 + i) ≡ probe_slot slots key i
      first = let same : 0 + i ≡ i = omega arith in ap (probe_slot slots key) same

  -- The trail to the first place is empty.
  pub trail_start : trail_to slots key (probe_slot slots key 0) ≡ []
  trail_start = trail_at 0 (some_slots slots power)

  -- The trail to the place after this one has this one behind it.
  pub trail_next : (i : ℕ) → i + 1 < slots
      → trail_to slots key (probe_slot slots key (i + 1))
      ≡ trail_to slots key (probe_slot slots key i) ++ probe_slot slots key i ∷ []
  trail_next i inside =
      trail_at (i + 1) inside
      ∙ map-range_with_len_more (probe_slot slots key) 0 i i (omega arith)
      ∙ ap (λ l. l ++ probe_slot slots key i ∷ []) (sym (trail_at i (omega arith)))

  -- Without it that is the trail to this one again.
  pub trail_back : (i : ℕ) → i + 1 < slots
      → dropped (is_slot (probe_slot slots key i))
      (trail_to slots key (probe_slot slots key (i + 1)))
      ≡ trail_to slots key (probe_slot slots key i)
  trail_back i inside =
      let first = trail_at i (omega arith) in
      ap (dropped (is_slot (probe_slot slots key i))) (trail_next i inside)
      ∙ ap (λ l. dropped (is_slot (probe_slot slots key i)) (l ++ probe_slot slots key i ∷ []))
      first
      ∙ dropped_later (probe_slot slots key) i 0 (probe_slot slots key i) (earlier i (omega arith))
      ∙ sym first

  -- The trail to a place is as long as there are places before it.
  pub trail_length : (i : ℕ) → i < slots → length (trail_to slots key (probe_slot slots key i)) ≡ i
  trail_length i inside =
      ap length (trail_at i inside) ∙ length-map-range_with_len (probe_slot slots key) 0 i

  -- A place stands in the trail to each later one.
  pub passed_before : (i j : ℕ) → i < j → j < slots
      → 1 ≤ times (probe_slot slots key i) (trail_to slots key (probe_slot slots key j))
  passed_before i j first inside =
      let given = times_given (probe_slot slots key) j i 0 (omega arith) (omega arith) in
      let same = ap (times (probe_slot slots key i)) (trail_at j inside) in
      omega arith

  -- It stands in the trail to no other.
  pub passed_later : (i j : ℕ) → j ≤ i → i < slots
      → times (probe_slot slots key i) (trail_to slots key (probe_slot slots key j)) ≡ 0
  passed_later i j later inside =
      ap (times (probe_slot slots key i)) (trail_at j (omega arith))
      ∙ times_later (probe_slot slots key) j 0 (probe_slot slots key i)
      (λ k low high. earlier i inside k low (omega arith))

  -- A slot whose trail lacks a place is one of the places up to that one.
  pub stands_within : (slot i : ℕ) → slot < slots
      → times (probe_slot slots key i) (trail_to slots key slot) ≡ 0
      → (j : ℕ) × (j ≤ i) × (probe_slot slots key j ≡ slot)
  stands_within slot i inside none =
      let found = probe_of_slot slot inside in
      by found.0 found.1 found.2
    where
      by : (j : ℕ) → j < slots → probe_slot slots key j ≡ slot
          → (j : ℕ) × (j ≤ i) × (probe_slot slots key j ≡ slot)
      by j j_in is = elim (cases_lt i j) [
        | inl later ↦
            let passed = passed_before i j later j_in in
            let same = ap (λ z. times (probe_slot slots key i) (trail_to slots key z)) is in
            absurd (omega arith)
        | inr within ↦ (j, within, is)
      ]

  -- The mask of the slots is a remainder.
  pub mask_probe : (x : ℕ) → bit_and x (slots - 1) ≡ x % slots
  mask_probe x = mask_within 16 slots x power

  -- It leaves a place as it is.
  pub masked_probe : (i : ℕ) → bit_and (probe_slot slots key i) (slots - 1) ≡ probe_slot slots key i
  masked_probe i = mask_probe (probe_slot slots key i)
      ∙ mod-mod (key.w1 + i * bit_or key.w0 1) slots

  -- A word of 64 bits wraps without a change of place.
  pub wrapped_64 : (x : ℕ) → x % 2 ^ 64 % slots ≡ x % slots
  wrapped_64 x = wrap_within 16 64 slots x (omega arith) power

  -- So does one of 32 bits.
  pub wrapped_32 : (x : ℕ) → x % 2 ^ 32 % slots ≡ x % slots
  wrapped_32 x = wrap_within 16 32 slots x (omega arith) power

  -- A word that starts as the key's second one is at the first place.
  pub first_probe : key.w1 % slots ≡ probe_slot slots key 0
  first_probe =
      let same : key.w1 ≡ key.w1 + 0 * bit_or key.w0 1 = omega arith in
      ap (λ z. z % slots) same

  -- A word at a place is at the next one once the stride was added.
  pub next_probe : (i place : ℕ) → place % slots ≡ probe_slot slots key i
      → (place + bit_or key.w0 1) % slots ≡ probe_slot slots key (i + 1)
  next_probe i place at =
      let stride : ℕ = bit_or key.w0 1 in
      let on : key.w1 + i * stride + stride ≡ key.w1 + (i + 1) * stride = omega arith in
      sym (mod-add-mod place slots stride)
      ∙ ap (λ z. (z + stride) % slots) at
      ∙ mod-add-mod (key.w1 + i * stride) slots stride
      ∙ ap (λ z. z % slots) on

  -- So it is where the sum wraps.
  pub next_probe_wrapped : (i place : ℕ) → place % slots ≡ probe_slot slots key i
      → (place + bit_or key.w0 1) % 2 ^ 64 % slots ≡ probe_slot slots key (i + 1)
  next_probe_wrapped i place at = wrapped_64 (place + bit_or key.w0 1) ∙ next_probe i place at

  -- From slot to slot, by the stride's remainder.
  pub next_slot : (i : ℕ)
      → (probe_slot slots key i + bit_or key.w0 1 % slots) % slots ≡ probe_slot slots key (i + 1)
  next_slot i =
      sym (add-mod (key.w1 + i * bit_or key.w0 1) (bit_or key.w0 1) slots)
      ∙ sym (mod-add-mod (key.w1 + i * bit_or key.w0 1) slots (bit_or key.w0 1))
      ∙ next_probe i (probe_slot slots key i) (mod-mod (key.w1 + i * bit_or key.w0 1) slots)

  -- The first place, by the mask.
  pub first_masked : bit_and key.w1 (slots - 1) ≡ probe_slot slots key 0
  first_masked = mask_probe key.w1 ∙ first_probe

  -- The next place, by the mask, of a sum that wraps.
  pub next_masked : (i place : ℕ) → bit_and place (slots - 1) ≡ probe_slot slots key i
      → bit_and ((place + bit_or key.w0 1) % 2 ^ 64) (slots - 1) ≡ probe_slot slots key (i + 1)
  next_masked i place at =
      mask_probe ((place + bit_or key.w0 1) % 2 ^ 64)
      ∙ next_probe_wrapped i place (sym (mask_probe place) ∙ at)

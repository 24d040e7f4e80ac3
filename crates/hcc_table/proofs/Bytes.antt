-- Bytes in words: what the words of a value give back, and a buffer that fills with them.
use Rattle.std.proofs.Common.{◌≡◌, ℕ, zero, suc, ◌+◌, ◌-◌, ◌*◌, ◌<◌, ◌≤◌, inl, inr, List, map, [], ◌∷◌, ◌++◌, length, take, drop, replicate, get_or, refl, sym, ap, ◌∙◌, append_assoc, arith}
use Rattle.std.proofs.Math.Seq.{take-add, take-append-add}
use Rattle.std.proofs.lemmas.List.{length-append, length-take, length-drop, length-take-le, take-append-le, length-replicate, drop_all, drop-drop, take_all, take-append-drop}
use Rattle.std.proofs.lemmas.Nat.{le_bytes_8}
use Rattle.std.proofs.lemmas.Slice.{drop-append-drop}
use Rattle.std.proofs.lemmas.Bool.{cases_lt}
use Rattle.std.specs.List.{flat_map, range_with_len}
use Rattle.std.specs.Int.{to_le_bytes, from_le_bytes}
use mir.Syntax.{w64}
use Rattle.hcc_rule.specs.Views.{Each}
use Rattle.hcc_rule.specs.Words.{payload, payload_word, words_for}
use Rattle.hcc_rule.proofs.Images.Payloads.{word_padded}

-- Of bytes are the first ones, and the rest.
pub each_take : {A : Type 0} (P : A → Type 0) (n : ℕ) (xs : List A) → Each P xs → Each P (take n xs)
each_take P zero xs h = tt
each_take P (suc n) [] h = tt
each_take P (suc n) (x ∷ xs) h = (h.0, each_take P n xs h.1)

pub each_drop : {A : Type 0} (P : A → Type 0) (n : ℕ) (xs : List A) → Each P xs → Each P (drop n xs)
each_drop P zero xs h = h
each_drop P (suc n) [] h = tt
each_drop P (suc n) (x ∷ xs) h = each_drop P n xs h.1

take_of_take : (n m : ℕ) (xs : List ℕ) → n ≤ m → take n (take m xs) ≡ take n xs
take_of_take zero m xs h = refl
take_of_take (suc n) zero xs h = absurd (omega arith)
take_of_take (suc n) (suc m) [] h = refl
take_of_take (suc n) (suc m) (x ∷ xs) h = ap (λ z. x ∷ z) (take_of_take n m xs (omega arith))

-- A list of bytes reads bytes everywhere, with zeros behind it too.
padded_bytes : (xs : List ℕ) (n : ℕ) → Each (λ b. b < 256) xs → (i : ℕ)
    → get_or (xs ++ replicate n 0) i 0 < 256
padded_bytes [] zero h i = omega arith
padded_bytes [] (suc n) h zero = omega arith
padded_bytes [] (suc n) h (suc i) = padded_bytes [] n h i
padded_bytes (x ∷ xs) n h zero = h.0
padded_bytes (x ∷ xs) n h (suc i) = padded_bytes xs n h.1 i

-- The word of at most eight bytes has these as its lowest, and zeros above.
pub padded_word : (bs : List ℕ) → length bs ≤ 8 → Each (λ b. b < 256) bs
    → to_le_bytes w64 (from_le_bytes w64 bs) ≡ bs ++ replicate (8 - length bs) 0
padded_word bs few small =
    let zeros : List ℕ = replicate (8 - length bs) 0 in
    let whole : length (bs ++ zeros) ≡ 8 = length-append bs zeros
    ∙ omega (arith, length-replicate {A = ℕ} (8 - length bs) 0) in
    le_bytes_8 (bs ++ zeros) (from_le_bytes w64 bs) whole (padded_bytes bs (8 - length bs) small)
    (sym (word_padded bs (8 - length bs)))

-- The first bytes of a word of a value are the value's at that offset.
pub word_bytes : (value : List ℕ) (k count : ℕ) → Each (λ b. b < 256) value → count ≤ 8
    → 8 * k + count ≤ length value
    → take count (to_le_bytes w64 (payload_word value k)) ≡ take count (drop (8 * k) value)
word_bytes value k count small few within =
    ap (take count) (padded_word bs short (each_take _ 8 rest (each_drop _ (8 * k) value small)))
    ∙ (take-append-le count bs (replicate (8 - length bs) 0) enough ∙ cut)
  where
    rest : List ℕ
    rest = drop (8 * k) value

    bs : List ℕ
    bs = take 8 rest

    short : length bs ≤ 8
    short = omega (arith, length-take 8 rest)

    enough : count ≤ length bs
    enough = omega (arith, length-take 8 rest, length-drop (8 * k) value)

    cut : take count bs ≡ take count rest
    cut = take_of_take count 8 rest few

-- A buffer that begins with the first bytes of a value begins with more of them, once these were
-- put behind the first.
pub fills : (value old buffer new : List ℕ) (at count : ℕ) → at + count ≤ length value
    → buffer ≡ take at value ++ drop at old
    → new ≡ take at buffer ++ (take count (drop at value) ++ drop (at + count) buffer)
    → new ≡ take (at + count) value ++ drop (at + count) old
fills value old buffer new at count within was is =
    is ∙ (ap (λ b. take at b ++ (take count (drop at value) ++ drop (at + count) b)) was
    ∙ (rw (front, back) (sym (append_assoc (take at value) (take count (drop at value))
    (drop (at + count) old)))
    ∙ ap (λ z. z ++ drop (at + count) old) (sym (take-add at count value))))
  where
    long : length (take at value) ≡ at
    long = length-take-le at value (omega arith)

    front : take at (take at value ++ drop at old) ≡ take at value
    front = take-append-le at (take at value) (drop at old) (omega (arith, long))
        ∙ take_of_take at at value (omega arith)

    back : drop (at + count) (take at value ++ drop at old) ≡ drop (at + count) old
    back = drop-append-drop at old (take at value) (at + count) (omega arith) long

-- the bytes of words, one after the other
abbrev pub bytes_of : List ℕ → List ℕ
bytes_of = flat_map (to_le_bytes w64)

-- The words of a value from some word on have the bytes from there on.
unpacked_from : (value : List ℕ) → Each (λ b. b < 256) value → (n a : ℕ) → 8 * a ≤ length value
    → length value ≤ 8 * (a + n)
    → take (length value - 8 * a) (bytes_of (map (payload_word value) (range_with_len a n)))
    ≡ drop (8 * a) value
unpacked_from value small zero a begun ended =
    let none : length value - 8 * a ≡ 0 = omega arith in
    rw none (sym (drop_all (8 * a) value (omega arith)))
unpacked_from value small (suc n) a begun ended = elim (cases_lt (length value) (8 * (a + 1))) [
  | inl last ↦
      take-append-le left here later (omega arith)
      ∙ (word_bytes value a left small (omega arith) (omega arith)
      ∙ take_all left (drop (8 * a) value) (omega (arith, length-drop (8 * a) value)))
  | inr more ↦
      let parts : left ≡ length here + (length value - 8 * (a + 1)) = omega arith in
      let next : 8 * a + 8 ≡ 8 * (a + 1) = omega arith in
      ap (λ m. take m (here ++ later)) parts
      ∙ (take-append-add here later (length value - 8 * (a + 1))
      ∙ (ap (λ z. here ++ z) (unpacked_from value small n (a + 1) (omega arith) (omega arith))
      ∙ (ap (λ m. here ++ drop m value) (sym next)
      ∙ (ap (λ z. z ++ drop (8 * a + 8) value)
      (word_bytes value a 8 small (omega arith) (omega arith))
      ∙ joined))))
]
  where
    left : ℕ
    left = length value - 8 * a

    here : List ℕ
    here = to_le_bytes w64 (payload_word value a)

    later : List ℕ
    later = bytes_of (map (payload_word value) (range_with_len (a + 1) n))

    joined : take 8 (drop (8 * a) value) ++ drop (8 * a + 8) value ≡ drop (8 * a) value
    joined = ap (λ z. take 8 (drop (8 * a) value) ++ z) (sym (drop-drop 8 (8 * a) value))
        ∙ take-append-drop 8 (drop (8 * a) value)

-- A value is the first bytes of the words that it takes.
pub unpacked : (value : List ℕ) → Each (λ b. b < 256) value
    → take (length value) (bytes_of (payload value)) ≡ value
unpacked value small =
    let whole : length value ≡ length value - 8 * 0 = omega arith in
    ap (λ n. take n (bytes_of (payload value))) whole
    ∙ unpacked_from value small (words_for (length value)) 0 (omega arith) (omega arith)

-- Two values of one length and the same words are one.
pub same_value : {x y : List ℕ} → Each (λ b. b < 256) x → Each (λ b. b < 256) y
    → length x ≡ length y
    → payload x ≡ payload y → x ≡ y
same_value {x} {y} small_x small_y long same =
    sym (unpacked x small_x) ∙ (ap (λ n. take n (bytes_of (payload x))) long
    ∙ (ap (λ words. take (length y) (bytes_of words)) same ∙ unpacked y small_y))

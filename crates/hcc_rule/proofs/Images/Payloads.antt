-- The words of a value: those of its bytes, and how they are written one after the other.
use Rattle.std.proofs.Common.{◌≡◌, ℕ, zero, suc, ◌+◌, ◌-◌, ◌<◌, ◌≤◌, ◌≢◌, inl, inr, List, [], ◌∷◌, ◌++◌, length, take, drop, replicate, get_or, slice_index, slice_set, refl, sym, ap, ◌∙◌, arith}
use Rattle.std.proofs.lemmas.Bool.{cases_eq}
use Rattle.std.proofs.lemmas.List.{length-drop, length-set, take_all, drop-replicate}
use Rattle.std.proofs.lemmas.List.FromFn.{get_or-map-range_with_len, length-map-range_with_len}
use Rattle.std.specs.Int.{from_le_bytes}
use mir.Syntax.{w64}
use Rattle.hcc_rule.specs.declared.image.ImageEntry.{ImageEntry}
use Rattle.hcc_rule.specs.Images.{made_of_entry}
use Rattle.hcc_rule.specs.Words.{Lies, made_words, payload, payload_word, stamp_word, words_for}
use Rattle.hcc_rule.proofs.Basics.Lists.{word_here, word_else}

-- Zeros behind a list change nothing that is read.
padded_same : (xs : List ℕ) (n i : ℕ) → get_or (xs ++ replicate n 0) i 0 ≡ get_or xs i 0
padded_same [] zero i = refl
padded_same [] (suc n) zero = refl
padded_same [] (suc n) (suc i) = padded_same [] n i
padded_same (x ∷ xs) n zero = refl
padded_same (x ∷ xs) n (suc i) = padded_same xs n i

-- Nor the word that they make.
pub word_padded : (bs : List ℕ) (n : ℕ)
    → from_le_bytes w64 (bs ++ replicate n 0) ≡ from_le_bytes w64 bs
word_padded bs n = omega (arith, at 0, at 1, at 2, at 3, at 4, at 5, at 6, at 7)
  where
    at : (i : ℕ) → get_or (bs ++ replicate n 0) i 0 ≡ get_or bs i 0
    at = padded_same bs n

-- The word of bytes that were copied over the first of eight zeros is theirs.
pub word_copied : (bytes copied : List ℕ) (n : ℕ) → copied ≡ bytes
    → from_le_bytes w64 (copied ++ drop n (replicate 8 0)) ≡ from_le_bytes w64 bytes
word_copied bytes copied n same =
    ap (λ z. from_le_bytes w64 (z ++ drop n (replicate 8 0))) same
    ∙ ap (λ z. from_le_bytes w64 (bytes ++ z)) (drop-replicate n 8 0)
    ∙ word_padded bytes (8 - n)

-- The last word of a value has fewer than eight bytes.
pub word_last : (value : List ℕ) (place : ℕ) → place ≤ length value
    → length (take (length value - place) (drop place value)) < 8
    → from_le_bytes w64 (take (length value - place) (drop place value))
    ≡ from_le_bytes w64 (take 8 (drop place value))
word_last value place inside short =
    let left : length (drop place value) ≡ length value - place = length-drop place value in
    let whole = take_all (length value - place) (drop place value) (omega arith) in
    let same = ap length whole in
    ap (from_le_bytes w64) (whole ∙ sym (take_all 8 (drop place value) (omega arith)))

-- The first so many words of a value were written, and no others.
pub record IsPacking (value : List ℕ) (first k : ℕ) (old new : List ℕ) : Type 0 where
  pub wide : length new ≡ length old
  pub lies : (j : ℕ) → j < k → slice_index new (first + j) ≡ payload_word value j
  pub before : (a : ℕ) → a < first → slice_index new a ≡ slice_index old a
  pub behind : (a : ℕ) → first + k ≤ a → slice_index new a ≡ slice_index old a

pub packs_none : (value : List ℕ) (first : ℕ) (old : List ℕ) → IsPacking value first 0 old old
packs_none value first old = record {
  wide = refl;
  lies = λ j low. absurd (omega arith);
  before = λ a low. refl;
  behind = λ a high. refl;
}

-- a word more
pub packs_more : (value : List ℕ) (first k word : ℕ) (old now new : List ℕ)
    → IsPacking value first k old now → first + k < length old → word ≡ payload_word value k
    → new ≡ slice_set now (first + k) word → IsPacking value first (k + 1) old new
packs_more value first k word old now new so_far within is put =
    let wide = so_far.wide in
    let inside : first + k < length now = omega arith in
    rw put record {
      wide = length-set now (first + k) word ∙ so_far.wide;
      lies = λ j low. elim (cases_eq j k) [
        | inl same ↦ rw same (word_here now (first + k) word inside ∙ is)
        | inr other ↦
            word_else now (first + k) (first + j) word (λ e. other (omega arith))
            ∙ so_far.lies j (omega arith)
      ];
      before = λ a low.
          word_else now (first + k) a word (λ e. omega arith) ∙ so_far.before a low;
      behind = λ a high.
          word_else now (first + k) a word (λ e. omega arith) ∙ so_far.behind a (omega arith);
    }

-- All of them lie there.
pub packed : (value : List ℕ) (first k : ℕ) (old new : List ℕ) → IsPacking value first k old new
    → words_for (length value) ≤ k → Lies new first (payload value)
packed value first k old new all enough j low =
    let long : length (payload value) ≡ words_for (length value) =
    length-map-range_with_len (payload_word value) 0 (words_for (length value)) in
    let near : j < words_for (length value) = omega arith in
    all.lies j (omega arith)
    ∙ sym (get_or-map-range_with_len (payload_word value) 0 (words_for (length value)) j j 0 near
    (omega arith))

-- Five words one after the other.

abbrev pub five : List ℕ → (first a b c d e : ℕ) → List ℕ
five words first a b c d e =
    slice_set (slice_set (slice_set (slice_set (slice_set words (first + 0) a) (first + 1) b)
    (first + 2) c) (first + 3) d) (first + 4) e

module _ (words : List ℕ) (first a b c d e : ℕ) (wide : first + 5 ≤ length words) where
  abbrev w1 : List ℕ
  w1 = slice_set words (first + 0) a

  abbrev w2 : List ℕ
  w2 = slice_set w1 (first + 1) b

  abbrev w3 : List ℕ
  w3 = slice_set w2 (first + 2) c

  abbrev w4 : List ℕ
  w4 = slice_set w3 (first + 3) d

  wide1 : length w1 ≡ length words
  wide1 = length-set words (first + 0) a

  wide2 : length w2 ≡ length words
  wide2 = length-set w1 (first + 1) b ∙ wide1

  wide3 : length w3 ≡ length words
  wide3 = length-set w2 (first + 2) c ∙ wide2

  wide4 : length w4 ≡ length words
  wide4 = length-set w3 (first + 3) d ∙ wide3

  -- no other word changes
  pub five_else : (x : ℕ) → (x ≢ first + 0) → (x ≢ first + 1) → (x ≢ first + 2)
      → (x ≢ first + 3) → (x ≢ first + 4)
      → slice_index (five words first a b c d e) x ≡ slice_index words x
  five_else x n0 n1 n2 n3 n4 =
      word_else w4 (first + 4) x e n4 ∙ (word_else w3 (first + 3) x d n3
      ∙ (word_else w2 (first + 2) x c n2 ∙ (word_else w1 (first + 1) x b n1
      ∙ word_else words (first + 0) x a n0)))

  five_at : (i : ℕ) → i < 5 → slice_index (five words first a b c d e) (first + i)
      ≡ slice_index (a ∷ b ∷ c ∷ d ∷ e ∷ []) i
  five_at zero low =
      word_else w4 (first + 4) (first + 0) e (λ z. omega arith)
      ∙ (word_else w3 (first + 3) (first + 0) d (λ z. omega arith)
      ∙ (word_else w2 (first + 2) (first + 0) c (λ z. omega arith)
      ∙ (word_else w1 (first + 1) (first + 0) b (λ z. omega arith)
      ∙ word_here words (first + 0) a (omega arith))))
  five_at (suc zero) low =
      let long = wide1 in
      word_else w4 (first + 4) (first + 1) e (λ z. omega arith)
      ∙ (word_else w3 (first + 3) (first + 1) d (λ z. omega arith)
      ∙ (word_else w2 (first + 2) (first + 1) c (λ z. omega arith)
      ∙ word_here w1 (first + 1) b (omega arith)))
  five_at (suc (suc zero)) low =
      let long = wide2 in
      word_else w4 (first + 4) (first + 2) e (λ z. omega arith)
      ∙ (word_else w3 (first + 3) (first + 2) d (λ z. omega arith)
      ∙ word_here w2 (first + 2) c (omega arith))
  five_at (suc (suc (suc zero))) low =
      let long = wide3 in
      word_else w4 (first + 4) (first + 3) e (λ z. omega arith)
      ∙ word_here w3 (first + 3) d (omega arith)
  five_at (suc (suc (suc (suc zero)))) low =
      let long = wide4 in
      word_here w4 (first + 4) e (omega arith)
  five_at (suc (suc (suc (suc (suc i))))) low = absurd (omega arith)

-- The data words of an entry: five, and those of its value behind them.
module _ (words new : List ℕ) (first number len : ℕ) (e : ImageEntry)
    (wide : first + 5 ≤ length words) (long : len ≡ length e.value.items)
    (front : (x : ℕ) → x < first + 5 → slice_index new x
    ≡ slice_index (five words first e.key.w0 e.key.w1 e.charge number len) x) where
  -- they lie there
  pub data_lies : Lies new (first + 5) (payload e.value.items)
      → Lies new first (made_words 0 (made_of_entry number e))
  data_lies rest k low = by k low
    where
      head : (i : ℕ) → i < 5 → slice_index new (first + i)
          ≡ slice_index (e.key.w0 ∷ e.key.w1 ∷ e.charge ∷ number ∷ len ∷ []) i
      head i near = front (first + i) (omega arith)
          ∙ five_at words first e.key.w0 e.key.w1 e.charge number len wide i near

      by : (k : ℕ) → k < length (made_words 0 (made_of_entry number e))
          → slice_index new (first + k)
          ≡ slice_index (made_words 0 (made_of_entry number e)) k
      by zero low = head 0 (omega arith)
      by (suc zero) low = head 1 (omega arith)
      by (suc (suc zero)) low = head 2 (omega arith)
      by (suc (suc (suc zero))) low =
          head 3 (omega arith) ∙ (let g : number ≡ stamp_word 0 number = omega arith in g)
      by (suc (suc (suc (suc zero)))) low = head 4 (omega arith) ∙ long
      by (suc (suc (suc (suc (suc k))))) low =
          ap (slice_index new)
          (let g : first + suc (suc (suc (suc (suc k)))) ≡ first + 5 + k = omega arith in g)
          ∙ rest k (omega arith)

  -- what stands before them stays
  pub data_before : (x : ℕ) → x < first → slice_index new x ≡ slice_index words x
  data_before x low =
      front x (omega arith)
      ∙ five_else words first e.key.w0 e.key.w1 e.charge number len wide x (λ z. omega arith)
      (λ z. omega arith) (λ z. omega arith) (λ z. omega arith) (λ z. omega arith)

  -- and so does what stands behind them
  pub data_behind : (end x : ℕ) → first + 5 ≤ end → end ≤ x
      → slice_index new x
      ≡ slice_index (five words first e.key.w0 e.key.w1 e.charge number len) x
      → slice_index new x ≡ slice_index words x
  data_behind end x enough high same =
      same
      ∙ five_else words first e.key.w0 e.key.w1 e.charge number len wide x (λ z. omega arith)
      (λ z. omega arith) (λ z. omega arith) (λ z. omega arith) (λ z. omega arith)

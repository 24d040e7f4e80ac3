-- A number is read exactly where the word is that number's decimal form.
use Rattle.std.proofs.Common.{◌≡◌, ℕ, ◌+◌, zero, suc, ◌-◌, ◌*◌, ◌^◌, ◌<◌, ◌≤◌, ◌==◌, ◌⊎◌, inl, inr}
use Rattle.std.proofs.Common.{true, nat_lt, List, [], ◌∷◌, Result, Ok, Err, IfOk, length, get_or}
use Rattle.std.proofs.Common.{refl, sym, ap, ◌∙◌, arith, rules, decimal, tests}
use Rattle.std.specs.Char.{is_ascii_digit}
use Rattle.std.specs.Str.{all_ascii_digits}
use Rattle.std.proofs.lemmas.Bool.{cases_Bool}
use Rattle.std.proofs.lemmas.Str.Parse.{IsNumeralModel, numerals_by_fold}
use Rattle.std.proofs.lemmas.Fmt.{decimal-digits_value, digits_decimal, digits_value-decimal}
use Rattle.std.proofs.lemmas.Fmt.{first_decimal, decimal_digit, decimal_nonempty}
use Rattle.hcc_player.specs.declared.fault.TextFault.{TextFault}
use Rattle.hcc_player.specs.declared.fault.TextFault.TheVariants.{BadNumber}
use Rattle.hcc_player.specs.Number.{digit_onto, digits_from, number_of}

-- the number with these digits behind it, however large
abbrev read_on : ℕ → List ℕ → ℕ
read_on n [] = n
read_on n (c ∷ cs) = read_on (10 * n + (c - 48)) cs

own : IsNumeralModel (λ ds. all_ascii_digits ds ≡ true) (read_on 0)
own = numerals_by_fold _ (search rules) read_on (search rules)

-- a digit that was read
record IsRead (n b : ℕ) : Type 0 where
  more : digit_onto n b ≡ Ok (10 * n + (b - 48))
  digit : is_ascii_digit b ≡ true
  fits : 10 * n + (b - 48) < 2 ^ 64

digit_cases : (n b : ℕ) → IsRead n b ⊎ (digit_onto n b ≡ Err BadNumber)
unfolding digit_onto
digit_cases n b =
    elim (cases_Bool (is_ascii_digit b)) [
      | inl d ↦ elim (cases_Bool (nat_lt (10 * n + (b - 48)) (2 ^ 64))) [
        | inl f ↦ inl (record { more = rw (d, f) refl; digit = d; fits = search (rules, tests) })
        | inr f ↦ inr (rw (d, f) refl)
      ]
      | inr d ↦ inr (rw d refl)
    ]

-- digits that were read
record AreRead (n : ℕ) (ds : List ℕ) (m : ℕ) : Type 0 where
  digits : all_ascii_digits ds ≡ true
  value : read_on n ds ≡ m
  fits : m < 2 ^ 64

digits_read : (n : ℕ) (ds : List ℕ) (m : ℕ) → n < 2 ^ 64 → digits_from n ds ≡ Ok m → AreRead n ds m
digits_read n [] m small e = let same : n ≡ m = cc in
    record { digits = refl; value = same; fits = rw (← same) small }
digits_read n (b ∷ bs) m small e =
    elim (digit_cases n b) [
      | inl d ↦
          let rest = rw d.more at e in
          let r = digits_read (10 * n + (b - 48)) bs m d.fits rest in
          record { digits = rw d.digit r.digits; value = r.value; fits = r.fits }
      | inr bad ↦ let no = rw bad at e in cc
    ]

read_on_above : (n : ℕ) (ds : List ℕ) → n ≤ read_on n ds
read_on_above n [] = omega arith
read_on_above n (b ∷ bs) = let above = read_on_above (10 * n + (b - 48)) bs in omega arith

digit_goes : (n b : ℕ) → is_ascii_digit b ≡ true → 10 * n + (b - 48) < 2 ^ 64
    → digit_onto n b ≡ Ok (10 * n + (b - 48))
unfolding digit_onto
digit_goes n b d fits =
    let low : nat_lt (10 * n + (b - 48)) (2 ^ 64) ≡ true = search (rules, tests) in
    rw (d, low) refl

-- digits of a number that fits are read
reads_digits : (n : ℕ) (ds : List ℕ) → all_ascii_digits ds ≡ true → read_on n ds < 2 ^ 64
    → digits_from n ds ≡ Ok (read_on n ds)
reads_digits n [] digits fits = refl
reads_digits n (b ∷ bs) digits fits =
    elim (cases_Bool (is_ascii_digit b)) [
      | inl d ↦
          let rest = rw d at digits in
          let above = read_on_above (10 * n + (b - 48)) bs in
          rw (digit_goes n b d (omega arith)) (reads_digits (10 * n + (b - 48)) bs rest fits)
      | inr d ↦ let no = rw d at digits in cc
    ]

by_digits : (ds : List ℕ) (n : ℕ) → AreRead 0 ds n → 0 < length ds
    → (get_or ds 0 0 ≡ 48 → length ds ≡ 1) → ds ≡ decimal n
by_digits ds n r some lead =
    let whole = decimal-digits_value own ds r.digits some lead (rw r.value r.fits) in
    sym (rw r.value at whole)

-- what was read is the number's decimal form
pub reads_decimal : (word : List ℕ) (n : ℕ) → number_of word ≡ Ok n → word ≡ decimal n
unfolding number_of
reads_decimal [] n e = cc
reads_decimal (b ∷ []) n e =
    by_digits (b ∷ []) n (digits_read 0 (b ∷ []) n (omega arith) e) (omega arith) (λ h. refl)
reads_decimal (b ∷ c ∷ bs) n e =
    elim (cases_Bool (b == 48)) [
      | inl nought ↦ let no = rw nought at e in cc
      | inr lead ↦
          let go = rw lead at e in
          by_digits (b ∷ c ∷ bs) n (digits_read 0 (b ∷ c ∷ bs) n (omega arith) go) (omega arith)
          (λ h. absurd (search (rules, tests)))
    ]

takes_digits : (n : ℕ) (word : List ℕ) → n < 2 ^ 64 → word ≡ decimal n → digits_from 0 word ≡ Ok n
takes_digits n word small e =
    let digits : all_ascii_digits word ≡ true = rw e (digits_decimal own n small) in
    let value : read_on 0 word ≡ n = rw e (digits_value-decimal own n small) in
    reads_digits 0 word digits (rw value small) ∙ ap Ok value

-- a longer decimal form doesn't begin with 0
no_lead : (n b c : ℕ) (bs : List ℕ) → n < 2 ^ 64 → b ∷ c ∷ bs ≡ decimal n → b ≡ 48 → ⊥
no_lead zero b c bs small e h =
    let one : b ∷ c ∷ bs ≡ 48 ∷ [] = e ∙ decimal_digit 0 (omega arith) in cc
no_lead (suc n) b c bs small e h =
    let first = first_decimal (suc n) (omega arith) small in
    let same : b ≡ get_or (decimal (suc n)) 0 0 = ap (λ (l : List ℕ). get_or l 0 0) e in
    absurd (omega arith)

-- a number's decimal form is read
pub takes_decimal : (n : ℕ) (word : List ℕ) → n < 2 ^ 64 → word ≡ decimal n → number_of word ≡ Ok n
unfolding number_of
takes_decimal n [] small e =
    let some : 0 < length (decimal n) = decimal_nonempty n small in
    let none : length (decimal n) ≡ 0 = ap length (sym e) in
    absurd (omega arith)
takes_decimal n (b ∷ []) small e = takes_digits n (b ∷ []) small e
takes_decimal n (b ∷ c ∷ bs) small e =
    elim (cases_Bool (b == 48)) [
      | inl nought ↦ absurd (no_lead n b c bs small e (search (rules, tests)))
      | inr lead ↦ rw lead (takes_digits n (b ∷ c ∷ bs) small e)
    ]

-- what a reader of numbers answers
pub read_law : (word : List ℕ) (result : Result ℕ TextFault) → result ≡ number_of word
    → IfOk result (λ n. word ≡ decimal n)
read_law word (Ok n) e = reads_decimal word n (sym e)
read_law word (Err fault) e = tt

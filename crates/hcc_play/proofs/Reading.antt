-- What is read of an option is the number that its text writes.
use Rattle.std.proofs.Common.{◌≡◌, ◌&&◌, ◌<◌, ◌^◌, ap, refl, sym, ℕ, Bool, true, false, [], ◌∷◌}
use Rattle.std.proofs.Common.{length, nat_lt, Option, Some, None, Result, Ok, Err, lt-ltb, ltb-true}
use Rattle.std.proofs.Common.{codes}
use Rattle.std.specs.Char.{digit_value}
use Rattle.std.specs.List.{list_all}
use Rattle.std.specs.Option.{option_map_or}
use Rattle.std.specs.Prelude.{option_and_then, unwrap_or}
use Rattle.std.specs.Str.{bytes_eq}
use Rattle.std.specs.Str.Parse.{AllDigits, IsNumeral, ParsesBool, ParsesUnsigned, digits_value}
use Rattle.std.specs.Str.Parse.{without_leading_plus}
use Rattle.std.proofs.lemmas.Slice.Eq.{bytes_eq-Decides}
use Rattle.clap.proofs.WalkLemmas.{both}
use Rattle.clap.specs.ValueTests.{is_numeral}
use Rattle.clap.specs.Words.{ReadsOne, Text}
use Rattle.hcc_play.specs.Values.{digits_number, number_of}

digits_pass : (ds : Text) → AllDigits 10 ds → list_all (λ d. nat_lt (digit_value d) 10) ds ≡ true
digits_pass [] h = refl
digits_pass (d ∷ ds) h = rw (lt-ltb (digit_value d) 10 h.0) (digits_pass ds h.1)

digits_from : (ds : Text) → list_all (λ d. nat_lt (digit_value d) 10) ds ≡ true → AllDigits 10 ds
digits_from [] e = tt
digits_from (d ∷ ds) e =
    let parts = both _ _ e in
    (ltb-true _ _ parts.0, digits_from ds parts.1)

numeral_passes : (ds : Text) → IsNumeral 10 ds → is_numeral ds ≡ true
numeral_passes ds h = rw (lt-ltb 0 (length ds) h.0, digits_pass ds h.1) refl

numeral_from : (ds : Text) → is_numeral ds ≡ true → IsNumeral 10 ds
numeral_from ds e =
    let parts = both _ _ e in
    (ltb-true _ _ parts.0, digits_from ds parts.1)

module _ (bits : ℕ) (ds : Text) where
  number_is : (n : ℕ) → IsNumeral 10 ds → digits_value 10 ds < 2 ^ bits → n ≡ digits_value 10 ds
      → Some n ≡ digits_number bits ds
  number_is n numeral fits is =
      rw (numeral_passes ds numeral, lt-ltb (digits_value 10 ds) (2 ^ bits) fits) (ap Some is)

  none_is : (IsNumeral 10 ds × (digits_value 10 ds < 2 ^ bits) → ⊥) → None ≡ digits_number bits ds
  none_is never = go (is_numeral ds && nat_lt (digits_value 10 ds) (2 ^ bits)) refl
    where
      go : (b : Bool) → (is_numeral ds && nat_lt (digits_value 10 ds) (2 ^ bits)) ≡ b
          → None ≡ digits_number bits ds
      go false e = rw e refl
      go true e =
          let parts = both _ _ e in
          absurd (never (numeral_from ds parts.0, ltb-true _ _ parts.1))

module _ {E : Type 0} (bits : ℕ) (gives : Text → Result ℕ E → Type 0)
    (parses : (t : Text) (r : Result ℕ E) → gives t r → ParsesUnsigned bits 10 t r) where
  pub number_read : (text : Option Text) (result : Option ℕ) → (text ≡ None → result ≡ None)
      → ((t : Text) → text ≡ Some t → ReadsOne gives t result)
      → result ≡ option_and_then (number_of bits) text
  number_read None result none value = none refl
  number_read (Some t) (Some n) none value =
      let parsed = parses t (Ok n) (value t refl) in
      number_is bits (without_leading_plus t) n parsed.0.0 parsed.0.1 parsed.1
  number_read (Some t) None none value =
      let failed = value t refl in
      none_is bits (without_leading_plus t) (parses t (Err failed.0) failed.1)

is_other : (a b : Text) → (a ≡ b → ⊥) → false ≡ bytes_eq a b
is_other a b never = go (bytes_eq a b) refl
  where
    go : (t : Bool) → bytes_eq a b ≡ t → false ≡ bytes_eq a b
    go false e = sym e
    go true e = absurd (never ((bytes_eq-Decides a b).0 e))

abbrev is_set : Text → Bool
is_set t = bytes_eq t (codes "true")

module _ (E : Type 0) where
  pub flag_read : (text : Option Text) (result : Option Bool) → (text ≡ None → result ≡ None)
      → ((t : Text) → text ≡ Some t → ReadsOne {E = E} ParsesBool t result)
      → unwrap_or result false ≡ option_map_or (λ t. bytes_eq t (codes "true")) text false
  flag_read None result none value = ap (λ (r : Option Bool). unwrap_or r false) (none refl)
  flag_read (Some t) (Some true) none value = ap is_set (sym (value t refl))
  flag_read (Some t) (Some false) none value = ap is_set (sym (value t refl))
  flag_read (Some t) None none value = is_other t (codes "true") (value t refl).1.0

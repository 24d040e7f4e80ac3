-- Words that are numbers.
use Rattle.std.specs.Prelude.{ℕ, ◌+◌, ◌-◌, ◌*◌, ◌^◌, ◌&&◌, ◌==◌, nat_lt, List, [], ◌∷◌, Option}
use Rattle.std.specs.Prelude.{Some, None, Result, Ok, Err, codes, if◌then◌else◌}
use Rattle.std.specs.Char.{is_ascii_digit}
use Rattle.std.specs.Str.{bytes_eq}
use Rattle.hcc_player.specs.declared.fault.TextFault.{TextFault}
use Rattle.hcc_player.specs.declared.fault.TextFault.TheVariants.{BadNumber, OutOfRange}

-- What was read goes on to the next part; a fault ends the reading.
infixl 10 ◌>>=◌
abbrev pub ◌>>=◌ : {A B : Type 0} → Result A TextFault → (A → Result B TextFault)
    → Result B TextFault
(Ok x) >>= next = next x
(Err fault) >>= next = Err fault

-- the number with one more digit behind it
unfoldable pub digit_onto : ℕ → ℕ → Result ℕ TextFault
digit_onto number byte =
    if is_ascii_digit byte && nat_lt (10 * number + (byte - 48)) (2 ^ 64)
    then Ok (10 * number + (byte - 48))
    else Err BadNumber

-- the number with these digits behind it
abbrev pub digits_from : ℕ → List ℕ → Result ℕ TextFault
digits_from number [] = Ok number
digits_from number (byte ∷ bytes) = do
  more ← digit_onto number byte
  digits_from more bytes

-- a number below 2^64 in decimal digits, without a leading zero
unfoldable pub number_of : List ℕ → Result ℕ TextFault
number_of [] = Err BadNumber
number_of (byte ∷ []) = digits_from 0 (byte ∷ [])
number_of (byte ∷ next ∷ bytes) =
    if byte == 48 then Err BadNumber else digits_from 0 (byte ∷ next ∷ bytes)

-- a number below this one
unfoldable pub number_below : ℕ → List ℕ → Result ℕ TextFault
number_below end word = do
  number ← number_of word
  if nat_lt number end then Ok number else Err OutOfRange

-- a number below 2^32
abbrev pub small_number_of : List ℕ → Result ℕ TextFault
small_number_of word = number_below (2 ^ 32) word

-- a number from 1 to 2^32 - 1
unfoldable pub charge_of : List ℕ → Result ℕ TextFault
charge_of word = do
  charge ← small_number_of word
  if charge == 0 then Err OutOfRange else Ok charge

-- the name of a reference, or a dash for none
unfoldable pub name_of : List ℕ → Result (Option ℕ) TextFault
name_of word = if bytes_eq word (codes "-") then Ok None else (do
  name ← number_of word
  Ok (Some name))

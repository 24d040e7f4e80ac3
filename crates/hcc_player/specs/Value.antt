-- Words that are values: bytes in hexadecimal digits.
use Rattle.std.specs.Prelude.{◌≡◌, ℕ, ◌+◌, ◌-◌, ◌*◌, ◌&&◌, ◌==◌, nat_le, nat_lt, List, [], ◌∷◌}
use Rattle.std.specs.Prelude.{Result, Ok, Err, length, codes, if◌then◌else◌}
use Rattle.std.specs.Char.{is_ascii_digit}
use Rattle.std.specs.Str.{bytes_eq}
use Rattle.hcc_player.specs.declared.fault.TextFault.{TextFault}
use Rattle.hcc_player.specs.declared.fault.TextFault.TheVariants.{BadValue, ValueTooLong}
use Rattle.hcc_player.specs.declared.fault.LineError.{LineError}
use Rattle.hcc_player.specs.declared.fault.LineError.TheVariants as errors
use Rattle.hcc_player.specs.Number.{◌>>=◌}

-- the number that a digit 0 to 9 or a to f stands for
unfoldable pub hex_digit : ℕ → Result ℕ TextFault
hex_digit byte =
    if is_ascii_digit byte then Ok (byte - 48)
    else if nat_le 97 byte && nat_le byte 102 then Ok (byte - 97 + 10)
    else Err BadValue

-- the byte of two digits
unfoldable pub byte_of : ℕ → ℕ → Result ℕ TextFault
byte_of high low = do
  sixteens ← hex_digit high
  ones ← hex_digit low
  Ok (16 * sixteens + ones)

-- the bytes of pairs of digits
abbrev pub bytes_of : List ℕ → Result (List ℕ) TextFault
bytes_of [] = Ok []
bytes_of (high ∷ []) = Err BadValue
bytes_of (high ∷ low ∷ digits) = do
  byte ← byte_of high low
  bytes ← bytes_of digits
  Ok (byte ∷ bytes)

-- a value of at most so many bytes, or a dash for no bytes
unfoldable pub value_of : (most : ℕ) → List ℕ → Result (List ℕ) TextFault
value_of most word =
    if bytes_eq word (codes "-") then Ok []
    else if length word == 0 then Err BadValue
    else (do
      bytes ← bytes_of word
      if nat_lt most (length bytes) then Err ValueTooLong else Ok bytes)

-- A reader that failed so: the reading ends in that fault, or memory was refused.
abbrev pub Fails : {X : Type 0} → LineError → Result X TextFault → Type 0
Fails errors.OutOfMemory read = Unit {0}
Fails (errors.Fault fault) read = read ≡ Err fault

-- What a reader returned is what reading gives, unless memory was refused: seen so, or as it is.
abbrev pub GivesAs : {X Y : Type 0} → (X → Y) → Result X LineError → Result Y TextFault → Type 0
GivesAs see (Ok x) read = read ≡ Ok (see x)
GivesAs see (Err error) read = Fails error read

abbrev pub Gives : {X : Type 0} → Result X LineError → Result X TextFault → Type 0
Gives (Ok x) read = read ≡ Ok x
Gives (Err error) read = Fails error read

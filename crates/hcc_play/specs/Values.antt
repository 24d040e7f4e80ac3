-- What the options of a parsed command line give.
use Rattle.std.specs.Prelude.{◌&&◌, ◌^◌, ℕ, Bool, false, List, [], Option, Some, None, codes}
use Rattle.std.specs.Prelude.{if◌then◌else◌, nat_lt, option_and_then, unwrap_or}
use Rattle.std.specs.Option.{option_map_or}
use Rattle.std.specs.Str.{bytes_eq}
use Rattle.std.specs.Str.Parse.{digits_value, without_leading_plus}
use Rattle.clap.specs.ValueTests.{is_numeral}
use Rattle.clap.specs.Words.{Row, Text, all_of, one_of}

-- the number that these digits write, if it has at most so many bits
abbrev pub digits_number : (bits : ℕ) → (digits : Text) → Option ℕ
digits_number bits digits = if is_numeral digits && nat_lt (digits_value 10 digits) (2 ^ bits)
    then Some (digits_value 10 digits) else None

-- the number that a text writes, behind a plus or none
abbrev pub number_of : (bits : ℕ) → Text → Option ℕ
number_of bits text = digits_number bits (without_leading_plus text)

-- The number that an option gives: the one that was named on the line, or else its default.
abbrev pub number_in : (bits : ℕ) → (name : Text) → List Row → Option ℕ
number_in bits name rows = option_and_then (number_of bits) (one_of name rows)

-- whether a flag was given on the line
abbrev pub flag_in : (name : Text) → List Row → Bool
flag_in name rows = option_map_or (λ text. bytes_eq text (codes "true")) (one_of name rows) false

-- the values of an argument that has any number of them
abbrev pub texts_in : (name : Text) → List Row → List Text
texts_in name rows = unwrap_or (all_of name rows) []

-- Lines of words, whatever they say.
use Rattle.std.specs.Prelude.{ℕ, Bool, false, ◌&&◌, ◌||◌, ◌==◌, nat_lt, nat_le, List, [], ◌∷◌}
use Rattle.std.specs.Prelude.{Result, Ok, Err, length, slice_index_or, if◌then◌else◌}
use Rattle.std.specs.List.{list_all, slice_split}
use Rattle.hcc_player.specs.declared.limits.TheConstants.{MOST_LINE}
use Rattle.hcc_player.specs.declared.fault.TextFault.{TextFault}
use Rattle.hcc_player.specs.declared.fault.TextFault.TheVariants.{TooLong, NotAscii, BadWord}
use Rattle.hcc_player.specs.Number.{◌>>=◌}

-- the word of this number, counted from 0
unfoldable pub word_at : List (List ℕ) → ℕ → List ℕ
word_at words index = slice_index_or words index []

-- a line of this many words
abbrev pub of_words : {A : Type 0} → ℕ → List (List ℕ) → Result A TextFault → Result A TextFault
of_words count words line = if length words == count then line else Err BadWord

abbrev pub has_empty_word : List (List ℕ) → Bool
has_empty_word [] = false
has_empty_word (word ∷ words) = (length word == 0) || has_empty_word words

-- the words of a line, cut at each space
abbrev pub words_of : List ℕ → List (List ℕ)
words_of line = slice_split (λ byte. byte == 32) line

-- a space or a visible character
abbrev pub is_plain : ℕ → Bool
is_plain byte = nat_le 32 byte && nat_le byte 126

-- words, none of which is empty
abbrev pub whole_words : List (List ℕ) → Result (List (List ℕ)) TextFault
whole_words words =
    if (length words == 0) || has_empty_word words then Err BadWord else Ok words

-- the words of a line that a line feed ends
unfoldable pub plain_words : List ℕ → Result (List (List ℕ)) TextFault
plain_words line =
    if nat_lt MOST_LINE (length line) then Err TooLong
    else if list_all is_plain line then whole_words (words_of line)
    else Err NotAscii

-- what such a line says, where its words say this
abbrev pub line_of : {A : Type 0} → (List (List ℕ) → Result A TextFault) → List ℕ
    → Result A TextFault
line_of say line = plain_words line >>= say

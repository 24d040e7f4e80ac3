-- The word of an object, and what a slot has of it.
use Rattle.std.proofs.Common.{◌≡◌, ◌∙◌, ℕ, ◌-◌, ◌<◌, List, [], ◌++◌, length, replicate, sym, ap, arith}
use Rattle.std.specs.Int.{from_le_bytes, to_le_bytes}
use Rattle.std.proofs.lemmas.List.{append-nil, take_all}
use mir.Syntax.{w64}
use Rattle.hcc_rule.specs.Views.{Each}
use Rattle.hcc_rule.specs.Words.{payload_word}
use Rattle.hcc_table.proofs.Bytes.{padded_word}
use Rattle.hcc_cache.specs.Objects.{object_bytes, object_of, object_word}

-- the word of the object of a word
pub word_again : (word : ℕ) → object_word (object_of word) ≡ word
word_again word = omega arith

-- Eight bytes are those of the object of their word.
pub bytes_again : (value : List ℕ) (word : ℕ) → length value ≡ 8 → Each (λ b. b < 256) value
    → word ≡ payload_word value 0 → value ≡ object_bytes (object_of word)
bytes_again value word long bytes read =
    let all : from_le_bytes w64 value ≡ word =
    ap (from_le_bytes w64) (sym (take_all 8 value (omega (arith, long)))) ∙ sym read in
    let back = padded_word value (omega (arith, long)) bytes in
    let none : replicate (8 - length value) 0 ≡ [] = ap (λ n. replicate (8 - n) 0) long in
    sym (append-nil value) ∙ sym (ap (λ l. value ++ l) none) ∙ sym back
    ∙ ap (to_le_bytes w64) (all ∙ sym (word_again word))

-- Parts of a value that are copied: bytes of one word, and what stands behind them.
use Rattle.std.proofs.Common.{◌≡◌, ℕ, zero, suc, ◌+◌, ◌-◌, ◌*◌, ◌/◌, ◌%◌, ◌<◌, ◌≤◌, List, [], ◌++◌, Option, Some, None, IfSome, length, min, take, drop, sym, ap, ◌∙◌, arith}
use Rattle.std.proofs.lemmas.List.{append-nil, drop-drop, drop-take, drop_all, length-drop, length-take}
use Rattle.std.specs.Int.{to_le_bytes}
use mir.Syntax.{w64}
use Rattle.hcc_rule.specs.declared.view.Record.{Record}
use Rattle.hcc_rule.specs.Views.{Each}
use Rattle.hcc_rule.specs.Words.{payload_word}
use Rattle.hcc_table.specs.Readings.{part_in, words_across, IsReadable}
use Rattle.hcc_table.proofs.Bytes.{fills, word_bytes}

-- A part has bytes of so many words, and of none where it has no byte.
pub across : (offset count : ℕ)
    → words_across offset count ≡ min count ((offset % 8 + count + 7) / 8)
across offset zero = omega arith
across offset (suc more) = omega arith

-- As many bytes as there are behind an offset are within the value.
pub part_within : (o : Option Record) (whole offset : ℕ) {count : ℕ} → count ≤ whole - offset
    → IfSome o (λ r. whole ≡ length r.entry.value)
    → IfSome o (λ r. count ≤ length r.entry.value - offset)
part_within None whole offset few exact = tt
part_within (Some r) whole offset few exact = omega arith

-- Bytes of a word of a value, from one of them on, are the value's at that offset.
word_part : (value : List ℕ) (k from count : ℕ) → Each (λ b. b < 256) value → from + count ≤ 8
    → 8 * k + (from + count) ≤ length value
    → take count (drop from (to_le_bytes w64 (payload_word value k)))
    ≡ take count (drop (8 * k + from) value)
word_part value k from count small few within =
    sym (drop-take from count (to_le_bytes w64 (payload_word value k)))
    ∙ (ap (drop from) (word_bytes value k (from + count) small few within)
    ∙ (drop-take from count (drop (8 * k) value)
    ∙ ap (take count) (drop-drop from (8 * k) value)))

-- Bytes of one word were put to the front.
pub put_part : (o : Option Record) (room offset : ℕ) {front count : ℕ} (word : ℕ) (old : List ℕ)
    {new : List ℕ}
    → 0 < front → front ≤ count → offset % 8 + front ≤ 8 → IfSome o (λ r. IsReadable room r)
    → IfSome o (λ r. count ≤ length r.entry.value - offset)
    → IfSome o (λ r. 8 * (offset / 8) < length r.entry.value
    → word ≡ payload_word r.entry.value (offset / 8))
    → new ≡ take front (drop (offset % 8) (to_le_bytes w64 word)) ++ drop front old
    → IfSome o (λ r. new ≡ part_in offset front r.entry.value old)
put_part None room offset word old some few short readable within told put = tt
put_part (Some r) room offset {front} word old some few short readable within told put =
    put ∙ ap (λ z. z ++ drop front old) same
  where
    whole : 8 * (offset / 8) + offset % 8 ≡ offset
    whole = omega arith

    inside : 8 * (offset / 8) < length r.entry.value
    inside = omega arith

    same : take front (drop (offset % 8) (to_le_bytes w64 word))
        ≡ take front (drop offset r.entry.value)
    same = ap (λ w. take front (drop (offset % 8) (to_le_bytes w64 w))) (told inside)
        ∙ (word_part r.entry.value (offset / 8) (offset % 8) front readable.bytes short
        (omega arith)
        ∙ ap (λ n. take front (drop n r.entry.value)) whole)

-- The rest of a part was put behind its first bytes, into a part of the buffer that it fills.
pub part_joined : (o : Option Record) (offset front left : ℕ) {count from : ℕ}
    (old begun rest : List ℕ)
    → count ≡ front + left → from ≡ offset + front
    → IfSome o (λ r. count ≤ length r.entry.value - offset)
    → IfSome o (λ r. begun ≡ part_in offset front r.entry.value old)
    → IfSome o (λ r. rest ≡ part_in from left r.entry.value (take left (drop front begun)))
    → IfSome o (λ r. take front begun ++ (rest ++ drop left (drop front begun))
    ≡ part_in offset count r.entry.value old)
part_joined None offset front left old begun rest sum at within was is = tt
part_joined (Some r) offset front left {from = from} old begun rest sum at within was is =
    rw sum (fills ahead old begun (take front begun ++ (rest ++ drop left (drop front begun)))
    front left inside was joined)
  where
    ahead : List ℕ
    ahead = drop offset r.entry.value

    inside : front + left ≤ length ahead
    inside = omega (arith, length-drop offset r.entry.value)

    moved : drop from r.entry.value ≡ drop front ahead
    moved = ap (λ n. drop n r.entry.value) at ∙ sym (drop-drop front offset r.entry.value)

    none : drop left (take left (drop front begun)) ≡ []
    none =
        drop_all left (take left (drop front begun))
        (omega (arith, length-take left (drop front begun)))

    filled : rest ≡ take left (drop front ahead)
    filled = is
        ∙ (ap (λ z. take left (drop from r.entry.value) ++ z) none
        ∙ (append-nil (take left (drop from r.entry.value)) ∙ ap (take left) moved))

    joined : take front begun ++ (rest ++ drop left (drop front begun))
        ≡ take front begun ++ (take left (drop front ahead) ++ drop (front + left) begun)
    joined =
        ap (λ z. take front begun ++ (z ++ drop left (drop front begun))) filled
        ∙ ap (λ z. take front begun ++ (take left (drop front ahead) ++ z))
        (drop-drop left front begun)

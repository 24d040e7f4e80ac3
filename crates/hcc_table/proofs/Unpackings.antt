-- A buffer that fills with a value from words that were loaded before.
use Rattle.std.proofs.Common.{◌≡◌, ℕ, ◌+◌, ◌*◌, ◌<◌, ◌≤◌, List, ◌++◌, length, take, drop, slice_index, sym, ap, ◌∙◌, arith}
use Rattle.std.proofs.Math.Seq.{take-length}
use Rattle.std.specs.Int.{to_le_bytes}
use mir.Syntax.{w64}
use Rattle.hcc_rule.specs.Views.{Each}
use Rattle.hcc_table.specs.Readings.{HasWords}
use Rattle.hcc_table.proofs.Bytes.{fills, word_bytes}

-- The first so many bytes are there, of each value that has these words.
abbrev pub IsUnpacked : (words : List ℕ) → (count upto : ℕ) → (old buffer : List ℕ) → Type 0
IsUnpacked words count upto old buffer =
    (value : List ℕ) → count ≡ length value → Each (λ b. b < 256) value → HasWords words value
    → buffer ≡ take upto value ++ drop upto old

-- Those of one word more are there, once they were put behind the first.
pub unpacks : (words : List ℕ) {count : ℕ} (k few : ℕ) {upto : ℕ} (old : List ℕ) {buffer new : List
    ℕ} → 0 < few
    → few ≤ 8 → upto ≡ 8 * k + few → upto ≤ count → IsUnpacked words count (8 * k) old buffer
    → new ≡ take (8 * k) buffer
    ++ (take few (to_le_bytes w64 (slice_index words k)) ++ drop (8 * k + few) buffer)
    → IsUnpacked words count upto old new
unpacks words k few old {buffer} {new} some most is within so_far put value long small has =
    fills value old buffer new (8 * k) few inside (so_far value long small has)
    (put ∙ ap (λ z. take (8 * k) buffer ++ (z ++ drop (8 * k + few) buffer)) same)
    ∙ ap (λ n. take n value ++ drop n old) (sym is)
  where
    inside : 8 * k + few ≤ length value
    inside = omega arith

    same : take few (to_le_bytes w64 (slice_index words k)) ≡ take few (drop (8 * k) value)
    same = ap (λ w. take few (to_le_bytes w64 w)) (has k (omega arith))
        ∙ word_bytes value k few small most inside

-- All of the value is there, before what stood behind.
pub all_unpacked : (words : List ℕ) {count upto : ℕ} (old : List ℕ) {buffer : List ℕ}
    (value : List ℕ) → upto ≡ count
    → count ≡ length value → Each (λ b. b < 256) value → HasWords words value
    → IsUnpacked words count upto old buffer → buffer ≡ value ++ drop count old
all_unpacked words {count} old value is long small has there =
    there value long small has
    ∙ (ap (λ n. take n value ++ drop n old) is
    ∙ (ap (λ n. take n value ++ drop count old) long
    ∙ ap (λ z. z ++ drop count old) (take-length value)))

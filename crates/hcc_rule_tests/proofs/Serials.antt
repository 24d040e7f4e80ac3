-- The serials of the entries that a client showed, and of the next one.
use Rattle.std.proofs.Common.{◌≡◌, ℕ, ◌+◌, ◌<◌, ◌++◌, List, [], ◌∷◌, slice_index, sym, ap, ◌∙◌, arith}
use Rattle.hcc_core.specs.declared.limits.TheConstants.{STAMPS_PER_CLIENT}
use Rattle.hcc_rule.specs.declared.layout.TheConstants.{STAMP}
use Rattle.hcc_rule.specs.declared.view.Made.{Made}
use Rattle.hcc_rule.specs.declared.view.View.{View}
use Rattle.hcc_rule.specs.Rule.{IsAbove, IsNextStamp}
use Rattle.hcc_rule.specs.Words.{made_words, stamp_word}

-- The next serial is above those of all entries once one was shown under this one.
pub above_more : (serial : ℕ) (book : List Made) (made : Made) → made.serial ≡ serial
    → IsAbove serial book → IsAbove (serial + 1) (book ++ made ∷ [])
above_more serial [] made under above = (omega arith, tt)
above_more serial (m ∷ ms) made under above =
    let low = above.0 in
    (omega arith, above_more serial ms made under above.1)

-- The stamp word of an entry under such a serial comes next.
pub next_stamp : {T : Type 0} (words : List ℕ) (client : ℕ) (made : Made) (v : View T)
    → words ≡ made_words client made → v.client ≡ client → made.serial < STAMPS_PER_CLIENT
    → IsAbove made.serial v.made → IsNextStamp (slice_index words STAMP) v
next_stamp words client made v written own low above = (
  made.serial,
  ap (λ ws. slice_index ws STAMP) written ∙ ap (λ c. stamp_word c made.serial) (sym own),
  low,
  above,
)

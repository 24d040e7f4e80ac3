-- What the first line of a good text says, and what the others say.
use Rattle.std.proofs.Common.{◌≡◌, ℕ, ◌+◌, List, [], ◌∷◌, Option, Some, None, Result, Ok, Err, IsOk}
use Rattle.std.proofs.Common.{refl, sym, ◌∙◌}
use Rattle.hcc_player.specs.declared.fault.ScriptFault.{ScriptFault}
use Rattle.hcc_player.specs.declared.fault.TextFault.{TextFault}
use Rattle.hcc_player.specs.Script.{lines_of, script_from, then_lines, ends_with, last_fault}
use Rattle.hcc_player.proofs.LineLemmas.{script_line, script_end}

-- what a text without a fault says
pub said_of : {A : Type 0} (read : Result (List A) ScriptFault) → IsOk read
    → (all : List A) × (read ≡ Ok all)
said_of (Ok all) fine = (all, refl)
said_of (Err fault) fine = cc

module _ {A : Type 0} (says : List ℕ → Result A TextFault) where
  -- what the first line says, and the others
  pub record Splits (line : List ℕ) (n : ℕ) (rest : List ℕ) (all : List A) : Type 0 where
    pub said : A
    pub more : List A
    pub first : says line ≡ Ok said
    pub others : script_from says n (lines_of rest) ≡ Ok more
    pub all_is : all ≡ said ∷ more

  split_read : (line : List ℕ) (n : ℕ) (rest : List ℕ) (all : List A)
      (here : Result A TextFault) (others : Result (List A) ScriptFault) (m : ℕ)
      → says line ≡ here → script_from says n (lines_of rest) ≡ others
      → then_lines m here others ≡ Ok all → Splits line n rest all
  split_read line n rest all (Ok said) (Ok more) m h o e =
      record { said = said; more = more; first = h; others = o; all_is = cc }
  split_read line n rest all (Ok said) (Err fault) m h o e = cc
  split_read line n rest all (Err fault) others m h o e = cc

  -- a good text whose first line a line feed ends
  pub splits : (n : ℕ) (text line rest : List ℕ) (all : List A)
      → lines_of text ≡ line ∷ lines_of rest → script_from says n (lines_of text) ≡ Ok all
      → Splits line (n + 1) rest all
  splits n text line rest all cut read =
      split_read line (n + 1) rest all (says line) (script_from says (n + 1) (lines_of rest))
      n refl refl
      (sym (script_line says n text line rest cut) ∙ read)

  ends_read : (n : ℕ) (fault : Option TextFault) (all : List A)
      → ends_with n fault ≡ Ok all → all ≡ []
  ends_read n None all e = cc
  ends_read n (Some fault) all e = cc

  -- a good text without a line feed says nothing
  pub ends : (n : ℕ) (text : List ℕ) (all : List A) → lines_of text ≡ text ∷ []
      → script_from says n (lines_of text) ≡ Ok all → all ≡ []
  ends n text all whole read =
      ends_read n (last_fault text) all (sym (script_end says n text whole) ∙ read)

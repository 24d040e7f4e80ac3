-- Texts of lines: what their lines say by a grammar, or their first fault.
use Rattle.std.specs.Prelude.{◌≡◌, ℕ, ◌+◌, ◌==◌, nat_lt, List, [], ◌∷◌, ◌++◌, Option, Some, None}
use Rattle.std.specs.Prelude.{Result, Ok, Err, IsOk, length, if◌then◌else◌}
use Rattle.std.specs.List.{All, slice_split}
use Rattle.hcc_player.specs.declared.limits.TheConstants.{MOST_LINE}
use Rattle.hcc_player.specs.declared.fault.TextFault.{TextFault}
use Rattle.hcc_player.specs.declared.fault.TextFault.TheVariants.{TooLong, Unended}
use Rattle.hcc_player.specs.declared.fault.LineError.{LineError}
use Rattle.hcc_player.specs.declared.fault.LineError.TheVariants as errors
use Rattle.hcc_player.specs.declared.fault.ScriptFault.{ScriptFault}
use Rattle.hcc_player.specs.declared.fault.ScriptError.{ScriptError}
use Rattle.hcc_player.specs.declared.fault.ScriptError.TheVariants as scripts

-- The lines of a text, cut at each line feed. The last is what stands behind the last line feed.
abbrev pub lines_of : List ℕ → List (List ℕ)
lines_of text = slice_split (λ byte. byte == 10) text

-- what is wrong with what stands behind the last line feed
abbrev pub last_fault : List ℕ → Option TextFault
last_fault line =
    if length line == 0 then None
    else if nat_lt MOST_LINE (length line) then Some TooLong
    else Some Unended

-- A judge that failed so: that is the text's first fault, or memory was refused.
abbrev pub ScriptFails : {X : Type 0} → ScriptError → Result X ScriptFault → Type 0
ScriptFails scripts.OutOfMemory read = Unit {0}
ScriptFails (scripts.Fault fault) read = read ≡ Err fault

-- what failed in the line of this number
abbrev pub told_in : ℕ → LineError → ScriptError
told_in n (errors.Fault fault) = scripts.Fault (record { line = n; fault = fault })
told_in n errors.OutOfMemory = scripts.OutOfMemory

module _ {A : Type 0} where
  abbrev pub ends_with : ℕ → Option TextFault → Result (List A) ScriptFault
  ends_with n None = Ok []
  ends_with n (Some fault) = Err (record { line = n; fault = fault })

  -- what these lines say, and then what the rest say
  abbrev pub with_front : List A → Result (List A) ScriptFault → Result (List A) ScriptFault
  with_front front (Ok said) = Ok (front ++ said)
  with_front front (Err fault) = Err fault

  -- what the line of this number says, and then what the rest say
  abbrev pub then_lines : ℕ → Result A TextFault → Result (List A) ScriptFault
      → Result (List A) ScriptFault
  then_lines n (Ok said) rest = with_front (said ∷ []) rest
  then_lines n (Err fault) rest = Err (record { line = n; fault = fault })

  -- Of a grammar: what a line says that a line feed ends.
  module _ (says : List ℕ → Result A TextFault) where
    -- what lines say from this number on, of which the last has no line feed
    abbrev pub script_from : ℕ → List (List ℕ) → Result (List A) ScriptFault
    script_from n [] = Ok []
    script_from n (line ∷ []) = ends_with n (last_fault line)
    script_from n (line ∷ next ∷ more) =
        then_lines n (says line) (script_from (n + 1) (next ∷ more))

    -- What the lines of a text say, or its first fault with the number of its line, from 1.
    unfoldable pub script_of : List ℕ → Result (List A) ScriptFault
    script_of text = script_from 1 (lines_of text)

    -- what is wrong with a line that stands before these others: only the last has no line feed
    abbrev pub IsWrong : List ℕ → List (List ℕ) → TextFault → Type 0
    IsWrong line [] fault = last_fault line ≡ Some fault
    IsWrong line (next ∷ more) fault = says line ≡ Err fault

    -- Of lines from number n on, the first at fault: each line before it says something.
    pub record FirstFault (n : ℕ) (lines : List (List ℕ)) (line : ℕ) (fault : TextFault)
        : Type 0 where
      pub before : List (List ℕ)
      pub here : List ℕ
      pub behind : List (List ℕ)
      pub cut : lines ≡ before ++ here ∷ behind
      pub number : line ≡ n + length before
      pub fine : All (λ l. IsOk (says l)) before
      pub wrong : IsWrong here behind fault

    -- Each line says something, and nothing stands behind the last line feed.
    pub record AllSay (lines : List (List ℕ)) : Type 0 where
      pub ended : List (List ℕ)
      pub cut : lines ≡ ended ++ [] ∷ []
      pub fine : All (λ l. IsOk (says l)) ended

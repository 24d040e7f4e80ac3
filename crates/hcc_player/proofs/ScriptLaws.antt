-- What a text is refused by is the fault of its first line at fault; each line of a good text says
-- something.
use Rattle.std.proofs.Common.{◌≡◌, ℕ, ◌+◌, zero, suc, List, [], ◌∷◌, Option, Some, None, Result, Ok}
use Rattle.std.proofs.Common.{Err, IsOk, inl, inr, false, ◌==◌, nat_lt, length, refl, sym, ap, ◌∙◌}
use Rattle.std.proofs.Common.{arith, rules, tests}
use Rattle.std.specs.List.{All}
use Rattle.hcc_player.specs.declared.fault.ScriptFault.{ScriptFault}
use Rattle.hcc_player.specs.declared.fault.TextFault.{TextFault}
use Rattle.hcc_player.specs.Script.{lines_of, script_of, script_from, ends_with, then_lines}
use Rattle.hcc_player.specs.Script.{last_fault, FirstFault, AllSay}
use Rattle.hcc_player.specs.declared.limits.TheConstants.{MOST_LINE}
use Rattle.std.proofs.lemmas.Bool.{cases_Bool}
use Rattle.hcc_player.proofs.LineLemmas.{some_line}
use Rattle.hcc_player.proofs.Splits.{said_of}

abbrev fault_at : ℕ → TextFault → ScriptFault
fault_at line fault = record { line = line; fault = fault }

-- what holds of the first line and of each other holds of each
all_more : (P : List ℕ → Type 0) (line : List ℕ) (lines : List (List ℕ)) → P line → All P lines
    → All P (line ∷ lines)
all_more P line lines here others zero d within = here
all_more P line lines here others (suc k) d within = others k d (omega arith)

module _ {A : Type 0} (says : List ℕ → Result A TextFault) where
  -- a line that says something stands before the fault
  goes_before : (n : ℕ) (line : List ℕ) (lines : List (List ℕ)) (at : ℕ) (fault : TextFault)
      → IsOk (says line) → FirstFault says (n + 1) lines at fault
      → FirstFault says n (line ∷ lines) at fault
  goes_before n line lines at fault fine rest =
      let number = rest.number in
      record {
        before = line ∷ rest.before;
        here = rest.here;
        behind = rest.behind;
        cut = ap (λ ls. line ∷ ls) rest.cut;
        number = omega arith;
        fine = all_more (λ l. IsOk (says l)) line rest.before fine rest.fine;
        wrong = rest.wrong;
      }

  last_at_fault : (n : ℕ) (line : List ℕ) (told : Option TextFault) (at : ℕ) (fault : TextFault)
      → last_fault line ≡ told → ends_with {A = A} n told ≡ Err (fault_at at fault)
      → FirstFault says n (line ∷ []) at fault
  last_at_fault n line None at fault here e = cc
  last_at_fault n line (Some f) at fault here e =
      let same : fault_at n f ≡ fault_at at fault = cc in
      let number : n ≡ at = ap (λ (s : ScriptFault). s.line) same in
      record {
        before = [];
        here = line;
        behind = [];
        cut = refl;
        number = omega arith;
        fine = λ k d within. absurd (omega arith);
        wrong = here ∙ ap (λ (s : ScriptFault). Some s.fault) same;
      }

  line_at_fault : (n : ℕ) (line next : List ℕ) (more : List (List ℕ)) (told : Result A TextFault)
      (rest : Result (List A) ScriptFault) (at : ℕ) (fault : TextFault)
      → says line ≡ told → script_from says (n + 1) (next ∷ more) ≡ rest
      → (script_from says (n + 1) (next ∷ more) ≡ Err (fault_at at fault)
      → FirstFault says (n + 1) (next ∷ more) at fault)
      → then_lines n told rest ≡ Err (fault_at at fault)
      → FirstFault says n (line ∷ next ∷ more) at fault
  line_at_fault n line next more (Ok said) (Ok items) at fault here behind later e = cc
  line_at_fault n line next more (Ok said) (Err f) at fault here behind later e =
      goes_before n line (next ∷ more) at fault (rw here refl) (later (behind ∙ e))
  line_at_fault n line next more (Err f) rest at fault here behind later e =
      let same : fault_at n f ≡ fault_at at fault = cc in
      let number : n ≡ at = ap (λ (s : ScriptFault). s.line) same in
      record {
        before = [];
        here = line;
        behind = next ∷ more;
        cut = refl;
        number = omega arith;
        fine = λ k d within. absurd (omega arith);
        wrong = here ∙ ap (λ (s : ScriptFault). Err s.fault) same;
      }

  -- of lines from this number on
  first_from : (n : ℕ) (lines : List (List ℕ)) (at : ℕ) (fault : TextFault)
      → script_from says n lines ≡ Err (fault_at at fault) → FirstFault says n lines at fault
  first_from n [] at fault e = cc
  first_from n (line ∷ []) at fault e = last_at_fault n line (last_fault line) at fault refl e
  first_from n (line ∷ next ∷ more) at fault e =
      line_at_fault n line next more (says line) (script_from says (n + 1) (next ∷ more))
      at fault refl refl
      (first_from (n + 1) (next ∷ more) at fault) e

  -- a text at fault
  pub first_fault : (text : List ℕ) (at : ℕ) (fault : TextFault)
      → script_of says text ≡ Err (record { line = at; fault = fault })
      → FirstFault says 1 (lines_of text) at fault
  unfolding script_of
  first_fault text at fault e = first_from 1 (lines_of text) at fault e

  -- a line that says something stands before those that do
  says_before : (line : List ℕ) (lines : List (List ℕ)) → IsOk (says line) → AllSay says lines
      → AllSay says (line ∷ lines)
  says_before line lines fine rest = record {
    ended = line ∷ rest.ended;
    cut = ap (λ ls. line ∷ ls) rest.cut;
    fine = all_more (λ l. IsOk (says l)) line rest.ended fine rest.fine;
  }

  last_is_empty : (n : ℕ) (line : List ℕ) (items : List A)
      → ends_with n (last_fault line) ≡ Ok items
      → AllSay says (line ∷ [])
  last_is_empty n [] items e =
      record { ended = []; cut = refl; fine = λ k d within. absurd (omega arith) }
  last_is_empty n (b ∷ bs) items e =
      let some : (length (b ∷ bs) == 0) ≡ false = search (rules, tests) in
      elim (cases_Bool (nat_lt MOST_LINE (length (b ∷ bs)))) [
        | inl long ↦ let no = rw (some, long) at e in cc
        | inr short ↦ let no = rw (some, short) at e in cc
      ]

  line_says : (n : ℕ) (line next : List ℕ) (more : List (List ℕ)) (told : Result A TextFault)
      (rest : Result (List A) ScriptFault) (items : List A)
      → says line ≡ told → script_from says (n + 1) (next ∷ more) ≡ rest
      → ((others : List A) → script_from says (n + 1) (next ∷ more) ≡ Ok others
      → AllSay says (next ∷ more))
      → then_lines n told rest ≡ Ok items → AllSay says (line ∷ next ∷ more)
  line_says n line next more (Ok said) (Ok others) items here behind later e =
      says_before line (next ∷ more) (rw here refl) (later others behind)
  line_says n line next more (Ok said) (Err fault) items here behind later e = cc
  line_says n line next more (Err fault) rest items here behind later e = cc

  -- of lines from this number on
  say_from : (n : ℕ) (line : List ℕ) (more : List (List ℕ)) (items : List A)
      → script_from says n (line ∷ more) ≡ Ok items → AllSay says (line ∷ more)
  say_from n line [] items e = last_is_empty n line items e
  say_from n line (next ∷ more) items e =
      line_says n line next more (says line) (script_from says (n + 1) (next ∷ more))
      items refl refl
      (say_from (n + 1) next more) e

  -- a good text
  pub all_say : (text : List ℕ) → IsOk (script_of says text) → AllSay says (lines_of text)
  unfolding script_of
  all_say text fine =
      let first = some_line text in
      let read = said_of (script_from says 1 (lines_of text)) fine in
      rw first.2 (say_from 1 first.0 first.1 read.0
      (ap (script_from says 1) (sym first.2) ∙ read.1))

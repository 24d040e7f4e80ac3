-- What the first line of a text says.
use Rattle.std.proofs.Common.{◌≡◌, ℕ, ◌+◌, ◌==◌, ◌-◌, inl, inr, Bool, true, false, cond, List, []}
use Rattle.std.proofs.Common.{◌∷◌, ◌++◌, Some, None, Result, Ok, Err, IsOk, length, take, drop}
use Rattle.std.proofs.Common.{position, refl, sym, ap, ◌∙◌, arith, ltb, append_assoc}
use Rattle.std.specs.List.{onto_first, position_or_len}
use Rattle.std.proofs.lemmas.List.Splits.{slice_split_first, slice_split_none}
use Rattle.std.proofs.lemmas.List.Sums.{fails_before_first}
use Rattle.std.proofs.lemmas.List.{take_rest}
use Rattle.std.proofs.lemmas.Bool.{cases_Bool, ltb-true, ltb-false}
use Rattle.hcc_player.specs.declared.fault.ScriptFault.{ScriptFault}
use Rattle.hcc_player.specs.declared.fault.TextFault.{TextFault}
use Rattle.hcc_player.specs.declared.fault.LineError.{LineError}
use Rattle.hcc_player.specs.declared.fault.LineError.TheVariants as errors
use Rattle.hcc_player.specs.Value.{Gives}
use Rattle.hcc_player.specs.Script.{lines_of, script_from, with_front, then_lines, ends_with}
use Rattle.hcc_player.specs.Script.{last_fault, ScriptFails, told_in}

onto_some : (b : ℕ) (lines : List (List ℕ)) (line : List ℕ) (more : List (List ℕ))
    → lines ≡ line ∷ more → onto_first b lines ≡ (b ∷ line) ∷ more
onto_some b lines line more e = rw e refl

-- there is a first line
pub some_line : (text : List ℕ) → (line : List ℕ) × (more : List (List ℕ))
    × (lines_of text ≡ line ∷ more)
some_line [] = ([], [], refl)
some_line (b ∷ bs) =
    let rest = some_line bs in
    elim (b == 10)
    as (λ t. (line : List ℕ) × (more : List (List ℕ))
    × (cond t ([] ∷ lines_of bs) (onto_first b (lines_of bs)) ≡ line ∷ more)) [
      | true ↦ ([], lines_of bs, refl)
      | false ↦ (b ∷ rest.0, rest.1, onto_some b (lines_of bs) rest.0 rest.1 rest.2)
    ]

pub front_nil : {A : Type 0} (read : Result (List A) ScriptFault) → with_front [] read ≡ read
front_nil (Ok more) = refl
front_nil (Err fault) = refl

pub front_more : {A : Type 0} (front : List A) (said : A) (read : Result (List A) ScriptFault)
    → with_front (front ++ said ∷ []) read ≡ with_front front (with_front (said ∷ []) read)
front_more front said (Ok more) = ap Ok (append_assoc front (said ∷ []) more)
front_more front said (Err fault) = refl

abbrev is_feed : ℕ → Bool
is_feed b = b == 10

-- the cut at the first line feed
pub cut_at : (text : List ℕ) (end : ℕ) → position (λ b. b == 10) text ≡ Some end
    → lines_of text ≡ take end text ∷ lines_of
    (take (length text - (end + 1)) (drop (end + 1) text))
cut_at text end h =
    elim (cases_Bool (ltb (position_or_len is_feed text) (length text))) [
      | inl e ↦
          let found : Some (position_or_len is_feed text) ≡ Some end = rw e at h in
          let same : position_or_len is_feed text ≡ end = cc in
          rw (take_rest text (end + 1), ← same) (slice_split_first is_feed text 0 (ltb-true _ _ e))
      | inr e ↦ let bad : None ≡ Some end = rw e at h in cc
    ]

-- no line feed, no cut
pub uncut : (text : List ℕ) → position (λ b. b == 10) text ≡ None → lines_of text ≡ text ∷ []
uncut text h =
    elim (cases_Bool (ltb (position_or_len is_feed text) (length text))) [
      | inl e ↦ let bad : Some (position_or_len is_feed text) ≡ None = rw e at h in cc
      | inr e ↦
          let past = ltb-false (position_or_len is_feed text) (length text) e in
          slice_split_none is_feed text
          (λ k d below. fails_before_first is_feed text k d (omega arith))
    ]

module _ {A : Type 0} (says : List ℕ → Result A TextFault) where
  -- a text whose first line a line feed ends
  pub script_line : (n : ℕ) (text line after : List ℕ) → lines_of text ≡ line ∷ lines_of after
      → script_from says n (lines_of text) ≡ then_lines n (says line)
      (script_from says (n + 1) (lines_of after))
  script_line n text line after cut =
      let next = some_line after in
      rw (cut, next.2) refl

  -- a text without a line feed
  pub script_end : (n : ℕ) (text : List ℕ) → lines_of text ≡ text ∷ []
      → script_from says n (lines_of text) ≡ ends_with n (last_fault text)
  script_end n text whole = ap (script_from says n) whole

  -- what was said so far stands in front of what the rest say, and together they are all
  pub record Ahead (n : ℕ) (rest : List ℕ) (all : Result (List A) ScriptFault) : Type 0 where
    pub front : List A
    pub so_far : with_front front (script_from says n (lines_of rest)) ≡ all

  -- a line more
  pub ahead_goes : (n : ℕ) (text line after : List ℕ) (all : Result (List A) ScriptFault)
      (said : A)
      → Ahead n text all → lines_of text ≡ line ∷ lines_of after → says line ≡ Ok said
      → Ahead (n + 1) after all
  ahead_goes n text line after all said ahead cut told =
      let goes : then_lines n (says line) (script_from says (n + 1) (lines_of after))
      ≡ with_front (said ∷ []) (script_from says (n + 1) (lines_of after)) = rw told refl in
      record {
        front = ahead.front ++ said ∷ [];
        so_far =
            front_more ahead.front said (script_from says (n + 1) (lines_of after))
            ∙ ap (with_front ahead.front) (sym (script_line n text line after cut ∙ goes))
            ∙ ahead.so_far;
      }

  -- a line at fault
  pub ahead_fails : (n : ℕ) (text line after : List ℕ) (all : Result (List A) ScriptFault)
      (error : LineError)
      → Ahead n text all → lines_of text ≡ line ∷ lines_of after
      → Gives {X = A} (Err error) (says line)
      → ScriptFails (told_in n error) all
  ahead_fails n text line after all (errors.Fault f) ahead cut told =
      let failed : then_lines n (says line) (script_from says (n + 1) (lines_of after))
      ≡ Err (record { line = n; fault = f }) = rw told refl in
      sym ahead.so_far ∙ ap (with_front ahead.front) (script_line n text line after cut ∙ failed)
  ahead_fails n text line after all errors.OutOfMemory ahead cut told = tt

  -- the end without a fault
  pub ahead_ends : (n : ℕ) (text : List ℕ) (all : Result (List A) ScriptFault)
      → Ahead n text all → lines_of text ≡ text ∷ [] → last_fault text ≡ None → IsOk all
  ahead_ends n text all ahead whole fine =
      let ends : script_from says n (lines_of text) ≡ Ok [] = script_end n text whole
      ∙ ap (ends_with n) fine in
      let done : Ok (ahead.front ++ []) ≡ all = sym (ap (with_front ahead.front) ends)
      ∙ ahead.so_far in
      rw (← done) refl

  -- the end with a fault
  pub ahead_stops : (n : ℕ) (text : List ℕ) (all : Result (List A) ScriptFault)
      (fault : TextFault)
      → Ahead n text all → lines_of text ≡ text ∷ [] → last_fault text ≡ Some fault
      → all ≡ Err (record { line = n; fault = fault })
  ahead_stops n text all fault ahead whole wrong =
      let ends : script_from says n (lines_of text) ≡ Err (record { line = n; fault = fault })
      = script_end n text whole ∙ ap (ends_with n) wrong in
      sym ahead.so_far ∙ ap (with_front ahead.front) ends

-- Bytes that leave in parts.
use Rattle.std.proofs.Common.{◌≡◌, ℕ, List, [], ◌++◌, Option, Some, None, Result, Ok, Err, OnErr}
use Rattle.std.proofs.Common.{OnOk}
use Rattle.std.proofs.Common.{IfOk, length, take}
use Rattle.std.proofs.Math.Seq.{take-append_seam}
use Rattle.std.proofs.Common.{drop, refl, sym, ap, ◌∙◌, append_assoc, append-nil, take-append-drop}
use Rattle.std.specs.Io.KnownBytes.{Appends, Keeps}
use Rattle.std.proofs.KnownBytes.{Appends-trans, Keeps-refl}
use Rattle.hcc_player.specs.Bytes.{Leaves, AppendsPart}

-- kept bytes gained none
pub kept_gains_none : (a b : Option (List ℕ)) → Keeps a b → Appends a b []
kept_gains_none None b kept = tt
kept_gains_none (Some xs) None kept = absurd kept
kept_gains_none (Some xs) (Some ys) kept = kept ∙ sym (append-nil xs)

-- nothing was written yet
pub leaves_all : (a b : Option (List ℕ)) (bytes : List ℕ) → Keeps a b → Leaves a b bytes bytes
leaves_all a b bytes kept = record { front = []; cut = refl; appended = kept_gains_none a b kept }

-- all was written
pub leaves_none : (a b : Option (List ℕ)) (bytes : List ℕ) → Appends a b bytes → Leaves a b bytes []
leaves_none a b bytes out = record { front = bytes; cut = append-nil bytes; appended = out }

-- what was left is written in part
pub leaves_less : (a b c : Option (List ℕ)) (bytes rest less : List ℕ)
    → Leaves a b bytes rest → Leaves b c rest less → Leaves a c bytes less
leaves_less a b c bytes rest less before then = record {
  front = before.front ++ then.front;
  cut = append_assoc before.front then.front less
      ∙ ap (λ l. before.front ++ l) then.cut ∙ before.cut;
  appended = Appends-trans a b c before.front then.front before.appended then.appended;
}

-- more bytes stand behind those that were left
pub leaves_more : (a b : Option (List ℕ)) (bytes rest more : List ℕ)
    → Leaves a b bytes rest → Leaves a b (bytes ++ more) (rest ++ more)
leaves_more a b bytes rest more so_far = record {
  front = so_far.front;
  cut = sym (append_assoc so_far.front rest more) ∙ ap (λ l. l ++ more) so_far.cut;
  appended = so_far.appended;
}

-- the next writes of a loop
pub leaves_dropped : (a b : Option (List ℕ)) (rest : List ℕ) (n : ℕ)
    → Appends a b (take n rest) → Leaves a b rest (drop n rest)
leaves_dropped a b rest n out =
    record { front = take n rest; cut = take-append-drop n rest; appended = out }

-- nothing was written
pub writes_nothing : (a : Option (List ℕ)) (bytes : List ℕ) → AppendsPart a a bytes
writes_nothing a bytes = (bytes, leaves_all a a bytes (Keeps-refl a))

-- what was kept since is written still
pub leaves_kept : (a b c : Option (List ℕ)) (bytes rest : List ℕ)
    → Leaves a b bytes rest → Keeps b c → Leaves a c bytes rest
leaves_kept a b c bytes rest before kept =
    leaves_less a b c bytes rest rest before (leaves_all b c rest kept)

-- nothing is left: all was written
pub all_out : (a b : Option (List ℕ)) (bytes : List ℕ) → Leaves a b bytes [] → Appends a b bytes
all_out a b bytes out = rw (← out.cut, append-nil out.front) out.appended

-- what holds anyway holds at an error
pub on_error : {A E : Type 0} (result : Result A E) (P : Type 0) → P → OnErr result P
on_error (Ok value) P holds = tt
on_error (Err error) P holds = holds

pub on_ok : {A E : Type 0} (result : Result A E) (P : Type 0) → P → OnOk result P
on_ok (Ok value) P holds = holds
on_ok (Err error) P holds = tt

-- what follows of a fact that holds at a success, or at an error
pub on_ok_so : {A E : Type 0} (result : Result A E) (P Q : Type 0) → (P → Q) → OnOk result P
    → OnOk result Q
on_ok_so (Ok value) P Q goes holds = goes holds
on_ok_so (Err error) P Q goes holds = tt

pub on_error_so : {A E : Type 0} (result : Result A E) (P Q : Type 0) → (P → Q) → OnErr result P
    → OnErr result Q
on_error_so (Ok value) P Q goes holds = tt
on_error_so (Err error) P Q goes holds = goes holds

-- what holds of each success
pub if_ok_so : {A E : Type 0} (result : Result A E) (P Q : A → Type 0)
    → ((value : A) → P value → Q value) → IfOk result P → IfOk result Q
if_ok_so (Ok value) P Q goes holds = goes value holds
if_ok_so (Err error) P Q goes holds = tt

-- of two facts of it
pub if_ok_both : {A E : Type 0} (result : Result A E) (P Q R : A → Type 0)
    → ((value : A) → P value → Q value → R value) → IfOk result P → IfOk result Q → IfOk result R
if_ok_both (Ok value) P Q R goes holds too = goes value holds too
if_ok_both (Err error) P Q R goes holds too = tt

-- bytes that were read to the front of a buffer, and are its front
pub read_back : (told buffer value old items : List ℕ) (len : ℕ)
    → told ≡ take len (buffer ++ drop (length buffer) items)
    → buffer ≡ value ++ drop (length value) old → len ≡ length value → told ≡ value
read_back told buffer value old items len is read same =
    is ∙ ap (λ b. take len (b ++ drop (length buffer) items)) read
    ∙ ap (take len) (append_assoc value (drop (length value) old) (drop (length buffer) items))
    ∙ ap (λ n. take n (value ++ (drop (length value) old ++ drop (length buffer) items))) same
    ∙ take-append_seam value (drop (length value) old ++ drop (length buffer) items)

-- A whole play of a trace: what is written for its text.
use Rattle.std.proofs.Common.{◌≡◌, inl, inr, ℕ, ◌≤◌, List, [], ◌++◌, Option}
use Rattle.std.proofs.Common.{Some}
use Rattle.std.proofs.Common.{None, Result, Ok, Err, IsOk, IfSome, ◌+◌, length, refl, sym, ap, ◌∙◌}
use Rattle.std.proofs.Common.{subst}
use Rattle.std.proofs.Common.{zero-add}
use Rattle.std.specs.Io.KnownBytes.{Keeps}
use Rattle.hcc_core.specs.Sums.{total}
use Rattle.hcc_rule.specs.declared.key.Key.{Key}
use Rattle.hcc_cache.specs.declared.cache.Cache.{Cache}
use Rattle.hcc_cache.specs.declared.client.Client.{Client}
use Rattle.hcc_cache.specs.declared.config.Config.{Config}
use Rattle.hcc_cache.specs.Opened.{IsOpened}
use Rattle.hcc_cache.specs.Totals.{taken_by}
use Rattle.hcc_player.specs.declared.limits.TheConstants.{MOST_INPUT}
use Rattle.hcc_player.specs.declared.fault.PlayError.{PlayError}
use Rattle.hcc_player.specs.declared.fault.PlayError.TheVariants as plays
use Rattle.hcc_player.specs.declared.run.answer.Answer.{Answer}
use Rattle.hcc_player.specs.declared.run.call.RunLine.{RunLine}
use Rattle.hcc_player.specs.declared.run.registers.Registers.{Registers}
use Rattle.hcc_player.specs.declared.run.tag.TraceTag.{TraceTag}
use Rattle.hcc_player.specs.declared.sums.Sums.{Sums}
use Rattle.hcc_player.specs.Bytes.{AppendsPart}
use Rattle.hcc_player.specs.Input.{IsWhole}
use Rattle.hcc_player.specs.Judged.{FailsToJudge, IsAtFault}
use Rattle.hcc_player.specs.Options.{config_check}
use Rattle.hcc_player.specs.RunLine.{run_line}
use Rattle.hcc_player.specs.Script.{script_of}
use Rattle.hcc_player.specs.RunAlone.{AreAllExact}
use Rattle.hcc_player.specs.Runs.{AreEmpty, MakesAll}
use Rattle.hcc_player.specs.RunTold.{AreAllTold, new_told}
use Rattle.hcc_player.specs.PlayRun.{Agree, Answered, AnsweredPart, AreManned, Ended, EndedPart}
use Rattle.hcc_player.specs.PlayRun.{EndsRun, FitsIn, IsOutput, PlaysAll, Writes, WritesFront}
use Rattle.hcc_player.specs.Registers.{AreFilled}
use Rattle.hcc_player.specs.RunStates.{States, new_states}
use Rattle.hcc_player.specs.Report.{sums_text}
use Rattle.hcc_player.specs.RunAnswers.{answers_text, AreRight, Inserts, IsPlayed}
use Rattle.hcc_player.specs.TraceTag.{fits_trace, run_trace, said}
use Rattle.hcc_player.proofs.ByteLemmas.{all_out, leaves_less, leaves_more, leaves_none}
use Rattle.hcc_player.proofs.ByteLemmas.{writes_nothing}
use Rattle.hcc_player.proofs.LeavesLemmas.{leaves_placed}
use Rattle.hcc_player.proofs.LeftLemmas.{all_counted}
use Rattle.hcc_player.proofs.BoundedStates.{new_bounded}
use Rattle.hcc_player.proofs.RunLemmas.{can_go_on}

-- The beginning.

-- new clients, whose registers are empty
pub manned_new : {T : Type 0} (fits : T → Key → List ℕ → Type 0) (config : Config) (tag : T)
    (cache : Cache T) (clients : List (Client T)) (registers : List Registers)
    → IsOpened config tag cache clients → AreEmpty registers → length registers ≡ length clients
    → AreManned fits cache config new_states clients registers
manned_new fits config tag cache clients registers opened empty count = record {
  count = count;
  each = λ c client held here there.
      let unused = (opened.dealt.each c client here).unused in
      subst (λ handles. AreFilled fits cache config (new_states c) client handles)
      (sym (empty c held there))
      (record {
        known = opened.known c client here;
        limited = record {
          full = unused.held;
          most = unused.most;
          serials = zero-add client.left ∙ unused.left;
          strict = opened.cache_is.strict;
          capacity = opened.cache_is.capacity;
        };
        each = λ r. refl;
        apart = λ r s h first second. cc;
        count = unused.held;
        once = tt;
        kinds = λ r h held full on. cc;
        alike = λ r q h k a b name here there on off is same. cc;
      });
}

-- the tag names the trace
pub fits_named : (tag : TraceTag) (cache : Cache TraceTag) → cache.tag ≡ tag
    → FitsIn fits_trace cache (said (run_trace tag.config tag.text.now))
fits_named tag cache same key value puts =
    subst (λ t. fits_trace t key value) (sym same) puts

-- The end.

-- some text may be written for each list of lines
abbrev no_sums : Sums
no_sums = record { charges = 0; occupied = 0; slots = 0; usage = 0 }

pub some_played : (config : Config) (lines : List RunLine)
    → (out : List ℕ) × IsPlayed config lines out
some_played config lines =
    let some = can_go_on (Inserts lines) config new_states (λ c. new_bounded) lines in (
      answers_text some.0 ++ sums_text no_sums,
      record {
        told = some.0;
        last = some.1;
        right = some.2;
        sums = no_sums;
        charged = refl;
        occupies = refl;
        is = refl;
      },
    )

abbrev pub played_as : (config : Config) (lines : List RunLine) (told : List Answer) (last : States)
    (sums : Sums) → AreRight (Inserts lines) config new_states lines told last → Agree sums
    → IsPlayed config lines (answers_text told ++ sums_text sums)
played_as config lines told last sums right agree = record {
  told = told;
  last = last;
  right = right;
  sums = sums;
  charged = agree.charged;
  occupies = agree.occupies;
  is = refl;
}

-- all answers and the sums are out
pub play_whole : (tag : TraceTag) (cache : Cache TraceTag) (config : Config)
    (lines : List RunLine) (first last : List (Client TraceTag)) (empty kept : List Registers)
    (old mid new : Option (List ℕ)) (pending : List ℕ)
    → IsOpened config tag cache first → length empty ≡ length first → AreEmpty empty
    → Answered (Inserts lines) fits_trace cache config lines first last empty kept old mid []
    pending
    → ((told : List Answer) (makes : MakesAll fits_trace cache lines told first last empty kept)
    → config.clients ≡ 1 → AreAllExact cache fits_trace lines told first last empty kept makes
    × AreAllTold config cache fits_trace new_told lines told first last empty kept makes)
    → Ended fits_trace cache last kept mid new pending → PlaysAll config lines old new
play_whole tag cache config lines first last empty kept old mid new pending opened alike nothing
    answered exact ended =
    let text = answers_text answered.0 in
    let more = sums_text ended.0 in (
      text ++ more,
      played_as config lines answered.0 answered.1 ended.0 answered.2 ended.1,
      record {
        tag = tag;
        cache = cache;
        first = first;
        last = last;
        empty = empty;
        kept = kept;
        opened = opened;
        alike = alike;
        nothing = nothing;
        plays = answered.3;
        closed = ended.2.0;
        ends = ended.2.1;
        sums_are = ended.2.2;
        counted = ap (λ n. n + total taken_by ended.2.1.left) ended.2.2.slots
            ∙ all_counted fits_trace config tag cache lines answered.0 first last empty kept
            ended.2.0 opened alike answered.3 ended.2.1;
        leaves = leaves_placed fits_trace config tag cache lines answered.0 first last empty kept
            ended.2.0 opened alike answered.3 ended.2.1 ended.0 ended.2.2.slots
            ended.2.2.charges;
        alone = λ one. (exact answered.0 answered.3 one).0;
        foretold = λ one. (exact answered.0 answered.3 one).1;
      },
      all_out old new (text ++ more) (leaves_less old mid new (text ++ more) (pending ++ more) []
          (leaves_more old mid text pending more answered.4)
          (leaves_none mid new (pending ++ more) ended.3)),
    )

-- a front of that is
pub play_cut : (cache : Cache TraceTag) (config : Config) (lines : List RunLine)
    (first last : List (Client TraceTag)) (empty kept : List Registers)
    (old mid new : Option (List ℕ)) (pending : List ℕ)
    → Answered (Inserts lines) fits_trace cache config lines first last empty kept old mid []
    pending
    → EndedPart mid new pending
    → (out : List ℕ) × IsPlayed config lines out × AppendsPart old new out
play_cut cache config lines first last empty kept old mid new pending answered ended =
    let text = answers_text answered.0 in
    let more = sums_text ended.0 in (
      text ++ more,
      played_as config lines answered.0 answered.1 ended.0 answered.2 ended.1,
      (
        ended.2.0,
        leaves_less old mid new (text ++ more) (pending ++ more) ended.2.0
            (leaves_more old mid text pending more answered.4) ended.2.1,
      ),
    )

-- it stopped before the end
pub play_stopped : (config : Config) (lines : List RunLine) (old new : Option (List ℕ))
    → AnsweredPart (Inserts lines) config lines old new []
    → (out : List ℕ) × IsPlayed config lines out × AppendsPart old new out
play_stopped config lines old new part =
    let text = answers_text part.0 in
    let more = sums_text no_sums in (
      text ++ more,
      played_as config lines part.0 part.1 no_sums part.2
          (record { charged = refl; occupies = refl }),
      (part.3.0 ++ more, leaves_more old new text part.3.0 more part.3.1),
    )

-- it stopped before anything was written
pub play_unbegun : (config : Config) (lines : List RunLine) (a : Option (List ℕ))
    → (out : List ℕ) × IsPlayed config lines out × AppendsPart a a out
play_unbegun config lines a =
    let some = some_played config lines in (some.0, some.1, writes_nothing a some.0)

-- Of the text that a reader had left.

-- the lines of a good trace
good_lines : (read : Result (List RunLine) _) → IsOk read → read ≡ Ok (said read)
good_lines (Ok lines) fine = refl
good_lines (Err fault) fine = cc

pub output_of : (config : Config) (text out : List ℕ) → length text ≤ MOST_INPUT
    → IsOk (run_trace config text) → IsPlayed config (said (run_trace config text)) out
    → IsOutput config text out
output_of config text out short good played = record {
  lines = said (run_trace config text);
  trace = (short, good_lines (run_trace config text) good);
  played = played;
}

pub writes_known : (config : Config) (known old new : Option (List ℕ)) (bytes : List ℕ)
    → IsWhole known bytes → IsOk (run_trace config bytes)
    → PlaysAll config (said (run_trace config bytes)) old new
    → IfSome known (Writes config old new)
unfolding output_of script_of
writes_known config None old new bytes whole good done = tt
writes_known config (Some text) old new bytes whole good done =
    subst (Writes config old new) whole.1
    (done.0, output_of config bytes done.0 whole.0 good done.1, done.2, done.3)

pub fronts_known : (config : Config) (known old new : Option (List ℕ)) (bytes : List ℕ)
    → IsWhole known bytes → IsOk (run_trace config bytes)
    → ((out : List ℕ) × IsPlayed config (said (run_trace config bytes)) out
    × AppendsPart old new out)
    → IfSome known (WritesFront config old new)
fronts_known config None old new bytes whole good done = tt
fronts_known config (Some text) old new bytes whole good done =
    subst (WritesFront config old new) whole.1
    (inr (done.0, output_of config bytes done.0 whole.0 good done.1, done.2))

-- nothing was written
pub keeps_known : (config : Config) (known old new : Option (List ℕ)) → Keeps old new
    → IfSome known (WritesFront config old new)
keeps_known config None old new kept = tt
keeps_known config (Some text) old new kept = inl kept

-- a text that was read and is not good
pub run_judged : (config : Config) (known : Option (List ℕ)) (bytes : List ℕ) (error : PlayError)
    → config_check config ≡ Ok tt → IsWhole known bytes
    → FailsToJudge (run_line config) error bytes → IfSome known (EndsRun config error)
run_judged config None bytes error allowed whole fails = tt
run_judged config (Some text) bytes (plays.Text line fault) allowed whole fails =
    subst (λ b. (config_check config ≡ Ok tt) × (length b ≤ MOST_INPUT)
    × IsAtFault (run_line config) b line fault) whole.1 (allowed, whole.0, fails)
run_judged config (Some text) bytes plays.OutOfMemory allowed whole fails = allowed
run_judged config (Some text) bytes plays.ReadFailed allowed whole fails = allowed
run_judged config (Some text) bytes plays.TooLarge allowed whole fails = absurd fails
run_judged config (Some text) bytes plays.WriteFailed allowed whole fails = absurd fails
run_judged config (Some text) bytes (plays.Refused error) allowed whole fails = absurd fails
run_judged config (Some text) bytes plays.BadBlock allowed whole fails = absurd fails

-- the tag names the trace, whatever it is called
pub answered_as : (tag : TraceTag) (cache : Cache TraceTag) → cache.tag ≡ tag
    → (config : Config) (lines : List RunLine) (clients made : List (Client TraceTag))
    (was now : List Registers) (old new : Option (List ℕ)) (pending first rest : List ℕ)
    → pending ≡ first
    → Answered (fits_trace cache.tag) fits_trace cache config lines clients made was now old new
    pending rest
    → Answered (fits_trace tag) fits_trace cache config lines clients made was now old new first
    rest
answered_as tag cache same config lines clients made was now old new pending first rest begun
    answered =
    subst (λ p. Answered (fits_trace tag) fits_trace cache config lines clients made was now old new
    p rest) begun
    (subst (λ t. Answered (fits_trace t) fits_trace cache config lines clients made was now old new
    pending rest) same answered)

pub part_as : (tag : TraceTag) (cache : Cache TraceTag) → cache.tag ≡ tag
    → (config : Config) (lines : List RunLine) (old new : Option (List ℕ)) (pending first : List ℕ)
    → pending ≡ first → AnsweredPart (fits_trace cache.tag) config lines old new pending
    → AnsweredPart (fits_trace tag) config lines old new first
part_as tag cache same config lines old new pending first begun part =
    subst (λ p. AnsweredPart (fits_trace tag) config lines old new p) begun
    (subst (λ t. AnsweredPart (fits_trace t) config lines old new pending) same part)

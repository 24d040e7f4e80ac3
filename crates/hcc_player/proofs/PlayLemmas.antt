-- A script that is played line by line.
use Rattle.std.proofs.Common.{◌≡◌, ℕ, ◌+◌, ◌≤◌, length, subst, List, [], ◌∷◌, ◌++◌, Option, Some, None, Ok, IfSome, sym}
use Rattle.std.proofs.Common.{ap, ◌∙◌, append_assoc, append-nil}
use Rattle.hcc_core.specs.declared.event.Event.{Event}
use Rattle.hcc_core.specs.World.{State}
use Rattle.hcc_core.specs.Runs.{after}
use Rattle.hcc_player.specs.declared.limits.TheConstants.{MOST_INPUT}
use Rattle.hcc_player.specs.declared.fault.PlayError.{PlayError}
use Rattle.hcc_player.specs.declared.fault.PlayError.TheVariants as plays
use Rattle.hcc_player.specs.Input.{IsWhole}
use Rattle.hcc_player.specs.Judged.{FailsToJudge, IsAtFault}
use Rattle.hcc_player.specs.Play.{EndsAt}
use Rattle.hcc_player.specs.Line.{line_event}
use Rattle.hcc_player.specs.Script.{lines_of, script_from}
use Rattle.hcc_player.specs.Text.{event_text, events_text}
use Rattle.hcc_player.specs.Bytes.{Leaves, AppendsPart}
use Rattle.hcc_player.proofs.Splits.{splits, ends}
use Rattle.hcc_player.proofs.ByteLemmas.{leaves_less, leaves_more, writes_nothing}

-- a script in the middle of its play: the lines of some events left, and the others are to come
pub record Playing (old new : Option (List ℕ)) (pending rest : List ℕ)
    (world : State) (all : List ℕ) : Type 0 where
  pub number : ℕ
  pub events : List Event
  pub script : script_from line_event number (lines_of rest) ≡ Ok events
  pub done : List ℕ
  pub out : Leaves old new done pending
  pub whole : done ++ events_text world events ≡ all

-- an event more
pub playing_goes : (old mid new : Option (List ℕ)) (pending pending' rest line rest' : List ℕ)
    (world world' : State)
    (all : List ℕ) (event : Event) → Playing old mid pending rest world all
    → lines_of rest ≡ line ∷ lines_of rest' → line_event line ≡ Ok event
    → world' ≡ after world event
    → Leaves mid new (pending ++ event_text world event) pending'
    → Playing old new pending' rest' world' all
playing_goes old mid new pending pending' rest line rest' world
    world' all event so_far cut here next out =
    let s = splits line_event so_far.number rest line rest' so_far.events cut so_far.script in
    let same : s.said ≡ event = cc (s.first, here) in
    let text = event_text world event in
    record {
      number = so_far.number + 1;
      events = s.more;
      script = s.others;
      done = so_far.done ++ text;
      out = leaves_less old mid new _ _ _ (leaves_more old mid so_far.done pending text so_far.out)
          out;
      whole =
          append_assoc so_far.done text (events_text world' s.more)
          ∙ ap (λ w. so_far.done ++ (text ++ events_text w s.more)) next
          ∙ ap (λ e. so_far.done ++ (event_text world e ++ events_text (after world e) s.more))
          (sym same)
          ∙ ap (λ es. so_far.done ++ events_text world es) (sym s.all_is)
          ∙ so_far.whole;
    }

-- no event is left
pub playing_ends : (old new : Option (List ℕ)) (pending rest : List ℕ)
    (world : State) (all : List ℕ)
    → Playing old new pending rest world all → lines_of rest ≡ rest ∷ []
    → Leaves old new all pending
playing_ends old new pending rest world all so_far whole =
    let none = ends line_event so_far.number rest so_far.events whole so_far.script in
    let same : so_far.done ≡ all =
    sym (append-nil so_far.done) ∙ ap (λ es. so_far.done ++ events_text world es) (sym none)
    ∙ so_far.whole in
    rw (← same) so_far.out

-- it stops before the next event
pub playing_stops : (old new : Option (List ℕ)) (pending rest : List ℕ)
    (world : State) (all : List ℕ)
    → Playing old new pending rest world all → AppendsPart old new all
playing_stops old new pending rest world all so_far =
    let text = events_text world so_far.events in
    (pending ++ text, rw (← so_far.whole) (leaves_more old new so_far.done pending text so_far.out))

-- it stops in the middle of an event
pub playing_fails : (old mid new : Option (List ℕ)) (pending rest line rest' : List ℕ)
    (world : State) (all : List ℕ)
    (event : Event) → Playing old mid pending rest world all → lines_of rest ≡ line ∷ lines_of rest'
    → line_event line ≡ Ok event → AppendsPart mid new (pending ++ event_text world event)
    → AppendsPart old new all
playing_fails old mid new pending rest line rest' world all event so_far cut here part =
    let s = splits line_event so_far.number rest line rest' so_far.events cut so_far.script in
    let same : s.said ≡ event = cc (s.first, here) in
    let text = event_text world event in
    let more = events_text (after world event) s.more in
    let parted = leaves_less old mid new _ _ _
    (leaves_more old mid so_far.done pending text so_far.out) part.1 in
    let whole : (so_far.done ++ text) ++ more ≡ all =
    append_assoc so_far.done text more
    ∙ ap (λ e. so_far.done ++ (event_text world e ++ events_text (after world e) s.more)) (sym same)
    ∙ ap (λ es. so_far.done ++ events_text world es) (sym s.all_is)
    ∙ so_far.whole in
    (part.0 ++ more, rw (← whole) (leaves_more old new (so_far.done ++ text) part.0 more parted))

-- nothing was written of what a known text gives
pub writes_nothing_known : (known : Option (List ℕ)) (a : Option (List ℕ)) (gives : List ℕ → List ℕ)
    → IfSome known (λ text. AppendsPart a a (gives text))
writes_nothing_known None a gives = tt
writes_nothing_known (Some text) a gives = writes_nothing a (gives text)

-- a text that was read and is not good
pub ends_judged : (known : Option (List ℕ)) (bytes : List ℕ) (error : PlayError)
    → IsWhole known bytes → FailsToJudge line_event error bytes → IfSome known (EndsAt error)
ends_judged None bytes error whole fails = tt
ends_judged (Some text) bytes (plays.Text line fault) whole fails =
    subst (λ b. (length b ≤ MOST_INPUT) × IsAtFault line_event b line fault) whole.1
    (whole.0, fails)
ends_judged (Some text) bytes plays.OutOfMemory whole fails = tt
ends_judged (Some text) bytes plays.ReadFailed whole fails = tt
ends_judged (Some text) bytes plays.TooLarge whole fails = absurd fails
ends_judged (Some text) bytes plays.WriteFailed whole fails = absurd fails
ends_judged (Some text) bytes (plays.Refused error) whole fails = absurd fails
ends_judged (Some text) bytes plays.BadBlock whole fails = absurd fails

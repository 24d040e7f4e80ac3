-- A trace in the middle of its play.
use Rattle.std.proofs.Common.{◌≡◌, ℕ, zero, suc, ◌+◌, List, [], ◌∷◌, ◌++◌, Option, Some, Ok, Err, Result, IsOk}
use Rattle.std.proofs.Common.{length}
use Rattle.std.proofs.Common.{refl, sym, ap, ◌∙◌, subst, append_assoc, append-nil, length-set, inl}
use Rattle.std.proofs.Common.{inr, true, false, ◌==◌, rules, tests}
use Rattle.std.specs.Prelude.{slice_get, slice_set}
use Rattle.std.proofs.lemmas.Bool.{cases_eq}
use Rattle.hcc_rule.specs.declared.key.Key.{Key}
use Rattle.hcc_cache.specs.declared.cache.Cache.{Cache}
use Rattle.hcc_cache.specs.declared.client.Client.{Client}
use Rattle.hcc_cache.specs.declared.config.Config.{Config}
use Rattle.hcc_player.specs.declared.run.answer.Answer.{Answer}
use Rattle.hcc_player.specs.declared.run.call.RunLine.{RunLine}
use Rattle.hcc_player.specs.declared.run.registers.Registers.{Registers}
use Rattle.hcc_player.specs.Bytes.{AppendsPart, Leaves}
use Rattle.hcc_player.specs.PlayRun.{Answered, AnsweredPart, AreManned, FitsIn, Steps}
use Rattle.hcc_player.specs.Registers.{AreFilled, Goes}
use Rattle.hcc_player.specs.RunAnswers.{answer_line, answers_text, AreRight, Inserts, IsRight}
use Rattle.hcc_player.specs.RunAnswers.{PutsIn}
use Rattle.hcc_player.specs.RunLine.{run_line}
use Rattle.hcc_player.specs.RunStates.{State, States, new_states, with_state}
use Rattle.hcc_player.specs.Runs.{Makes, MakesAll}
use Rattle.hcc_player.specs.declared.fault.ScriptFault.{ScriptFault}
use Rattle.hcc_player.specs.Script.{lines_of, script_from, script_of}
use Rattle.hcc_player.specs.TraceTag.{run_trace, said}
use Rattle.hcc_player.proofs.BoundedStates.{IsBounded, bounded_with, filled_bounded, new_bounded}
use Rattle.hcc_player.proofs.ByteLemmas.{leaves_less, leaves_more}
use Rattle.hcc_player.proofs.EndLemmas.{at_member, off_member}
use Rattle.hcc_player.proofs.RunLemmas.{answers_more, can_go_on, right_more, right_one}
use Rattle.hcc_player.proofs.RunsLemmas.{makes_one}
use Rattle.hcc_player.proofs.Splits.{splits, ends}

-- what stands behind a front of a list
place_behind : {A : Type 0} (front : List A) (x : A) (more : List A)
    → slice_get (front ++ x ∷ more) (length front) ≡ Some x
place_behind [] x more = refl
place_behind (y ∷ front) x more = place_behind front x more

-- a line of the trace inserts what it inserts
pub inserts_here : (all front : List RunLine) (line : RunLine) (more : List RunLine)
    → front ++ line ∷ more ≡ all → (key : Key) (value : List ℕ) → PutsIn line.call key value
    → Inserts all key value
inserts_here all front line more cut key value puts = record {
  place = length front;
  line = line;
  here = ap (λ ls. slice_get ls (length front)) (sym cut) ∙ place_behind front line more;
  puts = puts;
}

-- what was set is there
got_set : {A : Type 0} (xs : List A) (n : ℕ) (x y : A) → slice_get xs n ≡ Some x
    → slice_get (slice_set xs n y) n ≡ Some y
got_set [] n x y at = cc
got_set (z ∷ zs) zero x y at = refl
got_set (z ∷ zs) (suc n) x y at = got_set zs n x y at

-- the lines of a good trace
pub said_good : (config : Config) (text : List ℕ) → IsOk (run_trace config text)
    → script_from (run_line config) 1 (lines_of text) ≡ Ok (said (run_trace config text))
unfolding script_of
said_good config text good = by (script_from (run_line config) 1 (lines_of text)) good
  where
    by : (read : Result (List RunLine) ScriptFault) → IsOk read → read ≡ Ok (said read)
    by (Ok lines) fine = refl
    by (Err fault) fine = cc

module _ {T : Type 0} (fits : T → Key → List ℕ → Type 0) (cache : Cache T) (config : Config)
    (first : List (Client T)) (empty : List Registers) where
  -- So far: these lines were answered, those are left, and the clients with their registers are as
  -- the answers say.
  pub record Running (old new : Option (List ℕ)) (before pending rest : List ℕ)
      (all : List RunLine) (clients : List (Client T)) (registers : List Registers)
      : Type 0 where
    pub number : ℕ
    pub left : List RunLine
    pub read : script_from (run_line config) number (lines_of rest) ≡ Ok left
    pub front : List RunLine
    pub cut : front ++ left ≡ all
    pub told : List Answer
    pub states : States
    pub right : AreRight (fits cache.tag) config new_states front told states
    pub manned : AreManned fits cache config states clients registers
    pub bounded : (c : ℕ) → IsBounded (states c)
    pub made : MakesAll fits cache front told first clients empty registers
    pub out : Leaves old new (before ++ answers_text told) pending

  -- nothing is answered yet
  pub running_begins : (old new : Option (List ℕ)) (before text : List ℕ) (all : List RunLine)
      → script_from (run_line config) 1 (lines_of text) ≡ Ok all
      → AreManned fits cache config new_states first empty → Leaves old new before before
      → Running old new before before text all first empty
  running_begins old new before text all read manned out = record {
    number = 1;
    left = all;
    read = read;
    front = [];
    cut = refl;
    told = [];
    states = new_states;
    right = refl;
    manned = manned;
    bounded = λ c. new_bounded;
    made = (refl, refl);
    out = rw (append-nil before) out;
  }

  -- what is left begins with the line that was read
  pub record Next (old new : Option (List ℕ)) (before pending rest after : List ℕ)
      (all : List RunLine) (clients : List (Client T)) (registers : List Registers)
      (so_far : Running old new before pending rest all clients registers) (line : RunLine)
      : Type 0 where
    pub more : List RunLine
    pub others : script_from (run_line config) (so_far.number + 1) (lines_of after) ≡ Ok more
    pub left_is : so_far.left ≡ line ∷ more

  pub next_line : (old new : Option (List ℕ)) (before pending rest bytes after : List ℕ)
      (all : List RunLine) (clients : List (Client T)) (registers : List Registers)
      (so_far : Running old new before pending rest all clients registers) (line : RunLine)
      → lines_of rest ≡ bytes ∷ lines_of after → run_line config bytes ≡ Ok line
      → Next old new before pending rest after all clients registers so_far line
  next_line old new before pending rest bytes after all clients registers so_far line cut here =
      let s = splits (run_line config) so_far.number rest bytes after so_far.left cut so_far.read in
      let same : s.said ≡ line = cc (s.first, here) in
      record {
        more = s.more;
        others = s.others;
        left_is = s.all_is ∙ ap (λ l. l ∷ s.more) same;
      }

  -- what the line inserts fits
  pub fits_here : (old new : Option (List ℕ)) (before pending rest after : List ℕ)
      (all : List RunLine) (clients : List (Client T)) (registers : List Registers)
      (so_far : Running old new before pending rest all clients registers) (line : RunLine)
      → Next old new before pending rest after all clients registers so_far line
      → FitsIn fits cache all → (key : Key) (value : List ℕ) → PutsIn line.call key value
      → fits cache.tag key value
  fits_here old new before pending rest after all clients registers so_far line next goes key value
      puts =
      goes key value
      (inserts_here all so_far.front line next.more
      (ap (λ l. so_far.front ++ l) (sym next.left_is) ∙ so_far.cut) key value puts)

  -- the registers of the client that acted
  acted_bounded : (states : States) (clients clients' : List (Client T))
      (registers registers' : List Registers) (line : RunLine) (answer : Answer) (next : State)
      → Makes fits cache line answer clients clients' registers registers'
      → AreManned fits cache config (with_state states line.client next) clients' registers'
      → IsBounded next
  acted_bounded states clients clients' registers registers' line answer next makes manned =
      let here = got_set clients line.client makes.before makes.after makes.client_was in
      let there = got_set registers line.client makes.held makes.holds makes.registers_were in
      let yes : (line.client == line.client) ≡ true = search (rules, tests) in
      let filled = manned.each line.client makes.after makes.holds
      (rw makes.clients_are here) (rw makes.registers_are there) in
      filled_bounded fits cache config next makes.after makes.holds.filled.items
      (rw yes at filled)

  -- a line more
  pub running_goes : (old mid new : Option (List ℕ)) (before pending pending' rest after : List ℕ)
      (all : List RunLine) (clients clients' : List (Client T))
      (registers registers' : List Registers)
      (so_far : Running old mid before pending rest all clients registers) (line : RunLine)
      (answer : Answer)
      → Next old mid before pending rest after all clients registers so_far line
      → Steps fits cache line answer clients clients' registers registers'
      → Makes fits cache line answer clients clients' registers registers'
      → Leaves mid new (pending ++ answer_line answer) pending'
      → Running old new before pending' after all clients' registers'
  running_goes old mid new before pending pending' rest after all clients clients' registers
      registers' so_far line answer next steps makes out =
      let now = steps config so_far.states so_far.manned in
      let text : before ++ answers_text (so_far.told ++ answer ∷ [])
      ≡ (before ++ answers_text so_far.told) ++ answer_line answer =
      ap (λ t. before ++ t) (answers_more so_far.told (answer ∷ [])
      ∙ ap (λ t. answers_text so_far.told ++ t) (append-nil (answer_line answer)))
      ∙ sym (append_assoc before (answers_text so_far.told) (answer_line answer)) in
      record {
        number = so_far.number + 1;
        left = next.more;
        read = next.others;
        front = so_far.front ++ line ∷ [];
        cut = append_assoc so_far.front (line ∷ []) next.more
            ∙ ap (λ l. so_far.front ++ l) (sym next.left_is) ∙ so_far.cut;
        told = so_far.told ++ answer ∷ [];
        states = with_state so_far.states line.client now.0;
        right = right_one (fits cache.tag) config new_states so_far.states so_far.front
            so_far.told line answer now.0 so_far.right now.1;
        manned = now.2;
        bounded = bounded_with so_far.states line.client now.0 so_far.bounded
            (acted_bounded so_far.states clients clients' registers registers' line answer now.0
            makes now.2);
        made = makes_one fits cache so_far.front so_far.told line answer first clients clients'
            empty registers registers' so_far.made makes;
        out = rw text (leaves_less old mid new _ _ _
            (leaves_more old mid (before ++ answers_text so_far.told) pending (answer_line answer)
            so_far.out) out);
      }

  -- no line is left
  pub running_ends : (old new : Option (List ℕ)) (before pending rest : List ℕ)
      (all : List RunLine) (clients : List (Client T)) (registers : List Registers)
      → Running old new before pending rest all clients registers → lines_of rest ≡ rest ∷ []
      → Answered (fits cache.tag) fits cache config all first clients empty registers old new
      before pending
  running_ends old new before pending rest all clients registers so_far whole =
      let none = ends (run_line config) so_far.number rest so_far.left whole so_far.read in
      let same : so_far.front ≡ all =
      sym (append-nil so_far.front) ∙ ap (λ l. so_far.front ++ l) (sym none) ∙ so_far.cut in (
        so_far.told,
        so_far.states,
        subst (λ l. AreRight (fits cache.tag) config new_states l so_far.told so_far.states) same
            so_far.right,
        subst (λ l. MakesAll fits cache l so_far.told first clients empty registers) same
            so_far.made,
        so_far.out,
      )

  -- it stops before the next line
  pub running_stops : (old new : Option (List ℕ)) (before pending rest : List ℕ)
      (all : List RunLine) (clients : List (Client T)) (registers : List Registers)
      → Running old new before pending rest all clients registers
      → AnsweredPart (fits cache.tag) config all old new before
  running_stops old new before pending rest all clients registers so_far =
      let more = can_go_on (fits cache.tag) config so_far.states so_far.bounded so_far.left in
      let right = right_more (fits cache.tag) config new_states so_far.states more.1 so_far.front
      so_far.left so_far.told more.0 so_far.right more.2 in
      let text : before ++ answers_text (so_far.told ++ more.0)
      ≡ (before ++ answers_text so_far.told) ++ answers_text more.0 =
      ap (λ t. before ++ t) (answers_more so_far.told more.0)
      ∙ sym (append_assoc before (answers_text so_far.told) (answers_text more.0)) in (
        so_far.told ++ more.0,
        more.1,
        subst (λ l. AreRight (fits cache.tag) config new_states l (so_far.told ++ more.0) more.1)
            so_far.cut right,
        rw text (
          pending ++ answers_text more.0,
          leaves_more old new
              (before ++ answers_text so_far.told) pending (answers_text more.0) so_far.out,
        ),
      )

  -- it stops in the middle of an answer
  pub running_fails : (old mid new : Option (List ℕ)) (before pending rest after : List ℕ)
      (all : List RunLine) (clients clients' : List (Client T))
      (registers registers' : List Registers)
      (so_far : Running old mid before pending rest all clients registers) (line : RunLine)
      (answer : Answer)
      → Next old mid before pending rest after all clients registers so_far line
      → Steps fits cache line answer clients clients' registers registers'
      → Makes fits cache line answer clients clients' registers registers'
      → AppendsPart mid new (pending ++ answer_line answer)
      → AnsweredPart (fits cache.tag) config all old new before
  running_fails old mid new before pending rest after all clients clients' registers registers'
      so_far line answer next steps makes part =
      running_stops old new before part.0 after all clients' registers'
      (running_goes old mid new before pending part.0 rest after all clients clients' registers
      registers' so_far line answer next steps makes part.1)

module _ {T : Type 0} (fits : T → Key → List ℕ → Type 0) (cache : Cache T) where
  -- the call of a line, by its client
  pub steps_by : (line : RunLine) (answer : Answer) (clients : List (Client T))
      (registers : List Registers) (client client' : Client T) (held held' : Registers)
      → slice_get clients line.client ≡ Some client
      → slice_get registers line.client ≡ Some held
      → Goes fits cache line.call answer client client' held.filled.items held'.filled.items
      → Steps fits cache line answer clients (slice_set clients line.client client') registers
      (slice_set registers line.client held')
  steps_by line answer clients registers client client' held held' here there goes config states
      manned = (
        now.0,
        now.1,
        record {
          count = length-set registers line.client held' ∙ manned.count
              ∙ sym (length-set clients line.client client');
          each = each;
        },
      )
    where
      now : (next : State)
          × IsRight (fits cache.tag) config (states line.client) line.call answer next
          × AreFilled fits cache config next client' held'.filled.items
      now = goes config (states line.client) (manned.each line.client client held here there)

      each : (c : ℕ) (one : Client T) (has : Registers)
          → slice_get (slice_set clients line.client client') c ≡ Some one
          → slice_get (slice_set registers line.client held') c ≡ Some has
          → AreFilled fits cache config (with_state states line.client now.0 c) one
          has.filled.items
      each c one has at holds =
          elim (cases_eq c line.client) [
            | inl e ↦
                let here_is : (c == line.client) ≡ true = search (rules, tests) in
                let one_is : one ≡ client' =
                at_member clients line.client client' one (rw e at at) in
                let has_is : has ≡ held' =
                at_member registers line.client held' has (rw e at holds) in
                rw (here_is, one_is, has_is) now.2
            | inr other ↦
                let elsewhere : (c == line.client) ≡ false = search (rules, tests) in
                rw elsewhere (manned.each c one has
                (sym (off_member clients line.client c client' other) ∙ at)
                (sym (off_member registers line.client c held' other) ∙ holds))
          ]

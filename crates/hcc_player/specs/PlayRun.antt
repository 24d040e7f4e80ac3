-- What a play of a trace of calls reads, and what it writes.
use Rattle.std.specs.Prelude.{◌≡◌, ◌⊎◌, ℕ, ◌<◌, ◌≤◌, List, ◌++◌, Option, Some, Ok, Err}
use Rattle.std.specs.Prelude.{IsOk, length, slice_get}
use Rattle.std.specs.Io.KnownBytes.{Appends, Keeps}
use Rattle.hcc_rule.specs.declared.key.Key.{Key}
use Rattle.hcc_cache.specs.declared.cache.Cache.{Cache}
use Rattle.hcc_cache.specs.declared.client.Client.{Client}
use Rattle.hcc_cache.specs.declared.closed.Closed.{Closed}
use Rattle.hcc_cache.specs.declared.config.Config.{Config}
use Rattle.hcc_cache.specs.Configs.{shard_geometry}
use Rattle.hcc_player.specs.declared.limits.TheConstants.{MOST_INPUT}
use Rattle.hcc_player.specs.declared.fault.PlayError.{PlayError}
use Rattle.hcc_player.specs.declared.fault.PlayError.TheVariants as plays
use Rattle.hcc_player.specs.declared.run.answer.Answer.{Answer}
use Rattle.hcc_player.specs.declared.run.call.RunLine.{RunLine}
use Rattle.hcc_player.specs.declared.run.registers.Registers.{Registers}
use Rattle.hcc_player.specs.declared.sums.Sums.{Sums}
use Rattle.hcc_player.specs.Bytes.{AppendsPart, Leaves}
use Rattle.hcc_player.specs.Judged.{IsAtFault}
use Rattle.hcc_player.specs.Options.{config_check}
use Rattle.hcc_player.specs.Registers.{AreFilled}
use Rattle.hcc_player.specs.Report.{sums_text}
use Rattle.hcc_player.specs.Sums.{AreSumsOf}
use Rattle.hcc_player.specs.RunAnswers.{answers_text, AreRight, Inserts, IsPlayed, IsRight}
use Rattle.hcc_player.specs.RunStates.{State, States, new_states, with_state}
use Rattle.hcc_player.specs.RunLine.{run_line}
use Rattle.hcc_player.specs.RunOf.{IsRunOf}
use Rattle.hcc_player.specs.Runs.{ClosesAfter, MakesAll}
use Rattle.hcc_player.specs.Script.{lines_of, AllSay}
use Rattle.hcc_player.specs.TraceTag.{run_trace}

-- What a play promises.

-- A text that can be played, and the lines that it says.
abbrev pub IsTrace : Config → List ℕ → List RunLine → Type 0
IsTrace config text lines = (length text ≤ MOST_INPUT) × (run_trace config text ≡ Ok lines)

-- This may be written for this text: a line for each of its lines, and the sums.
pub record IsOutput (config : Config) (text out : List ℕ) : Type 0 where
  pub lines : List RunLine
  pub trace : IsTrace config text lines
  pub played : IsPlayed config lines out

-- This was written for this text: its lines were played so on one cache, whose sums stand at the
-- end.
abbrev pub Writes : Config → (old new : Option (List ℕ)) → (text : List ℕ) → Type 0
Writes config old new text =
    (out : List ℕ) × (is : IsOutput config text out)
    × IsRunOf config is.lines is.played.told is.played.sums × Appends old new out

-- Nothing was written, or a front of what may be written for this text.
abbrev pub WritesFront : Config → (old new : Option (List ℕ)) → (text : List ℕ) → Type 0
WritesFront config old new text =
    Keeps old new ⊎ ((out : List ℕ) × IsOutput config text out × AppendsPart old new out)

-- Each line says a call, and nothing stands behind the last line feed.
abbrev pub SayCalls : Config → List ℕ → Type 0
SayCalls config text = AllSay (run_line config) (lines_of text)

-- Why it ended, where this text was to be read.
abbrev pub EndsRun : Config → PlayError → List ℕ → Type 0
EndsRun config (plays.Refused error) text = config_check config ≡ Err (plays.Refused error)
EndsRun config plays.BadBlock text = ⊥
EndsRun config plays.ReadFailed text = config_check config ≡ Ok tt
EndsRun config plays.TooLarge text = (config_check config ≡ Ok tt) × (MOST_INPUT < length text)
EndsRun config (plays.Text line fault) text = (config_check config ≡ Ok tt)
    × (length text ≤ MOST_INPUT) × IsAtFault (run_line config) text line fault
EndsRun config plays.OutOfMemory text = config_check config ≡ Ok tt
EndsRun config plays.WriteFailed text = (config_check config ≡ Ok tt)
    × (length text ≤ MOST_INPUT) × IsOk (run_trace config text)

-- What its parts promise.

-- These lines were played on one cache, and all that they are answered was written with its sums.
abbrev pub PlaysAll : Config → List RunLine → (old new : Option (List ℕ)) → Type 0
PlaysAll config lines old new =
    (out : List ℕ) × (is : IsPlayed config lines out) × IsRunOf config lines is.told is.sums
    × Appends old new out

-- Each client with its registers is there, and they are as it is told of them.
pub record AreManned {T : Type 0} (fits : T → Key → List ℕ → Type 0) (cache : Cache T)
    (config : Config) (states : States) (clients : List (Client T)) (registers : List Registers)
    : Type 0 where
  pub count : length registers ≡ length clients
  pub each : (c : ℕ) (client : Client T) (held : Registers) → slice_get clients c ≡ Some client
      → slice_get registers c ≡ Some held
      → AreFilled fits cache config (states c) client held.filled.items

-- So much is told of the clients with their registers, under some options.
abbrev pub CanAllPlay : {T : Type 0} → (T → Key → List ℕ → Type 0) → Cache T → List (Client T)
    → List Registers → Type 0
CanAllPlay fits cache clients registers =
    (config : Config) × (states : States) × AreManned fits cache config states clients registers

-- The cache was made in this size, and with as many clients.
pub record IsOfSize {T : Type 0} (config : Config) (cache : Cache T) (clients : List (Client T))
    : Type 0 where
  pub geometry : cache.geometry ≡ shard_geometry config
  pub shards : length cache.shards.items ≡ config.shards
  pub clients_are : length clients ≡ config.clients

-- What these lines insert fits the tag of the cache.
abbrev pub FitsIn : {T : Type 0} → (T → Key → List ℕ → Type 0) → Cache T → List RunLine → Type 0
FitsIn fits cache lines =
    (key : Key) (value : List ℕ) → Inserts lines key value → fits cache.tag key value

-- A line's answer is right, and the clients with their registers are as it says.
abbrev pub Steps : {T : Type 0} → (T → Key → List ℕ → Type 0) → Cache T → RunLine → Answer
    → (old new : List (Client T)) → (was now : List Registers) → Type 0
Steps fits cache line answer old new was now =
    (config : Config) (states : States) → AreManned fits cache config states old was
    → (next : State)
    × IsRight (fits cache.tag) config (states line.client) line.call answer next
    × AreManned fits cache config (with_state states line.client next) new now

-- Right answers to lines, one for each, as their calls were made: their text left behind what was
-- pending, but for what is pending now.
abbrev pub Answered : {T : Type 0} → (Puts : Key → List ℕ → Type 0)
    → (fits : T → Key → List ℕ → Type 0) → Cache T → Config → List RunLine
    → (clients made : List (Client T)) → (was now : List Registers)
    → (old new : Option (List ℕ)) → (pending rest : List ℕ) → Type 0
Answered Puts fits cache config lines clients made was now old new pending rest =
    (told : List Answer) × (last : States) × AreRight Puts config new_states lines told last
    × MakesAll fits cache lines told clients made was now
    × Leaves old new (pending ++ answers_text told) rest

-- Of some right answers to lines, a front left.
abbrev pub AnsweredPart : (Puts : Key → List ℕ → Type 0) → Config → List RunLine
    → (old new : Option (List ℕ)) → (pending : List ℕ) → Type 0
AnsweredPart Puts config lines old new pending =
    (told : List Answer) × (last : States) × AreRight Puts config new_states lines told last
    × AppendsPart old new (pending ++ answers_text told)

-- sums that agree
pub record Agree (sums : Sums) : Type 0 where
  pub charged : sums.charges ≡ sums.usage
  pub occupies : sums.slots ≡ sums.occupied

-- The sums are those of the cache, closed after all was released.
abbrev pub SumsAfter : {T : Type 0} → (fits : T → Key → List ℕ → Type 0) → Cache T
    → List (Client T) → List Registers → Sums → Type 0
SumsAfter fits cache clients registers sums =
    (closed : Closed) × ClosesAfter fits cache clients registers closed × AreSumsOf closed sums

-- what was pending is out with the sums behind it, or a front of that
abbrev pub Ended : {T : Type 0} → (fits : T → Key → List ℕ → Type 0) → Cache T
    → List (Client T) → List Registers → (old new : Option (List ℕ)) → (pending : List ℕ)
    → Type 0
Ended fits cache clients registers old new pending =
    (sums : Sums) × Agree sums × SumsAfter fits cache clients registers sums
    × Appends old new (pending ++ sums_text sums)

abbrev pub EndedPart : (old new : Option (List ℕ)) → (pending : List ℕ) → Type 0
EndedPart old new pending =
    (sums : Sums) × Agree sums × AppendsPart old new (pending ++ sums_text sums)

-- What a play of a script reads, and what it writes.
use Rattle.std.specs.Prelude.{ℕ, ◌<◌, ◌≤◌, List, [], Option, Result, Ok, Err, length}
use Rattle.std.specs.Prelude.{IsOk}
use Rattle.std.specs.Io.KnownBytes.{Keeps}
use Rattle.hcc_core.specs.declared.setup.Setup.{Setup}
use Rattle.hcc_core.specs.declared.event.Event.{Event}
use Rattle.hcc_core.specs.World.{State}
use Rattle.hcc_core.specs.Opening.{opening_of}
use Rattle.hcc_player.specs.declared.limits.TheConstants.{MOST_INPUT}
use Rattle.hcc_player.specs.declared.fault.ScriptFault.{ScriptFault}
use Rattle.hcc_player.specs.declared.fault.PlayError.{PlayError}
use Rattle.hcc_player.specs.declared.fault.PlayError.TheVariants as plays
use Rattle.hcc_player.specs.Line.{line_event}
use Rattle.hcc_player.specs.Script.{script_of, AllSay}
use Rattle.hcc_player.specs.Judged.{IsAtFault}
use Rattle.hcc_player.specs.Text.{events_text}

-- the events of a text, or its first fault
abbrev pub events_in : List ℕ → Result (List Event) ScriptFault
events_in = script_of line_event

-- each line gives an event, and nothing stands behind the last line feed
abbrev pub GiveEvents : List (List ℕ) → Type 0
GiveEvents = AllSay line_event

-- the lines of a script's events, or nothing where the text is at fault
abbrev pub played : State → Result (List Event) ScriptFault → List ℕ
played world (Ok events) = events_text world events
played world (Err fault) = []

-- The text of a script: what its events give in a new world, as a function of the bytes read.
abbrev pub script_text : Setup → List ℕ → List ℕ
script_text setup text = played (opening_of setup) (events_in text)

-- a text that can be played
abbrev pub IsScript : List ℕ → Type 0
IsScript text = (length text ≤ MOST_INPUT) × IsOk (events_in text)

-- Why it ended, where this text was to be read.
abbrev pub EndsAt : PlayError → List ℕ → Type 0
EndsAt plays.ReadFailed text = Unit {0}
EndsAt plays.TooLarge text = MOST_INPUT < length text
EndsAt (plays.Text line fault) text = (length text ≤ MOST_INPUT)
    × IsAtFault line_event text line fault
EndsAt plays.OutOfMemory text = Unit {0}
EndsAt plays.WriteFailed text = IsScript text
EndsAt (plays.Refused error) text = ⊥
EndsAt plays.BadBlock text = ⊥

-- Nothing is written before the whole text was judged.
abbrev pub WritesLate : PlayError → Option (List ℕ) → Option (List ℕ) → Type 0
WritesLate plays.OutOfMemory old new = Unit {0}
WritesLate plays.WriteFailed old new = Unit {0}
WritesLate other old new = Keeps old new

-- why a play ends early
abbrev pub FailsToPlay : PlayError → Type 0
FailsToPlay plays.OutOfMemory = Unit {0}
FailsToPlay plays.WriteFailed = Unit {0}
FailsToPlay other = ⊥

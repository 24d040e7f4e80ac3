-- What the exit status tells.
use Rattle.std.specs.Prelude.{ℕ, Result, Ok, Err}
use Rattle.hcc_player.specs.declared.fault.PlayError.{PlayError}
use Rattle.hcc_player.specs.declared.fault.PlayError.TheVariants as plays
use Rattle.hcc_play.specs.declared.status.Status.{Status}
use Rattle.hcc_play.specs.declared.status.Status.TheVariants.{Done, Refused, Failed, BadOptions, NoMemory}

abbrev pub code_of : Status → ℕ
code_of Done = 0
code_of Refused = 2
code_of Failed = 3
code_of BadOptions = 4
code_of NoMemory = 5

-- the status of a play that ended so
abbrev pub status_of : PlayError → Status
status_of plays.ReadFailed = Failed
status_of plays.TooLarge = Refused
status_of (plays.Text line fault) = Refused
status_of plays.OutOfMemory = NoMemory
status_of plays.WriteFailed = Failed
status_of (plays.Refused error) = BadOptions
status_of plays.BadBlock = BadOptions

-- the status after a play
abbrev pub status_after : Result (Unit {0}) PlayError → Status
status_after (Ok done) = Done
status_after (Err error) = status_of error

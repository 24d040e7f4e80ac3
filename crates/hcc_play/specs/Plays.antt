-- What a play read and wrote, by the status that it ended with.
use Rattle.std.specs.Prelude.{◌⊎◌, ℕ, ◌<◌, List, Option, Result, IfSome, IsErr, length}
use Rattle.std.specs.Io.KnownBytes.{Appends, Keeps}
use Rattle.hcc_cache.specs.declared.config.Config.{Config}
use Rattle.hcc_core.specs.declared.setup.Setup.{Setup}
use Rattle.hcc_player.specs.declared.fault.TextFault.{TextFault}
use Rattle.hcc_player.specs.declared.limits.TheConstants.{MOST_INPUT}
use Rattle.hcc_player.specs.declared.options.Options.{Options}
use Rattle.hcc_player.specs.BlocksLine.{block_line}
use Rattle.hcc_player.specs.Bytes.{AppendsPart}
use Rattle.hcc_player.specs.Judged.{IsAtFault}
use Rattle.hcc_player.specs.Line.{line_event}
use Rattle.hcc_player.specs.Options.{config_check}
use Rattle.hcc_player.specs.Play.{IsScript, script_text}
use Rattle.hcc_player.specs.PlayBlocks.{WritesPart}
use Rattle.hcc_player.specs.PlayBlocks as reports
use Rattle.hcc_player.specs.PlayRun.{WritesFront}
use Rattle.hcc_player.specs.PlayRun as traces
use Rattle.hcc_player.specs.RunLine.{run_line}
use Rattle.hcc_play.specs.declared.status.Status.{Status}
use Rattle.hcc_play.specs.declared.status.Status.TheVariants.{Done, Refused, Failed, BadOptions, NoMemory}

-- the text is too large, or a line is at fault
abbrev pub IsRefused : {A : Type 0} → (List ℕ → Result A TextFault) → List ℕ → Type 0
IsRefused says text = (MOST_INPUT < length text)
    ⊎ ((line : ℕ) × (fault : TextFault) × IsAtFault says text line fault)

-- A play of a script in a world of this setup. Where a read or a write failed, or memory was
-- refused, a front of its output may be out.
abbrev pub EndsCore : Setup → (read old new : Option (List ℕ)) → Status → Type 0
EndsCore setup read old new Done =
    IfSome read (λ text. IsScript text × Appends old new (script_text setup text))
EndsCore setup read old new Refused = IfSome read (IsRefused line_event) × Keeps old new
EndsCore setup read old new Failed =
    IfSome read (λ text. AppendsPart old new (script_text setup text))
EndsCore setup read old new BadOptions = IfSome read (λ text. ⊥)
EndsCore setup read old new NoMemory =
    IfSome read (λ text. AppendsPart old new (script_text setup text))

-- A play of a trace of calls on a cache of this size.
abbrev pub EndsCalls : Config → (read old new : Option (List ℕ)) → Status → Type 0
EndsCalls config read old new Done = IfSome read (traces.Writes config old new)
EndsCalls config read old new Refused = IfSome read (IsRefused (run_line config)) × Keeps old new
EndsCalls config read old new Failed = IfSome read (WritesFront config old new)
EndsCalls config read old new BadOptions =
    IfSome read (λ text. IsErr (config_check config)) × Keeps old new
EndsCalls config read old new NoMemory = IfSome read (WritesFront config old new)

-- nothing was written, or a front of a report
abbrev pub WritesReportFront : List (List ℕ) → Options → (steady : (client : ℕ) → Type 0)
    → (old new : Option (List ℕ)) → (text : List ℕ) → Type 0
WritesReportFront files options steady old new text =
    Keeps old new ⊎ WritesPart files options steady old new text

-- A play of block reads over these files, with options that can be.
abbrev pub EndsReads : List (List ℕ) → Options → (steady : (client : ℕ) → Type 0)
    → (read old new : Option (List ℕ)) → Status → Type 0
EndsReads files options steady read old new Done =
    IfSome read (reports.Writes files options steady old new)
EndsReads files options steady read old new Refused =
    IfSome read (IsRefused (block_line options.config.clients)) × Keeps old new
EndsReads files options steady read old new Failed =
    IfSome read (WritesReportFront files options steady old new)
EndsReads files options steady read old new BadOptions = IfSome read (λ text. ⊥)
EndsReads files options steady read old new NoMemory = Keeps old new

-- What a play of block reads reports, and why it ends.
use Rattle.std.specs.Prelude.{◌≡◌, ℕ, ◌<◌, ◌≤◌, List, Option, Result, Ok, Err, IsOk, length}
use Rattle.std.specs.Io.KnownBytes.{Appends, Keeps}
use Rattle.hcc_player.specs.declared.blocks.line.BlockRead.{BlockRead}
use Rattle.hcc_player.specs.declared.blocks.tally.ClientReport.{ClientReport}
use Rattle.hcc_player.specs.declared.fault.PlayError.{PlayError}
use Rattle.hcc_player.specs.declared.fault.PlayError.TheVariants as plays
use Rattle.hcc_player.specs.declared.limits.TheConstants.{MOST_INPUT}
use Rattle.hcc_player.specs.declared.options.Options.{Options}
use Rattle.hcc_player.specs.declared.sums.Sums.{Sums}
use Rattle.hcc_player.specs.BlocksLine.{block_line, reads_in}
use Rattle.hcc_player.specs.BlocksReport.{report_text}
use Rattle.hcc_player.specs.Bytes.{AppendsPart}
use Rattle.hcc_player.specs.Judged.{FailsToJudge, IsAtFault}
use Rattle.hcc_player.specs.Options.{options_check}
use Rattle.hcc_player.specs.Reading.{IsReadOf}
use Rattle.hcc_player.specs.Tally.{found_by, lines_for, IsTally}
use Rattle.hcc_player.specs.Work.{EachAt}

-- What each of so many clients reports of its own reads over these files, in blocks of this size,
-- and what is left of the cache: the charges and the slots of its entries are what its words say.
-- A client whose own source is steady has no faults, whatever others do.
pub record ArePlayed (files : List (List ℕ)) (size clients : ℕ) (steady : (client : ℕ) → Type 0)
    (reads_of : (client : ℕ) → List BlockRead) (sums : Sums) (told : List ClientReport)
    : Type 0 where
  pub count : length told ≡ clients
  pub tallies : EachAt
      (λ client r. IsTally (steady client) (found_by files size (reads_of client)) r) told
  pub charged : sums.charges ≡ sums.usage
  pub occupies : sums.slots ≡ sums.occupied

-- These bytes report the reads of a trace, each client's by itself: all were made on one new cache,
-- and the sums are those of that cache, closed.
pub record IsReport (files : List (List ℕ)) (o : Options) (steady : (client : ℕ) → Type 0)
    (text bytes : List ℕ) : Type 0 where
  pub reads : List BlockRead
  pub said : reads_in o.config.clients text ≡ Ok reads
  pub sums : Sums
  pub told : List ClientReport
  pub played : ArePlayed files o.block o.config.clients steady
      (λ client. lines_for client reads) sums told
  pub on_cache : IsReadOf files o (λ client. lines_for client reads) sums told
  pub bytes_are : bytes ≡ report_text sums told

-- a report of the text was written, or a front of one
abbrev pub Writes : List (List ℕ) → Options → (steady : (client : ℕ) → Type 0)
    → (old new : Option (List ℕ)) → (text : List ℕ) → Type 0
Writes files o steady old new text =
    (bytes : List ℕ) × (length text ≤ MOST_INPUT) × IsReport files o steady text bytes
    × Appends old new bytes

abbrev pub WritesPart : List (List ℕ) → Options → (steady : (client : ℕ) → Type 0)
    → (old new : Option (List ℕ)) → (text : List ℕ) → Type 0
WritesPart files o steady old new text =
    (bytes : List ℕ) × (length text ≤ MOST_INPUT) × IsReport files o steady text bytes
    × AppendsPart old new bytes

-- Why a play ended whose options weren't refused, where this text was to be read.
abbrev pub EndsPlay : (clients : ℕ) → PlayError → List ℕ → Type 0
EndsPlay clients plays.ReadFailed text = Unit {0}
EndsPlay clients plays.TooLarge text = MOST_INPUT < length text
EndsPlay clients (plays.Text line fault) text = (length text ≤ MOST_INPUT)
    × IsAtFault (block_line clients) text line fault
EndsPlay clients plays.OutOfMemory text = Unit {0}
EndsPlay clients plays.WriteFailed text = (length text ≤ MOST_INPUT) × IsOk (reads_in clients text)
EndsPlay clients (plays.Refused error) text = ⊥
EndsPlay clients plays.BadBlock text = ⊥

-- Why it ended: the options were refused, or something failed later.
abbrev pub EndsBlocks : Options → PlayError → List ℕ → Type 0
EndsBlocks o error text = by (options_check o)
  where
    by : Result (Unit {0}) PlayError → Type 0
    by (Ok fine) = EndsPlay o.config.clients error text
    by (Err refusal) = error ≡ refusal

-- Nothing is written before the whole report is there.
abbrev pub WritesAtEnd : PlayError → (old new : Option (List ℕ)) → Type 0
WritesAtEnd plays.WriteFailed old new = Unit {0}
WritesAtEnd other old new = Keeps old new

-- why no report was made of a text
abbrev pub FailsToReport : (clients : ℕ) → PlayError → List ℕ → Type 0
FailsToReport clients = FailsToJudge (block_line clients)

-- The grammar of traces of block reads.
use Rattle.std.specs.Prelude.{ℕ, List, Result, Ok}
use Rattle.hcc_player.specs.declared.blocks.line.BlockRead.{BlockRead}
use Rattle.hcc_player.specs.declared.fault.TextFault.{TextFault}
use Rattle.hcc_player.specs.declared.fault.ScriptFault.{ScriptFault}
use Rattle.hcc_player.specs.Number.{◌>>=◌, number_below, small_number_of}
use Rattle.hcc_player.specs.Script.{script_of}
use Rattle.hcc_player.specs.Words.{word_at, of_words, line_of}

-- `client file index`: three numbers, the client below the number of clients
unfoldable pub block_read : (clients : ℕ) → List (List ℕ) → Result BlockRead TextFault
block_read clients words = of_words 3 words (do
  client ← number_below clients (word_at words 0)
  file ← small_number_of (word_at words 1)
  index ← small_number_of (word_at words 2)
  Ok (record { client = client; file = file; index = index }))

-- what a line says that a line feed ends
abbrev pub block_line : (clients : ℕ) → List ℕ → Result BlockRead TextFault
block_line clients = line_of (block_read clients)

-- the reads of a trace, or its first fault
abbrev pub reads_in : (clients : ℕ) → List ℕ → Result (List BlockRead) ScriptFault
reads_in clients = script_of (block_line clients)

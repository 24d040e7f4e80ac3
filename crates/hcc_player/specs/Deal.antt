-- How lines are dealt to their clients.
use Rattle.std.specs.Prelude.{◌≡◌, ℕ, ◌<◌, List, [], ◌∷◌, ◌++◌, Result, Ok, Err, length}
use Rattle.std.specs.Prelude.{slice_index_or, slice_set}
use Rattle.hcc_player.specs.declared.blocks.line.BlockRead.{BlockRead}
use Rattle.hcc_player.specs.declared.fault.ScriptFault.{ScriptFault}
use Rattle.hcc_player.specs.Tally.{lines_for}

-- The line joins the list of its client.
abbrev pub deal_one : List (List BlockRead) → BlockRead → List (List BlockRead)
deal_one lists line =
    slice_set lists line.client (slice_index_or lists line.client [] ++ line ∷ [])

-- lines join the lists of their clients, one after another
abbrev pub deal_all : List (List BlockRead) → List BlockRead → List (List BlockRead)
deal_all lists [] = lists
deal_all lists (line ∷ lines) = deal_all (deal_one lists line) lines

-- Each of so many clients has its lines, in order.
pub record AreDealt (clients : ℕ) (lines : List BlockRead) (lists : List (List BlockRead))
    : Type 0 where
  pub count : length lists ≡ clients
  pub each : (client : ℕ) → client < clients
      → slice_index_or lists client [] ≡ lines_for client lines

-- Each of so many clients has the reads that were said for it; nothing is said of a text at fault.
abbrev pub DealtOf : (clients : ℕ) → Result (List BlockRead) ScriptFault
    → (lists : List (List BlockRead)) → Type 0
DealtOf clients (Ok reads) lists = AreDealt clients reads lists
DealtOf clients (Err fault) lists = Unit {0}

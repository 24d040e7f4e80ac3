-- What a whole play of a trace of calls is.
use Rattle.std.specs.Prelude.{◌≡◌, ◌+◌, List, length}
use Rattle.hcc_core.specs.Sums.{total}
use Rattle.hcc_cache.specs.declared.cache.Cache.{Cache}
use Rattle.hcc_cache.specs.declared.client.Client.{Client}
use Rattle.hcc_cache.specs.declared.closed.Closed.{Closed}
use Rattle.hcc_cache.specs.declared.config.Config.{Config}
use Rattle.hcc_cache.specs.Opened.{IsOpened}
use Rattle.hcc_cache.specs.Totals.{taken_by}
use Rattle.hcc_player.specs.declared.run.answer.Answer.{Answer}
use Rattle.hcc_player.specs.declared.run.call.RunLine.{RunLine}
use Rattle.hcc_player.specs.declared.run.registers.Registers.{Registers}
use Rattle.hcc_player.specs.declared.run.tag.TraceTag.{TraceTag}
use Rattle.hcc_player.specs.declared.sums.Sums.{Sums}
use Rattle.hcc_player.specs.RunAlone.{AreAllExact}
use Rattle.hcc_player.specs.RunTold.{AreAllTold, new_told}
use Rattle.hcc_player.specs.Runs.{AreEmpty, ClosesAfter, LeavesPlaced, MakesAll, placed_in}
use Rattle.hcc_player.specs.Sums.{AreSumsOf}
use Rattle.hcc_player.specs.TraceTag.{fits_trace}

-- The lines of a trace were played on one new cache of these options, and were answered so. Then it
-- was closed, and these are its sums: what is left are entries that its lines placed, which are as
-- many as are left and as its clients took.
pub record IsRunOf (config : Config) (lines : List RunLine) (told : List Answer) (sums : Sums)
    : Type 0 where
  pub tag : TraceTag
  pub cache : Cache TraceTag
  pub first : List (Client TraceTag)
  pub last : List (Client TraceTag)
  pub empty : List Registers
  pub kept : List Registers
  pub opened : IsOpened config tag cache first
  pub alike : length empty ≡ length first
  pub nothing : AreEmpty empty
  pub plays : MakesAll fits_trace cache lines told first last empty kept
  pub closed : Closed
  pub ends : ClosesAfter fits_trace cache last kept closed
  pub sums_are : AreSumsOf closed sums
  pub counted : sums.slots + total taken_by ends.left ≡ placed_in lines told
  pub leaves : LeavesPlaced lines told sums
  -- with one client the answers say exactly what is there
  pub alone : config.clients ≡ 1
      → AreAllExact cache fits_trace lines told first last empty kept plays
  -- And as long as no insertion had cause to evict they are as the lines and answers before tell:
  -- at the beginning nothing is there.
  pub foretold : config.clients ≡ 1
      → AreAllTold config cache fits_trace new_told lines told first last empty kept plays

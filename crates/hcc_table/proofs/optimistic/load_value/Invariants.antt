use Rattle.std.proofs.Common.{◌+◌, ◌*◌}
use Rattle.hcc_table.proofs.Peeks.{HasLoaded}
use Rattle.hcc_table.proofs.optimistic.load_value.Given as goal

abbrev pub invariant-loop-four : goal.invariant-loop-four
invariant-loop-four g l =
    HasLoaded l.table l.at.slot l.count (4 * l.four) l.words l.fn.seat l.seat

abbrev pub invariant-loop-part : goal.invariant-loop-part
invariant-loop-part g l =
    HasLoaded l.table l.at.slot l.count (4 * l.four + l.part) l.words l.fn.seat l.seat

abbrev pub invariant-loop-index : goal.invariant-loop-index
invariant-loop-index g l = HasLoaded l.table l.at.slot l.count l.index l.words l.fn.seat l.seat

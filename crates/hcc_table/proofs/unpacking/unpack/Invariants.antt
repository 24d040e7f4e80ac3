use Rattle.std.proofs.Common.{◌*◌}
use Rattle.hcc_table.proofs.Unpackings.{IsUnpacked}
use Rattle.hcc_table.proofs.unpacking.unpack.Given as goal

abbrev pub invariant-loop-index : goal.invariant-loop-index
invariant-loop-index l = IsUnpacked l.words l.count (8 * l.index) l.fn.buffer l.buffer

use Rattle.std.proofs.Common.{◌≤◌, ◌+◌, length}
use Rattle.std.specs.Io.KnownBytes.{Consumes}
use Rattle.hcc_player.specs.declared.limits.TheConstants.{MOST_INPUT}
use Rattle.hcc_player.proofs.input.read_by.Given as goal

abbrev pub invariant-loop : goal.invariant-loop
invariant-loop g l = record {
  given : Consumes (g.R.Read.remaining l.initial.reader) (g.R.Read.remaining l.reader)
      l.bytes.items;
  few : length l.bytes.items ≤ MOST_INPUT + 1;
}

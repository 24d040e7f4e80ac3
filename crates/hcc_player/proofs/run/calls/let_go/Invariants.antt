use Rattle.std.proofs.Common.{take, drop}
use Rattle.hcc_player.specs.Registers.{CanPlay}
use Rattle.hcc_player.specs.Runs.{LetsGo}
use Rattle.hcc_player.proofs.run.calls.let_go.Given as goal

abbrev pub invariant-loop-filled : goal.invariant-loop-filled
invariant-loop-filled g l = record {
  can : CanPlay g.T.Tag.fits l.cache l.client (drop l.filled-index l.filled-items);
  did : LetsGo g.T.Tag.fits l.cache (take l.filled-index l.filled-items) l.initial.client l.client;
}

use Rattle.hcc_rule.specs.Callers.{clients_of}
use Rattle.hcc_table.specs.Still.{GoesOnStill}
use Rattle.hcc_shard.proofs.Pins.{IsPinning}
use Rattle.hcc_shard.proofs.Pinning.{CountedTo}
use Rattle.hcc_shard.proofs.shard.Shard.pinned_usage.Given as goal

abbrev pub invariant-loop-slot : goal.invariant-loop-slot
invariant-loop-slot g l = record {
  pins : IsPinning (clients_of l.self.table) l.initial.sum l.slot l.sum l.fn.seat l.seat;
  counts : CountedTo g.T.Tag.fits l.self.table l.slot l.initial.sum l.sum l.initial.seat l.seat;
  stays : GoesOnStill l.self.table l.fn.seat.seat l.seat.seat;
}

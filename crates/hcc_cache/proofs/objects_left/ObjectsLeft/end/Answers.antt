use Rattle.std.proofs.Common.{arith}
use Rattle.hcc_cache.proofs.HandedBack.ObjectsWalked.{left_past}
use Rattle.hcc_cache.proofs.objects_left.ObjectsLeft.end.Goals as goal

pub returns-clause-ended : goal.returns-clause-ended
returns-clause-ended c =
    left_past c.args.self.closed c.args.self.shard c.args.self.slot (omega arith)

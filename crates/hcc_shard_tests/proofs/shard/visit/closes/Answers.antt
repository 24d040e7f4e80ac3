use Rattle.std.proofs.Common.{rules}
use Rattle.hcc_shard_tests.proofs.ShardGuests.{all_home}
use Rattle.hcc_shard_tests.proofs.shard.visit.closes.Goals as goal

pub close-closed-requires : goal.close-closed-requires
close-closed-requires g c = record {
  back = all_home c.args.shard c.args.back.items c.requires.back (search rules);
}

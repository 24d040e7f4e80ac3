use Rattle.hcc_shard_tests.proofs.ShardGuests.{all_fit}
use Rattle.hcc_shard_tests.proofs.shard.visit.reopened.Goals as goal

pub reopen-requires-clause-fitting : goal.reopen-requires-clause-fitting
reopen-requires-clause-fitting c = all_fit c.args.image.now.items

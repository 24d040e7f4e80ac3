use Rattle.std.proofs.Common.{◌/◌, ◌^◌}
use Rattle.hcc_rule.proofs.Probes.ProbeNumbers.{mask_within}
use Rattle.hcc_cache.proofs.seeded.shard_of.Goals as goal

pub returns-clause-exact : goal.returns-clause-exact
returns-clause-exact c =
    mask_within 6 c.args.shards (c.args.key.in_shard.w0 / 2 ^ 32) c.requires.power

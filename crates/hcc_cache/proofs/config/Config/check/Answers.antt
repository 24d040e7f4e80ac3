use Rattle.std.proofs.Common.{rules}
use Rattle.hcc_cache.proofs.Basics.ConfigRanges.{accepted}
use Rattle.hcc_cache.proofs.config.Config.check.Goals as goal

pub returns-clause-allowed : goal.returns-clause-allowed
returns-clause-allowed c = accepted c.args.self.now (search rules)

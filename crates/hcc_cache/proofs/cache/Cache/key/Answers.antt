use Rattle.std.proofs.Common.{arith}
use Rattle.hcc_cache.proofs.Searches.ReadByHandle.{key_kept}
use Rattle.hcc_cache.proofs.cache.Cache.key.Goals as goal

pub returns-clause-exact : goal.returns-clause-exact
returns-clause-exact g c =
    key_kept c.args.self.now c.args.client.now c.args.handle c.hold.result c.requires.known
    c.hold.ensures.held c.hold.ensures.there (omega arith) (omega arith)

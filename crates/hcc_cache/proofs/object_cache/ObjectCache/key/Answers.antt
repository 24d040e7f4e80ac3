use Rattle.std.proofs.Common.{arith}
use Rattle.hcc_cache.proofs.Searches.ReadByHandle.{key_kept}
use Rattle.hcc_cache.proofs.object_cache.ObjectCache.key.Goals as goal

pub returns : goal.returns
returns c = record {
  exact =
      key_kept c.args.self.now.cache c.args.client.now.client c.args.handle c.hold.result
      c.requires.known.known c.hold.ensures.held c.hold.ensures.there (omega arith) (omega arith);
}

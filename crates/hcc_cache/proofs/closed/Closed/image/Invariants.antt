use Rattle.std.proofs.Common.{◌≡◌, map, take}
use Rattle.hcc_cache.specs.Images.{visible_entries, visible_of}
use Rattle.hcc_cache.proofs.closed.Closed.image.Given as goal

abbrev pub invariant-loop-shard : goal.invariant-loop-shard
invariant-loop-shard l =
    map visible_of l.image.items ≡ visible_entries l.self.seed (take l.shard l.self.shards.items)

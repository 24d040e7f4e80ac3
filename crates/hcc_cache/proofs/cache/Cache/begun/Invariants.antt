use Rattle.std.proofs.Common.{map}
use Rattle.hcc_cache.specs.Images.{visible_of}
use Rattle.hcc_cache.specs.Taken.{split_of}
use Rattle.hcc_cache.proofs.Beginnings.ReopenedShards.{IsReopening}
use Rattle.hcc_cache.proofs.cache.Cache.begun.Given as goal

abbrev pub invariant-loop-draft : goal.invariant-loop-draft
invariant-loop-draft g l =
    IsReopening g.T.Tag.fits l.config l.tag
    (split_of l.config (map visible_of l.fn.image.items)).taken
    l.initial.draft-iterator.rest.items l.shards.items l.clients.items l.most
    l.draft-iterator.rest.items

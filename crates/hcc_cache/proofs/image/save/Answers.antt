use Rattle.std.proofs.Common.{refl}
use Rattle.hcc_cache.proofs.Images.ShardByShard.{saving_more}
use Rattle.hcc_cache.proofs.image.save.Goals as goal

pub loop-entry-preserved : goal.loop-entry-preserved
loop-entry-preserved c =
    rw c.in_ok-push.ensures.items
    (saving_more c.args.seed c.args.image.now.items c.args.entries.items c.loop-entry.image.items
    c.in-Some.entry c.next.new.self.rest.items _
    (rw c.in-Some.ensures.steps.0 at c.loop-entry.invariant)
    (rw c.key_from.ensures.words refl))

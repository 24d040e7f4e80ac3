use Rattle.std.proofs.Common.{take_all, sym, ◌∙◌, ap, arith}
use Rattle.hcc_cache.specs.Images.{visible_entries}
use Rattle.hcc_cache.proofs.Images.ShardByShard.{shown_visible, visible_more}
use Rattle.hcc_cache.proofs.closed.Closed.image.Goals as goal

pub loop-shard-preserved : goal.loop-shard-preserved
loop-shard-preserved c =
    let seed = c.args.self.now.seed in
    let left = c.shard.result.now in
    let told =
    shown_visible seed left c.in_ok-entries.entries.items c.in_ok-entries.ensures.exact in
    c.in_ok-save.ensures
    ∙ rw (c.loop-shard.invariant, told)
    (sym (visible_more seed c.args.self.now.shards.items c.loop-shard.shard left c.shard.ensures))

pub returns : goal.returns
returns c =
    let last = c.loop-shard-test.false in
    let near = c.shards-shard-end.ensures in
    c.loop-shard.invariant
    ∙ ap (visible_entries c.args.self.now.seed)
    (take_all c.loop-shard.shard c.args.self.now.shards.items (omega arith))

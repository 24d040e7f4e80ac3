use Rattle.std.proofs.Common.{ap, ◌∙◌}
use Rattle.hcc_cache.specs.Keys.{key_from}
use Rattle.hcc_cache.proofs.closed.Closed.entry.Goals as goal

pub returns-in_err-entry : goal.returns-in_err-entry
returns-in_err-entry c =
    (c.shard.result.now, c.shard.ensures, rw c.from_residual.ensures c.in_err-entry.ensures)

pub returns : goal.returns
returns c =
    let told = c.in_ok-entry.ensures in
    let key = c.key_from.ensures.words ∙ ap (key_from c.args.self.now.seed) told.1 in
    (c.shard.result.now, c.shard.ensures, (told.0, key, told.2, told.3, told.4))

use Rattle.std.proofs.Common.{◌≡◌, ap, ◌∙◌}
use Rattle.hcc_rule.specs.declared.geometry.Geometry.{Geometry}
use Rattle.hcc_rule.specs.Callers.{clients_of}
use Rattle.hcc_cache.proofs.Calm.Alone.{undisturbed_alone}
use Rattle.hcc_cache.proofs.undisturbed.law_undisturbed_alone.Goals as goal

pub returns : goal.returns
returns g c config tag cache is_of one number shard shard_is old new more goes_on allowed =
    let made = is_of.shards number shard shard_is in
    let alone : clients_of shard.table ≡ 1 =
    ap (λ (x : Geometry). x.clients) made.geometry ∙ one in
    undisturbed_alone shard.table alone old new more goes_on allowed

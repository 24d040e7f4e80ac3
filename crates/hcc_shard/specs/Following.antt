-- What a witness tells of a shard.
use Rattle.std.specs.Prelude.{List}
use Rattle.hcc_rule.specs.declared.view.Done.{Done}
use Rattle.hcc_rule.specs.Acts.{heard}
use Rattle.hcc_rule.specs.Callers.{IsWitnessAt}
use Rattle.hcc_shard.specs.declared.following.ShardWitness.{ShardWitness}
use Rattle.hcc_shard.specs.declared.shard.Shard.{Shard}

-- all that its giver knew of what was done at the shard, in order
abbrev pub told_by : {T : Type 0} → ShardWitness T → List Done
told_by witness = heard witness.seat

-- a witness that a client of this shard gave
abbrev pub IsWitnessOf : {T A : Type 0} → Shard T A → ShardWitness T → Type 0
IsWitnessOf shard witness = IsWitnessAt shard.table witness.seat

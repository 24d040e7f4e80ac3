-- What C has of a cache of objects that was closed.
use Rattle.std.specs.Prelude.{◌≡◌, ◌≤◌, ◌∷◌, [], List, Option, Some, None, Result, IfErr, IfNone, IfSome, IsOk, OnOk, length, option_map}
use Rattle.hcc_rule.specs.declared.key.Key.{Key}
use Rattle.hcc_cache.specs.declared.objects.Object.{Object}
use Rattle.hcc_cache.specs.declared.objects_left.ObjectsLeft.{ObjectsLeft}
use Rattle.hcc_cache.specs.ObjectsLeft.{left_at}
use Rattle.hcc_c.specs.declared.refusal.Refusal.{Refusal}
use Rattle.hcc_c.specs.declared.refusal.Refusal.TheVariants.{Untaken}

-- the keys and objects that it has to hand out yet, in order
abbrev pub left_in : Option ObjectsLeft → List (Key × Object)
left_in None = []
left_in (Some left) = left_at left.closed left.shard left.slot

-- it was walked past the last shard
abbrev pub IsPast : Option ObjectsLeft → Type 0
IsPast None = Unit {0}
IsPast (Some left) = length left.closed.shards.items ≤ left.shard

-- The next of them is handed out; none where all were.
pub record GivesNext (answer : Option (Key × Object)) (old new : Option ObjectsLeft) : Type 0 where
  pub some : IfSome answer (λ given. left_in old ≡ given ∷ left_in new)
  pub none : IfNone answer ((left_in old ≡ []) × IsPast new)
  pub same : option_map (λ (left : ObjectsLeft). left.closed) new
      ≡ option_map (λ (left : ObjectsLeft). left.closed) old

-- The walk is ended: nothing is left. It is refused where `next` hasn't said so.
pub record EndsWalk (answer : Result (Unit {0}) Refusal) (left : Option ObjectsLeft) : Type 0 where
  pub ended : OnOk answer (left_in left ≡ [])
  pub past : IsPast left → IsOk answer
  pub refused : IfErr answer (λ e. e ≡ Untaken)

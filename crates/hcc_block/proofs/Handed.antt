-- What a value was handed to.
use Rattle.std.proofs.Common.{◌≡◌, ◌↔◌, ℕ, ◌<◌, ◌≤◌, true, List, Result, Ok, length, subst}
use Rattle.std.specs.Prelude.{IsErrOf}
use Rattle.hcc_rule.specs.declared.key.Key.{Key}
use Rattle.hcc_shard.specs.Inserted.{inserting, inserting_between}
use Rattle.hcc_cache.specs.declared.cache.Cache.{Cache}
use Rattle.hcc_cache.specs.declared.client.Client.{Client}
use Rattle.hcc_cache.specs.declared.errors.InsertError.{InsertError}
use Rattle.hcc_cache.specs.declared.errors.InsertError.TheVariants.{Spent, TooLarge}
use Rattle.hcc_cache.specs.declared.inserting.Inserted.{Inserted}
use Rattle.hcc_cache.specs.declared.inserting.Inserted.TheVariants.{Placed}
use Rattle.hcc_cache.specs.declared.priority.Priority.TheVariants.{Low}
use Rattle.hcc_cache.specs.Calls.{OnlyAt, TakesAtMost, TakesFor, shard_in}
use Rattle.hcc_cache.specs.Inserts.{Inserts, InsertsAt}
use Rattle.hcc_cache.specs.Moments.{KnowsShown}
use Rattle.hcc_block.specs.Reads.{Hands}

module _ {T : Type 0} (cache : Cache T) (key : Key) (fits : T → Key → List ℕ → Type 0)
    (value : List ℕ) (charge : ℕ) (answer : Result Inserted InsertError) (old new : Client T) where
  -- An insertion of a value with its length as the charge, at priority Low.
  pub handed : charge ≡ length value
      → (IsErrOf answer Spent ↔ (old.left ≡ 0))
      → (IsErrOf answer TooLarge
      ↔ ((0 < old.left) × (cache.strict ≡ true) × (cache.capacity < charge)))
      → Inserts cache key charge Low value answer old new
      → InsertsAt cache fits key charge Low answer old new
      → (cache.geometry.clients ≡ 1 → answer ≡ Ok Placed → KnowsShown cache key new)
      → OnlyAt (shard_in cache key) old new
      → (0 < old.left → (cache.strict ≡ true → charge ≤ cache.capacity)
      → TakesFor cache 7 (inserting_between cache.geometry.slots cache.geometry.room)
      (shard_in cache key) old new)
      → TakesAtMost (inserting cache.geometry.slots cache.geometry.room) old new
      → Hands cache key fits value old new
  handed count spent large inserts evicts shown others frees steps = record {
    answer = answer;
    spent = spent;
    large = subst (λ n. IsErrOf answer TooLarge
        ↔ ((0 < old.left) × (cache.strict ≡ true) × (cache.capacity < n))) count large;
    inserts = subst (λ n. Inserts cache key n Low value answer old new) count inserts;
    evicts = subst (λ n. InsertsAt cache fits key n Low answer old new) count evicts;
    shown = shown;
    others = others;
    frees = subst (λ n. 0 < old.left → (cache.strict ≡ true → n ≤ cache.capacity)
        → TakesFor cache 7 (inserting_between cache.geometry.slots cache.geometry.room)
        (shard_in cache key) old new) count frees;
    steps = steps;
  }

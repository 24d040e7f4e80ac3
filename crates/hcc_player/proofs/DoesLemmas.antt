-- What calls that fill a register did.
use Rattle.std.proofs.Common.{◌≡◌, ℕ, List, Some}
use Rattle.hcc_rule.specs.declared.key.Key.{Key}
use Rattle.hcc_cache.specs.declared.cache.Cache.{Cache}
use Rattle.hcc_cache.specs.declared.client.Client.{Client}
use Rattle.hcc_cache.specs.declared.handle.Handle.{Handle}
use Rattle.hcc_cache.specs.declared.inserting.Inserted.{Inserted}
use Rattle.hcc_cache.specs.declared.inserting.Inserted.TheVariants as inserted
use Rattle.hcc_cache.specs.declared.priority.Priority.{Priority}
use Rattle.hcc_cache.specs.Calls.{OnlyAt, shard_in}
use Rattle.hcc_cache.specs.Inserts.{InsertsPinnedAt, InsertsWith}
use Rattle.hcc_cache.specs.Moments.{KnowsShown}
use Rattle.hcc_player.specs.declared.run.call.Call.TheVariants as calls
use Rattle.hcc_player.specs.declared.run.registers.Filled.{Filled}
use Rattle.hcc_player.specs.Registers.{at}
use Rattle.hcc_player.specs.RunAnswers.{placed_answer}
use Rattle.hcc_player.specs.RunCalls.{Does, IsOfWords, MakesPinned}

module _ {T : Type 0} (fits : T → Key → List ℕ → Type 0) (cache : Cache T) where
  -- an insertion with a handle
  pub pin_did : (old new : Client T) (was now : List Filled) (r : ℕ) (key : Key)
      (charge : ℕ) (priority : Priority) (value : List ℕ) (handle : Handle) (told : Inserted)
      → InsertsWith cache key charge priority value handle told old new
      → InsertsPinnedAt cache fits key charge priority told old new → IsOfWords key
      → (cache.geometry.clients ≡ 1 → told ≡ inserted.Placed → KnowsShown cache key new)
      → OnlyAt (shard_in cache key) old new → at now r ≡ Some handle
      → Does fits cache (calls.Pin r key charge priority value) (placed_answer told) old new was now
  unfolding Does
  pin_did old new was now r k t q v handle told inserts evicts w shown others on =
      by told inserts (record {
        handle = handle;
        filled = on;
        inserts = inserts;
        evicts = evicts;
        words = w;
        shown = shown;
        others = others;
      })
    where
      by : (told : Inserted) → InsertsWith cache k t q v handle told old new
          → MakesPinned fits cache k t q v told (at now r) old new
          → Does fits cache (calls.Pin r k t q v) (placed_answer told) old new was now
      by inserted.Placed inserts made = made
      by inserted.Standalone inserts made = made
      by inserted.Dropped inserts made = absurd inserts

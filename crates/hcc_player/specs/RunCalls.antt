-- What the lines of a trace of calls do on the cache, as its own calls say it.
use Rattle.std.specs.Prelude.{◌≡◌, ℕ, ◌≤◌, ◌<◌, ◌+◌, ◌^◌, true, false, Bool, List, Option, Some, None, Result, Ok}
use Rattle.hcc_rule.specs.declared.key.Key.{Key}
use Rattle.hcc_rule.specs.Looked.{after_look}
use Rattle.hcc_shard.specs.Callers.{LoadsDisplacement, LoadsWord}
use Rattle.hcc_cache.specs.declared.cache.Cache.{Cache}
use Rattle.hcc_cache.specs.declared.client.Client.{Client}
use Rattle.hcc_cache.specs.declared.errors.InsertError.{InsertError}
use Rattle.hcc_cache.specs.declared.handle.Handle.{Handle}
use Rattle.hcc_cache.specs.declared.inserting.Inserted.{Inserted}
use Rattle.hcc_cache.specs.declared.inserting.Inserted.TheVariants as inserted
use Rattle.hcc_cache.specs.declared.priority.Priority.{Priority}
use Rattle.hcc_cache.specs.Calls.{AtShard, Erases, ErasesFor, Finds, GivesUp, Misses, OnlyAt, Reads}
use Rattle.hcc_cache.specs.Calls.{Releases, Rerefs, SearchesFor, Works, shard_in}
use Rattle.hcc_cache.specs.Clients.{Held, held_of, view_at}
use Rattle.hcc_cache.specs.Inserts.{Inserts, InsertsAt, InsertsPinnedAt, InsertsWith}
use Rattle.hcc_cache.specs.Inserts.{RefusesPinnedAt, RefusesWith}
use Rattle.hcc_cache.specs.Moments.{KnowsShown}
use Rattle.hcc_cache.specs.Stays.{ReleasesIn, Stays, StaysWhereStanding}
use Rattle.hcc_cache.specs.Totals.{LoadsEachOccupancy, LoadsEachUsage, LoadsUsages, SearchesAll}
use Rattle.hcc_cache.specs.Totals.{charge_by, entries_by, made_by, no_stats, stats_over, taken_by}
use Rattle.hcc_player.specs.declared.run.answer.Answer.{Answer}
use Rattle.hcc_player.specs.declared.run.answer.Answer.TheVariants as answers
use Rattle.hcc_player.specs.declared.run.call.Call.{Call}
use Rattle.hcc_player.specs.declared.run.call.Call.TheVariants as calls
use Rattle.hcc_player.specs.declared.run.registers.Filled.{Filled}
use Rattle.hcc_player.specs.Registers.{at}
use Rattle.hcc_player.specs.RunAnswers.{insert_answer}

-- a key's numbers are words
abbrev pub IsOfWords : Key → Type 0
IsOfWords key = (key.w0 < 2 ^ 64) × (key.w1 < 2 ^ 64)

module _ {T : Type 0} (fits : T → Key → List ℕ → Type 0) (cache : Cache T) where
  -- An insertion was made, and answered this.
  pub record MakesEntry (key : Key) (charge : ℕ) (priority : Priority) (value : List ℕ)
      (answer : Answer) (old new : Client T) : Type 0 where
    pub told : Result Inserted InsertError
    pub answer_is : answer ≡ insert_answer told
    pub inserts : Inserts cache key charge priority value told old new
    pub evicts : InsertsAt cache fits key charge priority told old new
    pub words : IsOfWords key
    pub shown : cache.geometry.clients ≡ 1 → told ≡ Ok inserted.Placed → KnowsShown cache key new
    pub others : OnlyAt (shard_in cache key) old new

  -- One was made that gave the handle which the register holds now.
  pub record MakesPinned (key : Key) (charge : ℕ) (priority : Priority) (value : List ℕ)
      (told : Inserted) (now : Option Handle) (old new : Client T) : Type 0 where
    pub handle : Handle
    pub filled : now ≡ Some handle
    pub inserts : InsertsWith cache key charge priority value handle told old new
    pub evicts : InsertsPinnedAt cache fits key charge priority told old new
    pub words : IsOfWords key
    pub shown : cache.geometry.clients ≡ 1 → told ≡ inserted.Placed → KnowsShown cache key new
    pub others : OnlyAt (shard_in cache key) old new

  -- One was refused its handle, or its entry.
  pub record MakesNone (key : Key) (charge : ℕ) (priority : Priority) (value : List ℕ)
      (error : InsertError) (old new : Client T) : Type 0 where
    pub refuses : RefusesWith cache key charge priority value error old new
    pub evicts : RefusesPinnedAt cache fits key charge priority error old new
    pub others : OnlyAt (shard_in cache key) old new

  -- A look-up found an entry, and its handle fills the register.
  pub record FindsInto (key : Key) (now : Option Handle) (old new : Client T) : Type 0 where
    pub handle : Handle
    pub filled : now ≡ Some handle
    pub finds : Finds cache fits key handle old new
    pub searched : SearchesFor cache fits key (Some handle) old new
    pub words : IsOfWords key
    pub stays : Stays cache old new

  -- One found none.
  pub record FindsNone (key : Key) (old new : Client T) : Type 0 where
    pub misses : Misses cache key old new
    pub searched : SearchesFor cache fits key None old new
    pub words : IsOfWords key
    pub stays : Stays cache old new

  -- The register holds one handle more on what the other holds.
  pub record RefersAgain (was now : Option Handle) (old new : Client T) : Type 0 where
    pub handle : Handle
    pub more : Handle
    pub held : was ≡ Some handle
    pub filled : now ≡ Some more
    pub again : Rerefs cache handle more old new
    pub stays : Stays cache old new

  -- The handle that the register held was given back, as a use or not.
  pub record GivesBack (useful erase freed : Bool) (was now : Option Handle) (old new : Client T)
      : Type 0 where
    pub handle : Handle
    pub held : was ≡ Some handle
    pub emptied : now ≡ None
    pub releases : Releases cache handle erase freed old new
    pub gives : GivesUp cache handle useful erase freed old new
    pub by : ReleasesIn cache handle useful erase freed old new
    pub stays : freed ≡ false → Stays cache old new
    pub standing : StaysWhereStanding cache handle old new

  -- The value was read of what the register's handle stands for.
  pub record ReadsValue (value : List ℕ) (was : Option Handle) (old new : Client T) : Type 0 where
    pub handle : Handle
    pub held : was ≡ Some handle
    pub stands : Held
    pub here : held_of cache old handle ≡ Some stands
    pub value_is : value ≡ stands.insertion.value
    pub between : Client T
    pub measures : Reads cache old between
    pub measured : Stays cache old between
    pub reads : Reads cache between new
    pub stays : Stays cache between new

  -- The key was erased.
  pub record ErasesKey (key : Key) (count : ℕ) (old new : Client T) : Type 0 where
    pub erases : Erases cache key count old new
    pub searched : ErasesFor cache fits key count old new
    pub words : IsOfWords key
    pub others : OnlyAt (shard_in cache key) old new

  -- The three totals were read, one after the other. Each counts what the client holds; where it is
  -- the only one, what is pinned is just that, and what is there is what it made and didn't take.
  pub record ReadsTotals (usage pinned occupancy : ℕ) (old new : Client T) : Type 0 where
    pub first : Client T
    pub second : Client T
    pub loads : LoadsEachUsage cache usage old first
    pub views : LoadsUsages old first
    pub charged : charge_by old ≤ usage
    pub searches : SearchesAll first second
    pub stays : Stays cache first second
    pub held : charge_by first ≤ pinned
    pub alone : cache.geometry.clients ≡ 1 → pinned ≡ charge_by first
    pub counts : LoadsEachOccupancy cache occupancy second new
    pub reads : Reads cache second new
    pub entries : entries_by second ≤ occupancy
    pub lone : cache.geometry.clients ≡ 1 → occupancy + taken_by second ≡ made_by second

  -- A slot's meta word and its displacement were read.
  pub record ReadsWord (shard slot word displaced : ℕ) (old new : Client T) : Type 0 where
    pub between : Client T
    pub loads : AtShard cache (λ there was is. LoadsWord there slot word was is) shard old between
    pub sees : Works shard old between (view_at shard old)
        (after_look slot word (view_at shard old))
    pub looks : Stays cache old between
    pub counts : AtShard cache (λ there was is. LoadsDisplacement there slot displaced was is) shard
        between new
    pub reads : Reads cache between new
    pub stays : Stays cache between new

  -- The client did nothing, and its registers hold what they held.
  pub record DoesNothing (old new : Client T) (was now : List Filled) : Type 0 where
    pub client : new ≡ old
    pub registers : (r : ℕ) → at now r ≡ at was r

  -- What a call did that was answered so. Where a register was busy or empty no call was made.
  unfoldable pub Does : Call → Answer → (old new : Client T) → (was now : List Filled)
      → Type 0
  Does (calls.Insert key charge priority value) answer old new was now =
      MakesEntry key charge priority value answer old new
  Does call answers.Busy old new was now = DoesNothing old new was now
  Does call answers.Nothing old new was now = DoesNothing old new was now
  Does (calls.Pin register key charge priority value) answers.Placed old new was now =
      MakesPinned key charge priority value inserted.Placed (at now register) old new
  Does (calls.Pin register key charge priority value) answers.Standalone old new was now =
      MakesPinned key charge priority value inserted.Standalone (at now register) old new
  Does (calls.Pin register key charge priority value) (answers.Refused error) old new was now =
      MakesNone key charge priority value error old new
  Does (calls.Lookup register key) answers.Hit old new was now =
      FindsInto key (at now register) old new
  Does (calls.Lookup register key) answers.Miss old new was now = FindsNone key old new
  Does (calls.Lookup register key) (answers.Refused error) old new was now =
      DoesNothing old new was now
  Does (calls.Reref register from) answers.Held old new was now =
      RefersAgain (at was from) (at now register) old new
  Does (calls.Reref register from) (answers.Refused error) old new was now =
      DoesNothing old new was now
  Does (calls.Release register useful erase) answers.Freed old new was now =
      GivesBack useful erase true (at was register) (at now register) old new
  Does (calls.Release register useful erase) answers.Kept old new was now =
      GivesBack useful erase false (at was register) (at now register) old new
  Does (calls.Value register) (answers.Value value) old new was now =
      ReadsValue value (at was register) old new
  Does (calls.Erase key) (answers.Erased count) old new was now = ErasesKey key count old new
  Does calls.Totals (answers.Totals usage pinned occupancy) old new was now =
      ReadsTotals usage pinned occupancy old new
  Does (calls.Word shard slot) (answers.Word word displaced) old new was now =
      ReadsWord shard slot word displaced old new
  Does calls.Stats (answers.Stats stats) old new was now =
      (stats ≡ stats_over no_stats old.seats.items) × DoesNothing old new was now
  Does call answer old new was now = ⊥

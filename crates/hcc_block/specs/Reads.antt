-- What is known of a read.
use Rattle.std.specs.Prelude.{◌≡◌, ◌≢◌, ◌⊎◌, ◌↔◌, ℕ, ◌+◌, ◌*◌, ◌<◌, ◌≤◌, ◌++◌, min, Bool, true, false, List, Option, Some, None, Result, Ok, Err, IfSome, IsErrOf, length, drop}
use Rattle.hcc_rule.specs.declared.key.Key.{Key}
use Rattle.hcc_rule.specs.Words.{words_for}
use Rattle.hcc_shard.specs.Inserted.{inserting, inserting_between}
use Rattle.hcc_cache.specs.declared.cache.Cache.{Cache}
use Rattle.hcc_cache.specs.declared.client.Client.{Client}
use Rattle.hcc_cache.specs.declared.errors.InsertError.{InsertError}
use Rattle.hcc_cache.specs.declared.errors.InsertError.TheVariants.{Spent, TooLarge}
use Rattle.hcc_cache.specs.declared.handle.Handle.{Handle}
use Rattle.hcc_cache.specs.declared.inserting.Inserted.{Inserted}
use Rattle.hcc_cache.specs.declared.inserting.Inserted.TheVariants.{Placed}
use Rattle.hcc_cache.specs.declared.priority.Priority.TheVariants.{Low}
use Rattle.hcc_cache.specs.Calls.{CountsAt, CountsBy, Finds, GivesUp, Misses, OnlyAt, Reads}
use Rattle.hcc_cache.specs.Calls.{Releases, SearchesFor, TakesAtMost, TakesFor, shard_in}
use Rattle.hcc_cache.specs.Clients.{held_by, held_of}
use Rattle.hcc_cache.specs.Inserts.{Inserts, InsertsAt}
use Rattle.hcc_cache.specs.Moments.{KnowsShown}
use Rattle.hcc_cache.specs.Stays.{ReleasesIn, Stays, StaysWhereStanding}
use Rattle.hcc_block.specs.declared.reader.BlockReader.{BlockReader}
use Rattle.hcc_block.specs.declared.reader.ReadError.{ReadError}
use Rattle.hcc_block.specs.declared.reader.ReadError.TheVariants.{NoSuchBlock, SourceFault}
use Rattle.hcc_block.specs.declared.source.SourceFailed.{SourceFailed}
use Rattle.hcc_block.specs.Blocks.{block_of}
use Rattle.hcc_block.specs.Sources.{bytes_at, Fails, HasBytes, top}

-- Of the answer.

-- the block of the file lies here
pub record IsAt (files : List (List ℕ)) (size file index from count : ℕ) : Type 0 where
  pub starts : from ≡ index * size
  pub some : 0 < count
  pub few : count ≤ size
  pub within : HasBytes files file from count
  pub bytes : block_of files size file index ≡ bytes_at files file from count

-- The block's length is answered, and it stands at the front of the buffer. The rest stays.
abbrev pub AnswersBlock : (count : ℕ) → (old new : List ℕ) → (block : Option (List ℕ)) → Type 0
AnswersBlock count old new block =
    (bytes : List ℕ) × (block ≡ Some bytes) × (count ≡ length bytes)
    × (new ≡ bytes ++ drop count old)

-- What a read answers, and leaves of the buffer, where the source counted these failures before and
-- after it: the block; that there is none, exactly where there is none; a fault, only where the
-- source counted a failure.
abbrev pub Answers : Result ℕ ReadError → (old new : List ℕ) → (block : Option (List ℕ))
    → (before after : ℕ) → Type 0
Answers (Ok count) old new block before after = AnswersBlock count old new block
Answers (Err NoSuchBlock) old new block before after = block ≡ None
Answers (Err SourceFault) old new block before after = (block ≢ None) × Fails before after

-- Of the client.

module _ {T : Type 0} where
  -- no look-up may be made: it holds all the handles that it may, or no serial is left
  abbrev pub IsRefused : Client T → Type 0
  IsRefused client = (held_by client ≡ client.most) ⊎ (client.left ≡ 0)

module _ {T : Type 0} (cache : Cache T) where
  -- All handles stand for what they stood for, and are as many.
  pub record HoldsSame (old new : Client T) : Type 0 where
    pub all : (h : Handle) → held_of cache new h ≡ held_of cache old h
    pub count : held_by new ≡ held_by old

  module _ (key : Key) where
    -- A look-up found an entry of the key, whose value was read once, and which was released as a
    -- use.
    pub record Copies (fits : T → Key → List ℕ → Type 0) (old new : Client T) : Type 0 where
      pub handle : Handle
      pub found : Client T
      pub was : Client T
      pub freed : Bool
      pub finds : Finds cache fits key handle old found
      pub searched : SearchesFor cache fits key (Some handle) old found
      pub counts : CountsAt (shard_in cache key) old found
      pub visits : TakesFor cache 7 (λ v w. 0) (shard_in cache key) old found
      pub looks : Stays cache old found
      pub reads : Reads cache found was
      pub copies : Stays cache found was
      pub takes : TakesAtMost (words_for (length finds.found.entry.value) + 1) found was
      pub releases : Releases cache handle false freed was new
      pub gives : GivesUp cache handle true false freed was new
      pub by : ReleasesIn cache handle true false freed was new
      pub standing : StaysWhereStanding cache handle was new
      pub counts_last : CountsBy handle was new

    -- no look-up may be made, or one found no entry of the key
    abbrev pub Lacks : (fits : T → Key → List ℕ → Type 0) → (old new : Client T) → Type 0
    Lacks fits old new =
        (IsRefused old × (new ≡ old))
        ⊎ (Misses cache key old new × SearchesFor cache fits key None old new
        × CountsAt (shard_in cache key) old new
        × TakesFor cache 7 (λ v w. 0) (shard_in cache key) old new × Stays cache old new)

    -- The value was handed to an insertion, with its length as the charge and priority Low: what
    -- that left, what it did at the shard of the key, and that it did nothing else.
    pub record Hands (fits : T → Key → List ℕ → Type 0) (value : List ℕ) (old new : Client T)
        : Type 0 where
      pub answer : Result Inserted InsertError
      pub spent : IsErrOf answer Spent ↔ (old.left ≡ 0)
      pub large : IsErrOf answer TooLarge
          ↔ ((0 < old.left) × (cache.strict ≡ true) × (cache.capacity < length value))
      pub inserts : Inserts cache key (length value) Low value answer old new
      pub evicts : InsertsAt cache fits key (length value) Low answer old new
      pub shown : cache.geometry.clients ≡ 1 → answer ≡ Ok Placed → KnowsShown cache key new
      pub others : OnlyAt (shard_in cache key) old new
      pub frees : 0 < old.left → (cache.strict ≡ true → length value ≤ cache.capacity)
          → TakesFor cache 7 (inserting_between cache.geometry.slots cache.geometry.room)
          (shard_in cache key) old new
      pub steps : TakesAtMost (inserting cache.geometry.slots cache.geometry.room) old new

    -- The cache lacked the block, which was then inserted.
    pub record Loads (fits : T → Key → List ℕ → Type 0) (block : Option (List ℕ))
        (old new : Client T) : Type 0 where
      pub value : List ℕ
      pub is : block ≡ Some value
      pub looked : Client T
      pub lacks : Lacks fits old looked
      pub hands : Hands fits value looked new

-- Of the counts.

-- one more, up to the greatest number
abbrev pub one_more : ℕ → ℕ
one_more n = min (n + 1) top

module _ {S : Type 0} where
  -- one hit more, and nothing else: the source wasn't asked
  abbrev pub CountsHit : (old new : BlockReader S) → Type 0
  CountsHit old new = new ≡ record old { hits = one_more old.hits }

  -- one miss more, and the source may have been asked
  abbrev pub CountsMiss : (old new : BlockReader S) → Type 0
  CountsMiss old new = new ≡ record old { source = new.source; misses = one_more old.misses }

  -- A read is a hit or a miss, unless there is no such block. A fault is a miss.
  abbrev pub CountsRead : Result ℕ ReadError → (old new : BlockReader S) → Type 0
  CountsRead (Ok count) old new = CountsHit old new ⊎ CountsMiss old new
  CountsRead (Err NoSuchBlock) old new = new ≡ old
  CountsRead (Err SourceFault) old new = CountsMiss old new

-- Of the source.

module _ {S : Type 0}
    (reads : S → (file from count : ℕ) → Result (Unit {0}) SourceFailed → S → Type 0)
    (file index : ℕ) (block : Option (List ℕ)) where
  -- A hit didn't ask the source. A miss read the block from it once: the source is what one read
  -- makes of it.
  abbrev pub AsksOnce : Result ℕ ReadError → (old new : BlockReader S) → Type 0
  AsksOnce (Ok count) old new =
      CountsHit old new ⊎ reads old.source file (index * old.block) count (Ok tt) new.source
  AsksOnce (Err NoSuchBlock) old new = new ≡ old
  AsksOnce (Err SourceFault) old new =
      IfSome block (λ bytes. reads old.source file (index * old.block) (length bytes)
      (Err (record {})) new.source)

-- Of the cache.

-- the most atomic steps of a hit of so many bytes: a look-up, the reading of the value, a release
abbrev pub hitting : (slots count : ℕ) → ℕ
hitting slots count = 8 * slots + words_for count + 9

-- A hit copied the entry of the block's key, and made no more steps than that takes. A miss found
-- none, and inserted the block; where the source failed it found none.
unfoldable pub GoesThrough : {S T : Type 0} (fits : T → Key → List ℕ → Type 0) (cache : Cache T)
    (key : Key) (block : Option (List ℕ)) → Result ℕ ReadError → (old new : BlockReader S)
    → (was is : Client T) → Type 0
GoesThrough fits cache key block (Ok count) old new was is =
    (CountsHit old new × Copies cache key fits was is
    × TakesAtMost (hitting cache.geometry.slots count) was is)
    ⊎ (CountsMiss old new × Loads cache key fits block was is)
GoesThrough fits cache key block (Err NoSuchBlock) old new was is = is ≡ was
GoesThrough fits cache key block (Err SourceFault) old new was is = Lacks cache key fits was is

-- Workers: what they begin with, and what they end with.
use Rattle.std.specs.Prelude.{◌≡◌, ℕ, ◌*◌, ◌≤◌, List, [], ◌∷◌, Some, length, slice_get}
use Rattle.hcc_rule.specs.declared.key.Key.{Key}
use Rattle.hcc_cache.specs.declared.cache.Cache.{Cache}
use Rattle.hcc_cache.specs.declared.client.Client.{Client}
use Rattle.hcc_cache.specs.Clients.{held_by}
use Rattle.hcc_cache.specs.Known.{Knows}
use Rattle.hcc_block.specs.Blocks.{FitsBlocks}
use Rattle.hcc_player.specs.declared.blocks.line.BlockRead.{BlockRead}
use Rattle.hcc_player.specs.declared.blocks.worker.Done.{Done}
use Rattle.hcc_player.specs.declared.blocks.worker.Worker.{Worker}
use Rattle.hcc_player.specs.Reading.{ReadsLines, counts_of, no_counts}
use Rattle.hcc_player.specs.Tally.{found_by, IsTally}

-- Lists by their places.

-- each element, with its place
abbrev pub EachAt : {A : Type 0} → (P : ℕ → A → Type 0) → List A → Type 0
EachAt {A} P xs = (k : ℕ) (x : A) → slice_get xs k ≡ Some x → P k x

-- the elements of two lists of one length, place by place
abbrev pub AllWith : {A B : Type 0} → (P : A → B → Type 0) → List A → List B → Type 0
AllWith P [] [] = Unit {0}
AllWith P [] (y ∷ ys) = ⊥
AllWith P (x ∷ xs) [] = ⊥
AllWith P (x ∷ xs) (y ∷ ys) = P x y × AllWith P xs ys

-- the source of the client of this number never fails
abbrev pub IsSteady : {S : Type 0} → (reliable : S → Type 0) → List S → (client : ℕ) → Type 0
IsSteady {S} reliable sources client =
    (source : S) × (slice_get sources client ≡ Some source) × reliable source

-- Of one worker.

-- a client of this cache that holds nothing
pub record IsIdle {T : Type 0} (cache : Cache T) (client : Client T) : Type 0 where
  pub known : Knows cache client
  pub none : held_by client ≡ 0

-- A worker that is set up for the client of a number: that client, its source and its lines, and a
-- reader of blocks of this size which has counted nothing.
pub record IsSetUp {T S : Type 0} (clients : List (Client T)) (sources : List S)
    (lists : List (List BlockRead)) (block number : ℕ) (w : Worker T S) : Type 0 where
  pub client_is : slice_get clients number ≡ Some w.client
  pub source_is : slice_get sources number ≡ Some w.reader.source
  pub lines_are : slice_get lists number ≡ Some w.lines.items
  pub block_is : w.reader.block ≡ block
  pub counts : (w.reader.hits ≡ 0) × (w.reader.misses ≡ 0)
  pub buffer : length w.buffer.items ≡ block

module _ {T S : Type 0} (fits : T → Key → List ℕ → Type 0) (content : S → List (List ℕ))
    (reliable : S → Type 0) (cache : Cache T) where
  -- A worker can begin: its client is idle, its reader reads the blocks that the cache's tag names
  -- and has counted nothing, and its buffer has room for a block.
  pub record IsReady (w : Worker T S) : Type 0 where
    pub idle : IsIdle cache w.client
    pub tag : FitsBlocks (fits cache.tag) (content w.reader.source) w.reader.block
    pub block : w.reader.block ≤ 8 * cache.geometry.room
    pub room : w.reader.block ≤ length w.buffer.items
    pub counts : (w.reader.hits ≡ 0) × (w.reader.misses ≡ 0)

  -- A worker has ended: its client is idle again and read its lines on the cache, and its report is
  -- the tally of them.
  pub record Ends (w : Worker T S) (d : Done T) : Type 0 where
    pub idle : IsIdle cache d.client
    pub tally : IsTally (reliable w.reader.source)
        (found_by (content w.reader.source) w.reader.block w.lines.items) d.report
    pub reads : ReadsLines fits cache (content w.reader.source) w.reader.block w.lines.items
        no_counts (counts_of d.report) w.client d.client

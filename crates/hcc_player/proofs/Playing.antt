-- Workers that begin with a new cache, and end.
use Rattle.std.proofs.Common.{◌≡◌, ℕ, zero, suc, ◌<◌, ◌≤◌, List, [], ◌++◌, Some, length, map, get_or}
use Rattle.std.proofs.Common.{slice_get, refl, ap, subst, sym, ◌∙◌, arith}
use Rattle.std.specs.List.{All}
use Rattle.std.proofs.lemmas.Option.{get_or_from_slice_get, slice_get_within}
use Rattle.hcc_cache.specs.declared.cache.Cache.{Cache}
use Rattle.hcc_cache.specs.declared.client.Client.{Client}
use Rattle.hcc_cache.specs.declared.config.Config.{Config}
use Rattle.hcc_cache.specs.declared.errors.CloseError.{CloseError}
use Rattle.hcc_cache.specs.declared.errors.CloseError.TheVariants.{Missing, HandlesOut}
use Rattle.hcc_cache.specs.Closings.{Refuses}
use Rattle.hcc_cache.specs.Opened.{IsOpened}
use Rattle.hcc_block.specs.declared.tag.FilesTag.{FilesTag}
use Rattle.hcc_block.specs.Blocks.{FitsBlocks, IsBlock}
use Rattle.hcc_block.specs.Tags.{files_of, fits_files}
use Rattle.hcc_player.specs.declared.blocks.line.BlockRead.{BlockRead}
use Rattle.hcc_player.specs.declared.blocks.tally.ClientReport.{ClientReport}
use Rattle.hcc_player.specs.declared.blocks.worker.Done.{Done}
use Rattle.hcc_player.specs.declared.blocks.worker.Worker.{Worker}
use Rattle.hcc_player.specs.declared.options.Options.{Options}
use Rattle.hcc_player.specs.declared.sums.Sums.{Sums}
use Rattle.hcc_player.specs.BlocksLeft.{reads_by}
use Rattle.hcc_player.specs.Deal.{AreDealt}
use Rattle.hcc_player.specs.PlayBlocks.{ArePlayed}
use Rattle.hcc_player.specs.Reading.{IsReadOf, ReadsLines, counts_of, no_counts}
use Rattle.hcc_player.specs.Tally.{found_by, lines_for, IsTally}
use Rattle.hcc_player.specs.Work.{AllWith, EachAt, Ends, IsIdle, IsReady, IsSetUp, IsSteady}
use Rattle.hcc_player.proofs.Adding.{tally_for}
use Rattle.hcc_player.proofs.Fine.{IsBlockSize}
use Rattle.hcc_player.proofs.Places.{all_at, each_all, each_map, each_with}
use Rattle.hcc_player.proofs.ReadLemmas.{at_map}

-- the block that a key names fits it
fits_itself : (files : List (List ℕ)) (size : ℕ) → FitsBlocks (IsBlock files size) files size
fits_itself files size = record { only = λ k v fits. fits; all = λ k v fits. fits }

-- a cache whose clients are all back and hold nothing is not refused to be closed
pub closes_well : {T : Type 0} (cache : Cache T) (clients : List (Client T)) (error : CloseError)
    → cache.geometry.clients ≤ length clients → EachAt (λ k client. IsIdle cache client) clients
    → Refuses error cache clients → ⊥
closes_well cache clients (Missing have want) back idle refuses =
    let counted = refuses.0 in
    let wanted = refuses.1 in
    let few = refuses.2 in
    omega arith
closes_well cache clients (HandlesOut number) back idle refuses =
    let holder = refuses.1 in
    let none = (idle holder.index holder.holder holder.there).none in
    let some = holder.holds in
    omega arith

module _ {S : Type 0} (content : S → List (List ℕ)) (reliable : S → Type 0)
    (config : Config) (tag : FilesTag) (cache : Cache FilesTag) (clients : List (Client FilesTag))
    (sources : List S) (lists : List (List BlockRead)) where
  -- What a play begins with: a new cache of these blocks, and sources of these files.
  pub record Begins : Type 0 where
    pub opened : IsOpened config tag cache clients
    pub size : IsBlockSize config.room tag.block
    pub sources_are : All (λ source. content source ≡ files_of tag) sources

  idle_at : Begins → (k : ℕ) (client : Client FilesTag) → slice_get clients k ≡ Some client
      → IsIdle cache client
  idle_at begins k client here = record {
    known = begins.opened.known k client here;
    none = (begins.opened.dealt.each k client here).unused.held;
  }

  one_ready : Begins → (k : ℕ) (w : Worker FilesTag S)
      → IsSetUp clients sources lists tag.block k w
      → IsReady fits_files content reliable cache w
  one_ready begins k w set =
      let same = begins.opened.cache_is.tag_is in
      let files : content w.reader.source ≡ files_of tag =
      all_at (λ source. content source ≡ files_of tag) sources k w.reader.source
      begins.sources_are set.source_is in
      let size = set.block_is in
      let buffer = set.buffer in
      let fits = begins.size.fits in
      let room = ap (λ (g : _). g.room) begins.opened.cache_is.geometry in
      record {
        idle = idle_at begins k w.client set.client_is;
        tag = rw (same, files, size) (fits_itself (files_of tag) tag.block);
        block = rw room (omega arith);
        room = omega arith;
        counts = set.counts;
      }

  -- all workers are ready
  pub all_ready : Begins → (ws : List (Worker FilesTag S))
      → EachAt (IsSetUp clients sources lists tag.block) ws
      → All (IsReady fits_files content reliable cache) ws
  all_ready begins ws set =
      each_all (IsReady fits_files content reliable cache) ws
      (λ k w here. one_ready begins k w (set k w here))

  -- A worker that has ended, for the client of a number.
  pub record HasEnded (steady : (client : ℕ) → Type 0) (number : ℕ) (d : Done FilesTag) : Type 0
    where
      pub idle : IsIdle cache d.client
      pub client : Client FilesTag
      pub client_was : slice_get clients number ≡ Some client
      pub reads : ReadsLines fits_files cache (files_of tag) tag.block (get_or lists number [])
          no_counts (counts_of d.report) client d.client
      pub tally : IsTally (steady number)
          (found_by (files_of tag) tag.block (get_or lists number [])) d.report

  one_ended : Begins → (k : ℕ) (w : Worker FilesTag S) (d : Done FilesTag)
      → IsSetUp clients sources lists tag.block k w → Ends fits_files content reliable cache w d
      → HasEnded (IsSteady reliable sources) k d
  one_ended begins k w d set ends =
      let files : content w.reader.source ≡ files_of tag =
      all_at (λ source. content source ≡ files_of tag) sources k w.reader.source
      begins.sources_are set.source_is in
      let lines : get_or lists k [] ≡ w.lines.items =
      get_or_from_slice_get lists k w.lines.items [] set.lines_are in
      let tally = rw (files, set.block_is, ← lines) at ends.tally in
      record {
        idle = ends.idle;
        client = w.client;
        client_was = set.client_is;
        reads = rw (files, set.block_is, ← lines) at ends.reads;
        tally = tally_for (IsSteady reliable sources k) (reliable w.reader.source)
            (found_by (files_of tag) tag.block (get_or lists k [])) d.report
            (λ steady.
            let told : Some steady.0 ≡ Some w.reader.source = sym steady.1 ∙ set.source_is in
            let same : steady.0 ≡ w.reader.source = cc in subst reliable same steady.2) tally;
      }

  -- all workers have ended
  pub all_ended : Begins → (ws : List (Worker FilesTag S)) (ds : List (Done FilesTag))
      → EachAt (IsSetUp clients sources lists tag.block) ws
      → AllWith (Ends fits_files content reliable cache) ws ds
      → EachAt (HasEnded (IsSteady reliable sources)) ds
  all_ended begins ws ds set ends =
      each_with (IsSetUp clients sources lists tag.block)
      (Ends fits_files content reliable cache) (HasEnded (IsSteady reliable sources)) ws ds
      (one_ended begins) set ends

  -- their clients
  pub all_idle : (steady : (client : ℕ) → Type 0) (ds : List (Done FilesTag))
      → EachAt (HasEnded steady) ds
      → EachAt (λ k client. IsIdle cache client) (map (λ d. d.client) ds)
  all_idle steady ds ended =
      each_map (λ k client. IsIdle cache client) (λ d. d.client) ds
      (λ k d here. (ended k d here).idle)

  -- their reports
  pub all_told : (steady : (client : ℕ) → Type 0) (ds : List (Done FilesTag))
      → EachAt (HasEnded steady) ds
      → EachAt (λ k r. IsTally (steady k)
      (found_by (files_of tag) tag.block (get_or lists k [])) r) (map (λ d. d.report) ds)
  all_told steady ds ended =
      each_map (λ k r. IsTally (steady k)
      (found_by (files_of tag) tag.block (get_or lists k [])) r) (λ d. d.report) ds
      (λ k d here. (ended k d here).tally)

  -- what their clients did
  abbrev Read : ℕ → ClientReport → Client FilesTag → Client FilesTag → Type 0
  Read k r was is =
      ReadsLines fits_files cache (files_of tag) tag.block (get_or lists k []) no_counts
      (counts_of r) was is

  pub all_read : (steady : (client : ℕ) → Type 0) (ds : List (Done FilesTag))
      → EachAt (HasEnded steady) ds → (k : ℕ) (was is : Client FilesTag) (r : ClientReport)
      → slice_get clients k ≡ Some was → slice_get (map (λ d. d.client) ds) k ≡ Some is
      → slice_get (map (λ d. d.report) ds) k ≡ Some r
      → ReadsLines fits_files cache (files_of tag) tag.block (get_or lists k []) no_counts
      (counts_of r) was is
  all_read steady ds ended k was is r first last told =
      let d = at_map (λ (d : Done FilesTag). d.client) ds k is last in
      let e = at_map (λ (d : Done FilesTag). d.report) ds k r told in
      let same : e.0 ≡ d.0 = cc (d.1, e.1) in
      let has = ended k d.0 d.1 in
      let before : has.client ≡ was = cc (has.client_was, first) in
      let report : d.0.report ≡ r = subst (λ (x : Done FilesTag). x.report ≡ r) same e.2 in
      subst (λ x. Read k r was x) d.2
      (subst (λ x. Read k r x d.0.client) before
      (subst (λ x. Read k x has.client d.0.client) report has.reads))

-- the same reads of each client are the same reads of all
reads_same : (f g : ℕ → List BlockRead) (n : ℕ) → ((k : ℕ) → k < n → f k ≡ g k)
    → reads_by f n ≡ reads_by g n
reads_same f g zero same = refl
reads_same f g (suc n) same =
    ap (λ l. l ++ f n) (reads_same f g n (λ k low. same k (omega arith)))
    ∙ ap (λ l. reads_by g n ++ l) (same n (omega arith))

-- what clients did for the reads that were dealt to them is what they did for their lines
pub read_lines : (files : List (List ℕ)) (o : Options) (reads : List BlockRead)
    (lists : List (List BlockRead)) (sums : Sums) (told : List ClientReport)
    → length told ≡ o.config.clients → AreDealt o.config.clients reads lists
    → IsReadOf files o (λ client. get_or lists client []) sums told
    → IsReadOf files o (λ client. lines_for client reads) sums told
read_lines files o reads lists sums told count dealt played = record {
  tag = played.tag;
  named = played.named;
  cache = played.cache;
  first = played.first;
  last = played.last;
  opened = played.opened;
  count = played.count;
  each = λ k was is r first last here.
      let within : k < o.config.clients =
      subst (λ n. k < n) count (slice_get_within told k r here) in
      rw (← dealt.each k within) (played.each k was is r first last here);
  closed = played.closed;
  back = played.back;
  closes = played.closes;
  sums_are = played.sums_are;
  few = played.few;
  leaves = rw (← reads_same (λ client. get_or lists client []) (λ client. lines_for client reads)
      o.config.clients dealt.each) played.leaves;
}

-- what clients report of the reads that were dealt to them is what they report of their lines
pub played_lines : (files : List (List ℕ)) (size clients : ℕ) (steady : (client : ℕ) → Type 0)
    (reads : List BlockRead) (lists : List (List BlockRead)) (sums : Sums)
    (told : List ClientReport) → AreDealt clients reads lists
    → ArePlayed files size clients steady (λ client. get_or lists client []) sums told
    → ArePlayed files size clients steady (λ client. lines_for client reads) sums told
played_lines files size clients steady reads lists sums told dealt played = record {
  count = played.count;
  tallies = λ k r here.
      let within : k < clients =
      subst (λ n. k < n) played.count (slice_get_within told k r here) in
      rw (← dealt.each k within) (played.tallies k r here);
  charged = played.charged;
  occupies = played.occupies;
}

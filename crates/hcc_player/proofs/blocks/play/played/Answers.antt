use Rattle.std.proofs.Common.{◌≡◌, ℕ, [], Some, map, get_or, length, slice_get, refl, ap, ◌∙◌}
use Rattle.hcc_cache.specs.declared.client.Client.{Client}
use Rattle.hcc_block.specs.declared.tag.FilesTag.{FilesTag}
use Rattle.hcc_block.specs.Tags.{files_of, fits_files}
use Rattle.hcc_player.specs.declared.blocks.tally.ClientReport.{ClientReport}
use Rattle.hcc_player.specs.Reading.{ReadsLines, counts_of, no_counts}
use Rattle.hcc_player.specs.Work.{IsSteady}
use Rattle.hcc_player.proofs.BlocksLeft.{few_left}
use Rattle.hcc_player.proofs.Fine.{block_size}
use Rattle.hcc_player.proofs.Places.{count_map}
use Rattle.hcc_player.proofs.ReadsPlaced.{leaves_blocks}
use Rattle.hcc_player.proofs.Playing.{all_ended, all_idle, all_read, all_ready, all_told, Begins}
use Rattle.hcc_player.proofs.blocks.play.played.Goals as goal

pub work_all-requires-after_bounds : goal.work_all-requires-after_bounds
work_all-requires-after_bounds g c κs within =
    let options = c.args.options.now in
    let tag : FilesTag = record { files = c.args.files; block = options.block } in
    let lists = map (λ list. list.items) c.args.reads.items in
    let begins : Begins g.S.BlockSource.content g.S.BlockSource.reliable options.config tag
    c.in-Ok.cache c.in-Ok.clients.items c.args.sources.items lists = record {
      opened = c.in-Ok.ensures.made;
      size = block_size options c.requires.options;
      sources_are = c.requires.content;
    } in
    all_ready g.S.BlockSource.content g.S.BlockSource.reliable options.config tag c.in-Ok.cache
    c.in-Ok.clients.items c.args.sources.items lists begins c.in_ok-workers.workers.items
    c.in_ok-workers.ensures.set

pub closed-closed-requires-clause-idle : goal.closed-closed-requires-clause-idle
closed-closed-requires-clause-idle g c =
    let options = c.args.options.now in
    let tag : FilesTag = record { files = c.args.files; block = options.block } in
    let lists = map (λ list. list.items) c.args.reads.items in
    let done = c.in_ok-done.done.items in
    let begins : Begins g.S.BlockSource.content g.S.BlockSource.reliable options.config tag
    c.in-Ok.cache c.in-Ok.clients.items c.args.sources.items lists = record {
      opened = c.in-Ok.ensures.made;
      size = block_size options c.requires.options;
      sources_are = c.requires.content;
    } in
    let ended = all_ended g.S.BlockSource.content g.S.BlockSource.reliable options.config tag
    c.in-Ok.cache c.in-Ok.clients.items c.args.sources.items lists begins
    c.in_ok-workers.workers.items done c.in_ok-workers.ensures.set c.in_ok-done.ensures.each in
    rw c.in_ok-clients.ensures.clients
    (all_idle g.S.BlockSource.content g.S.BlockSource.reliable options.config tag c.in-Ok.cache
    c.in-Ok.clients.items c.args.sources.items lists
    (IsSteady g.S.BlockSource.reliable c.args.sources.items) done ended)

pub returns-clause-report : goal.returns-clause-report
returns-clause-report g c =
    let options = c.args.options.now in
    let tag : FilesTag = record { files = c.args.files; block = options.block } in
    let lists = map (λ list. list.items) c.args.reads.items in
    let done = c.in_ok-done.done.items in
    let begins : Begins g.S.BlockSource.content g.S.BlockSource.reliable options.config tag
    c.in-Ok.cache c.in-Ok.clients.items c.args.sources.items lists = record {
      opened = c.in-Ok.ensures.made;
      size = block_size options c.requires.options;
      sources_are = c.requires.content;
    } in
    let ended = all_ended g.S.BlockSource.content g.S.BlockSource.reliable options.config tag
    c.in-Ok.cache c.in-Ok.clients.items c.args.sources.items lists begins
    c.in_ok-workers.workers.items done c.in_ok-workers.ensures.set c.in_ok-done.ensures.each in
    let reports = c.in_ok-clients.ensures.reports in
    record {
      count = ap length reports ∙ count_map (λ d. d.report) done ∙ c.in_ok-done.ensures.count
          ∙ c.in_ok-workers.ensures.count ∙ begins.opened.dealt.count;
      tallies = rw reports
          (all_told g.S.BlockSource.content g.S.BlockSource.reliable options.config tag
          c.in-Ok.cache c.in-Ok.clients.items c.args.sources.items lists
          (IsSteady g.S.BlockSource.reliable c.args.sources.items) done ended);
      charged = c.sums_of.ensures.charged;
      occupies = c.sums_of.ensures.occupies;
    }

pub returns-clause-on_cache : goal.returns-clause-on_cache
returns-clause-on_cache g c =
    let options = c.args.options.now in
    let tag : FilesTag = record { files = c.args.files; block = options.block } in
    let lists = map (λ list. list.items) c.args.reads.items in
    let done = c.in_ok-done.done.items in
    let begins : Begins g.S.BlockSource.content g.S.BlockSource.reliable options.config tag
    c.in-Ok.cache c.in-Ok.clients.items c.args.sources.items lists = record {
      opened = c.in-Ok.ensures.made;
      size = block_size options c.requires.options;
      sources_are = c.requires.content;
    } in
    let ended = all_ended g.S.BlockSource.content g.S.BlockSource.reliable options.config tag
    c.in-Ok.cache c.in-Ok.clients.items c.args.sources.items lists begins
    c.in_ok-workers.workers.items done c.in_ok-workers.ensures.set c.in_ok-done.ensures.each in
    let clients_read = all_read g.S.BlockSource.content g.S.BlockSource.reliable options.config tag
    c.in-Ok.cache c.in-Ok.clients.items c.args.sources.items lists
    (IsSteady g.S.BlockSource.reliable c.args.sources.items) done ended in
    let clients = c.in_ok-clients.ensures.clients in
    let reports = c.in_ok-clients.ensures.reports in
    let first = c.in-Ok.clients.items in
    let last = c.in_ok-clients.clients.items in
    let told = c.in_ok-clients.reports.items in
    let many = c.in_ok-done.ensures.count ∙ c.in_ok-workers.ensures.count in
    let count : length last ≡ length first =
    ap length clients ∙ count_map (λ d. d.client) done ∙ many in
    let alike : length told ≡ length first =
    ap length reports ∙ count_map (λ d. d.report) done ∙ many in
    let read : (k : ℕ) (was is : Client FilesTag) (r : ClientReport)
    → slice_get first k ≡ Some was → slice_get last k ≡ Some is → slice_get told k ≡ Some r
    → ReadsLines fits_files c.in-Ok.cache (files_of tag) tag.block (get_or lists k []) no_counts
    (counts_of r) was is = rw (clients, reports) clients_read in
    record {
      tag = tag;
      named = (refl, refl);
      cache = c.in-Ok.cache;
      first = first;
      last = last;
      opened = c.in-Ok.ensures.made;
      count = count;
      each = read;
      closed = c.closed-closed.result;
      back = c.closed-closed.ensures.0;
      closes = c.closed-closed.ensures.1;
      sums_are = c.sums_of.ensures.read;
      few = rw c.sums_of.ensures.read.slots
          (few_left fits_files options.config tag c.in-Ok.cache (files_of tag) tag.block
          (λ k. get_or lists k []) first last told c.closed-closed.result c.in-Ok.ensures.made
          count alike read c.closed-closed.ensures.0 c.closed-closed.ensures.1);
      leaves = rw (← c.in-Ok.ensures.made.dealt.count)
          (leaves_blocks fits_files options.config tag c.in-Ok.cache (files_of tag) tag.block
          (λ k. get_or lists k []) first last told c.closed-closed.result c.in-Ok.ensures.made
          count alike read c.closed-closed.ensures.1 c.sums_of.result
          c.sums_of.ensures.read.slots c.sums_of.ensures.read.charges);
    }

use Rattle.std.proofs.Common.{◌+◌, arith, ap, ◌∙◌, get_or, refl, sym, subst}
use Rattle.hcc_block.specs.Blocks.{block_of}
use Rattle.hcc_player.specs.declared.blocks.line.BlockRead.{BlockRead}
use Rattle.hcc_player.specs.Tally.{found_by, AddsAll}
use Rattle.hcc_player.specs.Reading.{counts_in, no_counts}
use Rattle.hcc_player.proofs.Adding.{adds_for, is_tally, rest_is, rest_none}
use Rattle.hcc_player.proofs.ReadLemmas.{reads_all, reads_on}
use Rattle.hcc_player.proofs.blocks.worker.play_lines.Goals as goal

pub loop-line-preserved : goal.loop-line-preserved
loop-line-preserved g c =
    let so_far = c.loop-line.invariant in
    let told = c.play_line.ensures in
    let steady = g.S.BlockSource.reliable c.args.reader.now.source in
    let files = g.S.BlockSource.content c.args.reader.now.source in
    let size = c.args.reader.now.block in
    let lines = c.args.lines.now in
    let k = c.loop-line.line-index in
    let none : BlockRead = record { client = 0; file = 0; index = 0 } in
    let line = get_or lines k none in
    let next = rest_is files size lines k none c.loop-line-test.true in
    let adds = rw (so_far.same, so_far.block) at told.adds in
    let reads = rw (so_far.same, so_far.block) at told.reads in
    let buffer = so_far.buffer in
    record {
      idle = record { known = told.known; none = told.same.count ∙ so_far.idle.none };
      same = told.content ∙ so_far.same;
      block = told.size ∙ so_far.block;
      buffer = search arith;
      lines = told.lines ∙ ap (λ n. n + 1) so_far.lines;
      calls = ap (λ n. n + 1) so_far.calls;
      counted = told.counted;
      failed = told.failed;
      steady = λ s. told.reliable (so_far.steady s);
      reads = reads_on g.T.Tag.fits c.args.cache.now files size lines k none no_counts _ _
          c.args.client.now c.loop-line.client c.play_line.new.client c.loop-line-test.true
          so_far.reads reads;
      adds = λ new rest.
          so_far.adds new
          (subst (λ found. AddsAll steady found c.loop-line.tally new) (sym next) (
            c.play_line.new.tally,
            adds_for steady _ (block_of files size line.file line.index) c.loop-line.tally
                c.play_line.new.tally so_far.steady adds,
            rest,
          ));
    }

pub returns-clause-tally : goal.returns-clause-tally
returns-clause-tally g c =
    let so_far = c.loop-line.invariant in
    let steady = g.S.BlockSource.reliable c.args.reader.now.source in
    let files = g.S.BlockSource.content c.args.reader.now.source in
    let size = c.args.reader.now.block in
    let lines = c.args.lines.now in
    let tally = c.loop-line.tally in
    let counted = rw (← c.hits.ensures, ← c.misses.ensures) at so_far.counted in
    let failed = rw (← c.misses.ensures) at so_far.failed in
    let none = rest_none files size lines c.loop-line.line-index c.loop-line-test.false in
    is_tally steady (found_by files size lines)
    (record { tally = tally; hits = c.hits.result; misses = c.misses.result })
    (so_far.adds tally (subst (λ found. AddsAll steady found tally tally) (sym none) refl)) counted
    failed

pub returns-clause-reads : goal.returns-clause-reads
returns-clause-reads g c =
    let so_far = c.loop-line.invariant in
    let fits = g.T.Tag.fits in
    let cache = c.args.cache.now in
    let files = g.S.BlockSource.content c.args.reader.now.source in
    let size = c.args.reader.now.block in
    let lines = c.args.lines.now in
    let all = reads_all fits cache files size lines c.loop-line.line-index no_counts
    (counts_in c.loop-line.reader c.loop-line.tally) c.args.client.now c.loop-line.client
    c.loop-line-test.false so_far.reads in
    rw (c.hits.ensures, c.misses.ensures) all

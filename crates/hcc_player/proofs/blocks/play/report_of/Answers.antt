use Rattle.std.proofs.Common.{map}
use Rattle.hcc_player.specs.BlocksLine.{reads_in}
use Rattle.hcc_player.specs.Work.{IsSteady}
use Rattle.hcc_player.proofs.Playing.{played_lines, read_lines}
use Rattle.hcc_player.proofs.Splits.{said_of}
use Rattle.hcc_player.proofs.blocks.play.report_of.Goals as goal

pub returns-clause-report : goal.returns-clause-report
returns-clause-report g c =
    let options = c.args.options.now in
    let clients = options.config.clients in
    let files = map (λ file. file.items) c.args.files.now in
    let steady = IsSteady g.S.BlockSource.reliable c.args.sources.items in
    let reads = said_of (reads_in clients c.args.text.now) c.in_ok-judge_all.ensures.ok in
    let dealt = rw reads.1 at c.in_ok-reads.ensures.dealt in
    record {
      reads = reads.0;
      said = reads.1;
      sums = c.in_ok-sums.sums;
      told = c.in_ok-sums.reports.items;
      played = played_lines files options.block clients steady reads.0
          (map (λ list. list.items) c.in_ok-reads.reads.items) c.in_ok-sums.sums
          c.in_ok-sums.reports.items dealt c.in_ok-sums.ensures.report;
      on_cache = read_lines files options reads.0
          (map (λ list. list.items) c.in_ok-reads.reads.items) c.in_ok-sums.sums
          c.in_ok-sums.reports.items c.in_ok-sums.ensures.report.count dealt
          c.in_ok-sums.ensures.on_cache;
      bytes_are = rw c.deref.ensures.value at c.in_ok-report.ensures;
    }

use Rattle.std.proofs.Common.{◌≡◌, ◌+◌, ◌≤◌, drop, length}
use Rattle.hcc_player.specs.declared.blocks.tally.BlockTally.{BlockTally}
use Rattle.hcc_player.specs.Tally.{found_by, lines_of_tally, nothing, AddsAll}
use Rattle.hcc_player.specs.Reading.{counts_in, no_counts}
use Rattle.hcc_player.specs.Work.{IsIdle}
use Rattle.hcc_player.proofs.ReadLemmas.{ReadsOn}
use Rattle.hcc_player.proofs.blocks.worker.play_lines.Given as goal

abbrev pub invariant-loop-line : goal.invariant-loop-line
invariant-loop-line g l =
    let content = g.S.BlockSource.content in
    let reliable = g.S.BlockSource.reliable in
    let files = content l.initial.reader.source in
    let size = l.initial.reader.block in
    record {
      idle : IsIdle l.fn.cache l.client;
      same : content l.reader.source ≡ files;
      block : l.reader.block ≡ size;
      buffer : size ≤ length l.buffer;
      lines : lines_of_tally l.tally ≡ l.line-index;
      calls : l.call ≡ l.line-index;
      counted : l.reader.hits + l.reader.misses ≡ l.tally.blocks + l.tally.faults;
      failed : l.tally.faults ≤ l.reader.misses;
      steady : reliable l.initial.reader.source → reliable l.reader.source;
      reads : ReadsOn g.T.Tag.fits l.fn.cache files size l.lines l.line-index no_counts
          (counts_in l.reader l.tally) l.initial.client l.client;
      adds : (new : BlockTally)
          → AddsAll (reliable l.initial.reader.source)
          (found_by files size (drop l.line-index l.lines)) l.tally new
          → AddsAll (reliable l.initial.reader.source) (found_by files size l.lines) nothing new;
    }

use Rattle.std.proofs.Common.{◌+◌, Ok, Err, refl, arith}
use Rattle.hcc_player.proofs.ReadLemmas.{reads_line}
use Rattle.hcc_player.proofs.blocks.worker.play_line.Goals as goal

pub returns-in-Ok-clause-reads : goal.returns-in-Ok-clause-reads
returns-in-Ok-clause-reads g c =
    let old = c.args.reader.now in
    let tally = c.args.tally.now in
    let few = c.requires.few in
    let counted = c.requires.counted in
    reads_line g.T.Tag.fits c.args.cache.now (g.S.BlockSource.content old.source) old.block
    c.args.line (Ok c.in-Ok.count) old c.read.new.self tally tally c.args.client.now
    c.read.new.client (omega arith) (omega arith) c.in-Ok.ensures.counts (λ e. cc) refl
    c.in-Ok.ensures.through

pub returns-in-Err-SourceFault-clause-reads : goal.returns-in-Err-SourceFault-clause-reads
returns-in-Err-SourceFault-clause-reads g c =
    let old = c.args.reader.now in
    let tally = c.args.tally.now in
    let few = c.requires.few in
    let counted = c.requires.counted in
    let is = c.in-Err-SourceFault.field-0-is in
    reads_line g.T.Tag.fits c.args.cache.now (g.S.BlockSource.content old.source) old.block
    c.args.line (Err c.in-Err-SourceFault.field-0) old c.read.new.self tally
    (record tally { faults = tally.faults + 1 }) c.args.client.now c.read.new.client (omega arith)
    (omega arith) c.in-Err-SourceFault.ensures.counts (λ e. cc (is, e)) (rw is refl)
    c.in-Err-SourceFault.ensures.through

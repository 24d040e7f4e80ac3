use Rattle.std.proofs.Common.{map, string_bytes}
use Rattle.hcc_player.specs.PlayBlocks.{IsReport, WritesPart}
use Rattle.hcc_player.specs.Work.{IsSteady}
use Rattle.hcc_player.proofs.ByteLemmas.{on_error}
use Rattle.hcc_player.proofs.Reporting.{flushed, part_known}
use Rattle.hcc_player.proofs.blocks.play.play_blocks.Goals as goal

pub returns-clause-part : goal.returns-clause-part
returns-clause-part g c =
    let options = c.args.options.now in
    let files = map (λ file. file.items) c.args.files.now in
    let steady = IsSteady g.S.BlockSource.reliable c.args.sources.items in
    let whole = c.in_ok-text.ensures.whole in
    let bytes = string_bytes c.in_ok-report.report in
    let out = c.in_ok-write_out.ensures.ok in
    let report : IsReport files options steady c.in_ok-text.text.items bytes =
    rw c.deref.ensures.value at c.in_ok-report.ensures.report in
    on_error c.flush.result _
    (part_known _ _ _ c.in_ok-text.text.items
    (WritesPart files options steady _ _) whole.1 (
      bytes,
      whole.0,
      report,
      flushed _ _ _ c.as_bytes.result.now bytes out c.as_bytes.ensures.value c.flush.ensures.kept,
    ))

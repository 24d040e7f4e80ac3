use Rattle.std.proofs.Common.{refl, ◌∙◌}
use Rattle.std.proofs.KnownBytes.{Keeps-refl}
use Rattle.hcc_player.specs.RunLine.{run_line}
use Rattle.hcc_player.proofs.ByteLemmas.{leaves_all, on_error}
use Rattle.hcc_player.proofs.RunningLemmas.{fits_here, next_line, running_begins}
use Rattle.hcc_player.proofs.RunningLemmas.{running_fails, running_goes, running_stops, said_good}
use Rattle.hcc_player.proofs.Splits.{splits}
use Rattle.hcc_player.proofs.run.playing.play_lines.Goals as goal

pub loop-bytes-init : goal.loop-bytes-init
loop-bytes-init g c = record {
  running = running_begins g.T.Tag.fits c.args.cache.now c.args.config c.args.clients.now.items
      c.args.registers.now.items _ _ _ c.args.text.now _
      (said_good c.args.config c.args.text.now c.requires.good) c.requires.manned
      (leaves_all _ _ _ (Keeps-refl _));
  count = refl;
}

pub judged_call-requires : goal.judged_call-requires
judged_call-requires g c =
    let run = c.loop-bytes.invariant.running in
    let s = splits (run_line c.args.config) run.number c.loop-bytes.rest.now c.in-Some.bytes.now
    c.in-Some.after.now run.left c.in-Some.ensures.line run.read in
    rw s.first refl

pub returns-in_err-line-clause-part : goal.returns-in_err-line-clause-part
returns-in_err-line-clause-part g c =
    on_error c.from_residual.result _
    (running_stops g.T.Tag.fits c.args.cache.now c.args.config c.args.clients.now.items
    c.args.registers.now.items _ _ _ _ _ _ _ _
    c.loop-bytes.invariant.running)

pub answer_to-requires-clause-manned : goal.answer_to-requires-clause-manned
answer_to-requires-clause-manned g c =
    let run = c.loop-bytes.invariant.running in (c.args.config, run.states, run.manned)

pub answer_to-requires-clause-fits : goal.answer_to-requires-clause-fits
answer_to-requires-clause-fits g c =
    let fits = g.T.Tag.fits in
    let cache = c.args.cache.now in
    let config = c.args.config in
    let first = c.args.clients.now.items in
    let empty = c.args.registers.now.items in
    let run = c.loop-bytes.invariant.running in
    let line = c.in_ok-line.line in
    let next = next_line fits cache config first empty _ _ _ _ _ _ c.in-Some.after.now _ _ _ run
    line c.in-Some.ensures.line c.in_ok-line.ensures.ok in
    fits_here fits cache config first empty _ _ _ _ _ c.in-Some.after.now _ _ _ run line next
    c.requires.fits

pub returns-in_err-answer-clause-part : goal.returns-in_err-answer-clause-part
returns-in_err-answer-clause-part g c =
    on_error c.from_residual-in_err-answer.result _
    (running_stops g.T.Tag.fits c.args.cache.now c.args.config c.args.clients.now.items
    c.args.registers.now.items _ _ _ _ _ _ _ _
    c.loop-bytes.invariant.running)

pub returns-in_err-tell-clause-part : goal.returns-in_err-tell-clause-part
returns-in_err-tell-clause-part g c =
    let fits = g.T.Tag.fits in
    let cache = c.args.cache.now in
    let config = c.args.config in
    let first = c.args.clients.now.items in
    let empty = c.args.registers.now.items in
    let run = c.loop-bytes.invariant.running in
    let line = c.in_ok-line.line in
    let next = next_line fits cache config first empty _ _ _ _ _ _ c.in-Some.after.now _ _ _ run
    line c.in-Some.ensures.line c.in_ok-line.ensures.ok in
    on_error c.from_residual-in_err-tell.result _
    (running_fails fits cache config first empty _ _ _ _ _ _ c.in-Some.after.now _ _ _ _ _ run line
    c.in_ok-answer.answer next c.in_ok-answer.ensures.steps c.in_ok-answer.ensures.did
    c.in_err-tell.ensures.part)

pub loop-bytes-preserved-in_ok-tell : goal.loop-bytes-preserved-in_ok-tell
loop-bytes-preserved-in_ok-tell g c =
    let fits = g.T.Tag.fits in
    let cache = c.args.cache.now in
    let config = c.args.config in
    let first = c.args.clients.now.items in
    let empty = c.args.registers.now.items in
    let run = c.loop-bytes.invariant.running in
    let line = c.in_ok-line.line in
    let next = next_line fits cache config first empty _ _ _ _ _ _ c.in-Some.after.now _ _ _ run
    line c.in-Some.ensures.line c.in_ok-line.ensures.ok in
    record {
      running = running_goes fits cache config first empty _ _ _ _ _ _ _ c.in-Some.after.now _ _ _
          _ _ run line
          c.in_ok-answer.answer next c.in_ok-answer.ensures.steps
          c.in_ok-answer.ensures.did c.in_ok-tell.ensures.ok;
      count = c.in_ok-answer.ensures.count ∙ c.loop-bytes.invariant.count;
    }

pub loop-bytes-preserved : goal.loop-bytes-preserved
loop-bytes-preserved g c =
    let fits = g.T.Tag.fits in
    let cache = c.args.cache.now in
    let config = c.args.config in
    let first = c.args.clients.now.items in
    let empty = c.args.registers.now.items in
    let run = c.loop-bytes.invariant.running in
    let line = c.in_ok-line.line in
    let next = next_line fits cache config first empty _ _ _ _ _ _ c.in-Some.after.now _ _ _ run
    line c.in-Some.ensures.line c.in_ok-line.ensures.ok in
    record {
      running = running_goes fits cache config first empty _ _ _ _ _ _ _ c.in-Some.after.now _ _ _
          _ _ run line
          c.in_ok-answer.answer next c.in_ok-answer.ensures.steps
          c.in_ok-answer.ensures.did c.in_ok-tell.ensures.ok;
      count = c.in_ok-answer.ensures.count ∙ c.loop-bytes.invariant.count;
    }

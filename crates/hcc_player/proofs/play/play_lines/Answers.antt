use Rattle.std.proofs.Common.{◌++◌, string_bytes, sym, ap, refl}
use Rattle.std.proofs.KnownBytes.{Keeps-refl}
use Rattle.hcc_player.specs.Line.{line_event}
use Rattle.hcc_player.specs.Script.{script_of}
use Rattle.hcc_player.specs.Play.{events_in, played}
use Rattle.hcc_player.proofs.Splits.{said_of, splits}
use Rattle.hcc_player.proofs.ByteLemmas.{leaves_all, on_error}
use Rattle.hcc_player.proofs.PlayLemmas.{playing_goes, playing_stops}
use Rattle.hcc_player.proofs.PlayLemmas.{playing_fails}
use Rattle.hcc_player.proofs.play.play_lines.Goals as goal

pub loop-line-init : goal.loop-line-init
unfolding script_of
loop-line-init g c =
    let events = said_of (events_in c.args.text.now) c.requires in
    let pending = string_bytes c.args.pending.now in
    record {
      number = 1;
      events = events.0;
      script = events.1;
      done = pending;
      out = leaves_all _ _ pending (Keeps-refl _);
      whole = ap (λ r. pending ++ played c.args.world.now r) (sym events.1);
    }

pub judged_line-requires : goal.judged_line-requires
judged_line-requires g c =
    let so_far = c.loop-line.invariant in
    let s = splits line_event so_far.number c.loop-line.rest.now c.in-Some.line.now
    c.in-Some.after.now so_far.events c.in-Some.ensures.line so_far.script in
    rw s.first refl

pub returns-in_err-event-clause-part : goal.returns-in_err-event-clause-part
returns-in_err-event-clause-part g c =
    on_error c.from_residual.result _ (playing_stops _ _ _ _ _ _ c.loop-line.invariant)

pub returns-in_err-play_event-clause-part : goal.returns-in_err-play_event-clause-part
returns-in_err-play_event-clause-part g c =
    on_error c.from_residual-in_err-play_event.result _
    (playing_fails _ _ _ _ _ _ c.in-Some.after.now _ _
    c.in_ok-event.event
    c.loop-line.invariant c.in-Some.ensures.line c.in_ok-event.ensures.ok
    c.in_err-play_event.ensures.part)

pub loop-line-preserved : goal.loop-line-preserved
loop-line-preserved g c =
    playing_goes _ _ _ _ _ _ _ c.in-Some.after.now _ _ _ c.in_ok-event.event c.loop-line.invariant
    c.in-Some.ensures.line c.in_ok-event.ensures.ok c.in_ok-play_event.ensures.world
    c.in_ok-play_event.ensures.ok

use Rattle.std.proofs.Common.{[]}
use Rattle.hcc_player.proofs.ByteLemmas.{leaves_less, leaves_none, leaves_kept, on_error}
use Rattle.hcc_player.proofs.play.play_text.Goals as goal

pub returns-in_err-write_out-clause-part : goal.returns-in_err-write_out-clause-part
returns-in_err-write_out-clause-part g c =
    let left = rw (c.new-pending.ensures.bytes) at c.in_ok-play_lines.ensures.ok in
    let part = rw (c.as_bytes.ensures.value) at c.in_err-write_out.ensures.part in
    on_error c.from_residual-in_err-write_out.result _
    (part.0, leaves_less _ _ _ _ _ _ left part.1)

pub returns-clause-part : goal.returns-clause-part
returns-clause-part g c =
    let left = rw (c.new-pending.ensures.bytes) at c.in_ok-play_lines.ensures.ok in
    let out = rw (c.as_bytes.ensures.value) at c.in_ok-write_out.ensures.ok in
    on_error c.flush.result _ (
      [],
      leaves_kept _ _ _ _ _ (leaves_less _ _ _ _ _ _ left (leaves_none _ _ _ out))
          c.flush.ensures.kept,
    )

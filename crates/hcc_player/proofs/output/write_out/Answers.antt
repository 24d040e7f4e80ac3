use Rattle.std.proofs.lemmas.List.{take_rest}
use Rattle.hcc_player.proofs.ByteLemmas.{leaves_less, leaves_dropped}
use Rattle.hcc_player.proofs.output.write_out.Goals as goal

pub loop-preserved : goal.loop-preserved
loop-preserved g c =
    rw (take_rest c.loop.rest.now c.in_ok-count.count)
    (leaves_less _ _ _ _ _ _ c.loop.invariant
    (leaves_dropped _ _ c.loop.rest.now c.in_ok-count.count c.in_ok-count.ensures.ok))

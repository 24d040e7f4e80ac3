use Rattle.hcc_player.proofs.EndLemmas.{LettingGo}
use Rattle.hcc_player.proofs.run.playing.closed.Given as goal

abbrev pub invariant-loop-number : goal.invariant-loop-number
invariant-loop-number g l = LettingGo g.T.Tag.fits l.cache l.number l.fn.clients.items
    l.clients.items l.fn.registers.items

use Rattle.hcc_cache_tests.proofs.Staged.{known_set}
use Rattle.hcc_cache_tests.proofs.cache.stage.closes.Goals as goal

pub loop-number-preserved : goal.loop-number-preserved
loop-number-preserved g c = record {
  known = known_set c.args.stage.cache c.loop-number.clients.items c.loop-number.number
      c.lets_go.new.client c.loop-number.invariant.known c.lets_go.ensures;
}

use Rattle.std.proofs.Common.{◌≡◌, ◌++◌, map, length}
use Rattle.std.specs.Vec.Iter.{into_iter_items}
use Rattle.hcc_player.proofs.blocks.crew.apart.Given as goal

abbrev pub invariant-loop-client : goal.invariant-loop-client
invariant-loop-client g l = record {
  clients : l.clients.items ++ map (λ d. d.client) (into_iter_items l.done)
      ≡ map (λ d. d.client) l.fn.done.items;
  reports : l.reports.items ++ map (λ d. d.report) (into_iter_items l.done)
      ≡ map (λ d. d.report) l.fn.done.items;
}

abbrev pub decreases-loop-client : goal.decreases-loop-client
decreases-loop-client g l = length (into_iter_items l.done)

use Rattle.std.proofs.Common.{length, map}
use Rattle.std.specs.Vec.Iter.{into_iter_items}
use Rattle.hcc_player.proofs.Crewing.{AreMade}
use Rattle.hcc_player.proofs.blocks.crew.crew.Given as goal

abbrev pub invariant-loop-client : goal.invariant-loop-client
invariant-loop-client g l =
    AreMade l.fn.clients.items l.fn.sources.items (map (λ list. list.items) l.fn.lists.items)
    l.fn.block (into_iter_items l.clients) (into_iter_items l.sources)
    (map (λ list. list.items) (into_iter_items l.lists)) l.workers.items

abbrev pub decreases-loop-client : goal.decreases-loop-client
decreases-loop-client g l = length (into_iter_items l.clients)

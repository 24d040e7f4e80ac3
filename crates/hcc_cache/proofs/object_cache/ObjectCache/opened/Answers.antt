use Rattle.hcc_cache.proofs.HandedBack.NewClients.{opened_for}
use Rattle.hcc_cache.proofs.object_cache.ObjectCache.opened.Goals as goal

pub returns-clause-made : goal.returns-clause-made
returns-clause-made c =
    opened_for c.args.config _ c.in_ok-cache.clients.items c.in_ok-clients.clients.items
    (rw c.plain.ensures at c.in_ok-cache.ensures.made) c.in_ok-clients.ensures

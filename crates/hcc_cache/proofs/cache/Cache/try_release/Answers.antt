use Rattle.std.proofs.Common.{refl}
use Rattle.hcc_cache.proofs.Clients.ShownAfterwards.{stays_same}
use Rattle.hcc_cache.proofs.cache.Cache.try_release.Goals as goal

pub returns-clause-gives : goal.returns-clause-gives
returns-clause-gives g c = rw c.handle-handle.ensures at c.release_hold.ensures.gives

pub returns-clause-counts : goal.returns-clause-counts
returns-clause-counts g c = rw c.handle-handle.ensures at c.release_hold.ensures.counts

pub returns-clause-by : goal.returns-clause-by
returns-clause-by g c = rw c.handle-handle.ensures at c.release_hold.ensures.by

pub returns-in_err-hold-clause-stays : goal.returns-in_err-hold-clause-stays
returns-in_err-hold-clause-stays g c kept =
    stays_same c.args.self.now c.args.client.now c.args.client.now refl

pub returns-clause-standing : goal.returns-clause-standing
returns-clause-standing g c = rw c.handle-handle.ensures at c.release_hold.ensures.standing

pub returns-in_err-hold-clause-standing : goal.returns-in_err-hold-clause-standing
returns-in_err-hold-clause-standing g c hold index at kept =
    stays_same c.args.self.now c.args.client.now c.args.client.now refl

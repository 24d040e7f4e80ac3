use Rattle.std.proofs.Common.{◌≡◌, Some, refl}
use Rattle.hcc_c.specs.ObjectPools.{held_in}
use Rattle.hcc_c.proofs.ObjectBacks.{told}
use Rattle.hcc_c.proofs.object_pool.ObjectPool.close.Goals as goal

pub returns-in-Ok : goal.returns-in-Ok
returns-in-Ok c = record {
  ends = record {
    ends = told (λ _ left. Some c.in-Ok.left ≡ Some left) c.in-Ok.left tt
        c.args.self.now c.end.new.self (held_in c.args.clients.now) (held_in c.end.new.clients)
        c.in-Ok.ensures.ends refl;
    stays = tt;
  };
}

use Rattle.std.proofs.Common.{◌≡◌, Some, refl}
use Rattle.hcc_c.specs.Pools.{held_in}
use Rattle.hcc_c.proofs.Backs.{told}
use Rattle.hcc_c.proofs.pool.Pool.close_keeping.Goals as goal

pub returns-in-Ok : goal.returns-in-Ok
returns-in-Ok c = record {
  ends = record {
    ends = told (λ _ left. Some c.in-Ok.closed ≡ Some left) c.in-Ok.closed tt
        c.args.self.now c.end.new.self (held_in c.args.clients.now) (held_in c.end.new.clients)
        c.in-Ok.ensures.ends refl;
    stays = tt;
  };
}

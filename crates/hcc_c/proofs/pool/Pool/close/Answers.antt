use Rattle.std.proofs.Common.{◌≡◌}
use Rattle.hcc_c.specs.Left.{totals_of}
use Rattle.hcc_c.specs.Pools.{held_in}
use Rattle.hcc_c.proofs.Backs.{told}
use Rattle.hcc_c.proofs.pool.Pool.close.Goals as goal

pub returns-in-Ok : goal.returns-in-Ok
returns-in-Ok c = record {
  ends = told (λ totals left. totals ≡ totals_of left) c.in-Ok.closed c.totals.result
      c.args.self.now c.end.new.self (held_in c.args.clients.now) (held_in c.end.new.clients)
      c.in-Ok.ensures.ends c.totals.ensures;
}

use Rattle.std.proofs.Common.{take, IfSome, IfNone}
use Rattle.hcc_cache.specs.Clients.{held_by}
use Rattle.hcc_cache.specs.Closings.{IsLeastHolder, NoneHas}
use Rattle.hcc_cache.proofs.closing.least_holder.Given as goal

abbrev pub invariant-loop-client : goal.invariant-loop-client
invariant-loop-client g l = record {
  found : IfSome l.least (IsLeastHolder (take l.client-index l.clients));
  none : IfNone l.least (NoneHas held_by (λ c. c.number) (take l.client-index l.clients));
}

use Rattle.std.proofs.Common.{take, IfSome, IfNone}
use Rattle.hcc_cache.specs.ObjectsClosed.{IsLeastWith, NoneWith, handles_of}
use Rattle.hcc_cache.proofs.object_closing.least_holder.Given as goal

abbrev pub invariant-loop-it : goal.invariant-loop-it
invariant-loop-it l = record {
  found : IfSome l.least (IsLeastWith handles_of (take l.it-index l.clients));
  none : IfNone l.least (NoneWith handles_of (take l.it-index l.clients));
}

use Rattle.std.proofs.Common.{take, IfSome, IfNone}
use Rattle.hcc_cache.specs.ObjectsClosed.{IsLeastWith, NoneWith, untaken_of}
use Rattle.hcc_cache.proofs.object_closing.least_untaken.Given as goal

abbrev pub invariant-loop-it : goal.invariant-loop-it
invariant-loop-it l = record {
  found : IfSome l.least (IsLeastWith untaken_of (take l.it-index l.clients));
  none : IfNone l.least (NoneWith untaken_of (take l.it-index l.clients));
}

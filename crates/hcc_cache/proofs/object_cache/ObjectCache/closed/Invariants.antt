use Rattle.std.proofs.Common.{◌≡◌, ◌+◌, ◌≤◌, ◌++◌, length, map, vec_capacity}
use Rattle.hcc_cache.specs.Objects.{client_of}
use Rattle.hcc_cache.proofs.object_cache.ObjectCache.closed.Given as goal

abbrev pub invariant-loop-client : goal.invariant-loop-client
invariant-loop-client l = record {
  same : l.back.items ++ map client_of l.client-iterator.rest.items
      ≡ map client_of l.fn.clients.items;
  room : length l.back.items + length l.client-iterator.rest.items ≤ vec_capacity l.back;
}

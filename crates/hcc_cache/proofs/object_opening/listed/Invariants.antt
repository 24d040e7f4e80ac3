use Rattle.std.proofs.Common.{◌≡◌, ℕ, ◌++◌, Some, map, slice_get}
use Rattle.hcc_cache.specs.declared.object_cache.ObjectClient.{ObjectClient}
use Rattle.hcc_cache.specs.Objects.{client_of}
use Rattle.hcc_cache.specs.ObjectsOpened.{IsBlank}
use Rattle.hcc_cache.proofs.object_opening.listed.Given as goal

abbrev pub invariant-loop-client : goal.invariant-loop-client
invariant-loop-client l = record {
  same : map client_of l.listed.items ++ l.client-iterator.rest.items ≡ l.fn.clients.items;
  blank : (k : ℕ) (client : ObjectClient) → slice_get l.listed.items k ≡ Some client
      → IsBlank l.config client.gone;
}

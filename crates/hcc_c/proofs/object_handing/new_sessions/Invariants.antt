use Rattle.std.proofs.Common.{◌≡◌, ◌+◌, ◌++◌, ◌≤◌, length, map, vec_capacity}
use Rattle.std.specs.Arc.{arc_value}
use Rattle.hcc_rule.specs.Views.{Each}
use Rattle.hcc_c.specs.ObjectPools.{IsBack, IsNew}
use Rattle.hcc_c.proofs.object_handing.new_sessions.Given as goal

abbrev pub invariant-loop-client : goal.invariant-loop-client
invariant-loop-client l = record {
  rest : Each (IsBack (arc_value l.cache)) l.client-iterator.rest.items;
  clients_are : map (λ session. session.value.client) l.sessions.items
      ++ l.client-iterator.rest.items ≡ l.fn.clients.items;
  each : Each (λ session. IsNew (arc_value l.cache) l.number session.value) l.sessions.items;
  room : length l.sessions.items + length l.client-iterator.rest.items
      ≤ vec_capacity l.sessions;
}

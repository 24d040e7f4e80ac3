use Rattle.std.proofs.Common.{◌≡◌, ◌++◌, ◌≤◌, Some, drop, length, map, vec_len}
use Rattle.hcc_c.specs.ObjectPools.{held_in}
use Rattle.hcc_c.proofs.object_handing.give_each.Given as goal

abbrev pub invariant-loop-session : goal.invariant-loop-session
invariant-loop-session l = record {
  short : length l.sessions.items ≤ length l.fn.places;
  given : map (λ session. Some session.value) l.sessions.items
      ++ drop (length l.sessions.items) (held_in l.places)
      ≡ map (λ session. Some session.value) l.fn.sessions.items;
}

abbrev pub decreases-loop-session : goal.decreases-loop-session
decreases-loop-session l = vec_len l.sessions

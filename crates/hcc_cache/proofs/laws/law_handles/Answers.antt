use Rattle.std.proofs.Common.{◌≡◌, ◌<◌, Option, None, Some, IsSome, refl, ap, subst, sym, arith}
use Rattle.slab.specs.Slab.{get}
use Rattle.hcc_cache.specs.declared.handle.Handle.{Handle}
use Rattle.hcc_cache.specs.declared.holding.Hold.{Hold}
use Rattle.hcc_cache.specs.Clients.{hold_of}
use Rattle.hcc_cache.proofs.Handles.SameHolds.{hold_there, own_parts}
use Rattle.hcc_cache.proofs.laws.law_handles.Goals as goal

pub returns-clause-held : goal.returns-clause-held
returns-clause-held g c cache client knows handle holds = by (hold_of client handle) refl holds
  where
    by : (o : Option Hold) → hold_of client handle ≡ o → IsSome o
        → (handle.client ≡ client.number) × (handle.serial < client.used)
    by None is some = cc
    by (Some hold) is some =
        let there = hold_there client.number handle (get client.handles handle.index) hold is in
        let own = own_parts client.number handle (get client.handles handle.index) hold is in
        let used = (knows.holds.each handle.index hold there).1 in
        (own.0, subst (λ n. n < client.used) (sym own.1) used)

pub returns-clause-fresh : goal.returns-clause-fresh
returns-clause-fresh g c cache held old new more handle gains before same =
    let serial = gains.serial in
    let equal : more.serial ≡ handle.serial = ap (λ (h : Handle). h.serial) same in
    omega arith

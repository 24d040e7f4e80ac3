use Rattle.std.proofs.Common.{rules, ◌≡◌, Bool, Option, None, Some, IfSome, refl}
use Rattle.std.specs.Arc.{arc_value}
use Rattle.hcc_cache.specs.declared.handle.Handle.{Handle}
use Rattle.hcc_cache.specs.Calls.{GivesUp, Releases}
use Rattle.hcc_cache.specs.Clients.{Holds}
use Rattle.hcc_cache.specs.Handles.{handle_of}
use Rattle.hcc_c.specs.declared.session.Session.{Session}
use Rattle.hcc_c.specs.declared.shapes.CHandle.{CHandle}
use Rattle.hcc_c.specs.Sessions.{IsHandle}
use Rattle.hcc_c.specs.Shapes.{parts_in}
use Rattle.hcc_c.proofs.session.Session.release.Goals as goal

-- What the cache says of a release by parts, it says of the handle that they are.
given : (old new : Session) (number : CHandle) (useful erase : Bool) (answer : Option Bool)
    → number.cache ≡ old.cache_number
    → IfSome answer (λ _. Holds old.client (handle_of (parts_in number)))
    → IfSome answer (λ freed. Releases (arc_value old.cache) (handle_of (parts_in number)) erase
    freed old.client new.client)
    → IfSome answer (λ freed. GivesUp (arc_value old.cache) (handle_of (parts_in number)) useful
    erase freed old.client new.client)
    → IfSome answer (λ freed. (handle : Handle) × IsHandle old number handle
    × Releases (arc_value old.cache) handle erase freed old.client new.client
    × GivesUp (arc_value old.cache) handle useful erase freed old.client new.client)
given old new number useful erase None its holds releases gives = tt
given old new number useful erase (Some freed) its holds releases gives =
    (handle_of (parts_in number), (its, refl, holds), releases, gives)

-- What holds anyhow holds of an answer.
of_some : {P : Type 0} (answer : Option Bool) → P → IfSome answer (λ freed. P)
of_some None holds = tt
of_some (Some freed) holds = holds

pub returns-clause-released : goal.returns-clause-released
returns-clause-released c =
    let told = c.try_release.ensures in
    let parts = c.in_ok-parts.ensures.some in
    record {
      none = search rules;
      released =
          given c.args.self.now (record c.args.self.now { client = c.try_release.new.client })
          c.args.c_handle c.args.useful c.args.erase_if_last c.try_release.result parts.1
          (rw parts.0 at told.some) (rw (c.deref.ensures, parts.0) at told.released)
          (rw (c.deref.ensures, parts.0) at told.gives);
      by = rw (c.deref.ensures, parts.0) at told.by;
      stays = search rules;
      standing = of_some c.try_release.result
          (rw (c.deref.ensures, parts.0) at told.standing);
      counts = rw parts.0 at told.counts;
      rest = search rules;
      steps = search rules;
    }

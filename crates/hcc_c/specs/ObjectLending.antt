-- What an object of a cache of objects is once what it stands for was lent for a call.
use Rattle.std.specs.Prelude.{◌≡◌}
use Rattle.std.specs.Borrow.{Fml, Lends, MutBor}
use Rattle.hcc_c.specs.declared.object_holders.KeptObjectsAt.{KeptObjectsAt}
use Rattle.hcc_c.specs.declared.object_holders.ObjectClientAt.{ObjectClientAt}
use Rattle.hcc_c.specs.declared.kept_objects.KeptObjects.{KeptObjects}
use Rattle.hcc_c.specs.declared.object_session.ObjectSession.{ObjectSession}
use Rattle.hcc_c.specs.contracts.object_holders.KeptObjectsAt.{the_row as kept_at_row}
use Rattle.hcc_c.specs.contracts.object_holders.ObjectClientAt.{the_row as client_row}
use Rattle.hcc_c.specs.contracts.kept_objects.KeptObjects.{the_row as kept_row}
use Rattle.hcc_c.specs.contracts.object_session.ObjectSession.{the_row as session_row}

-- it stands at the same pointer
abbrev pub IsThere : (old new : ObjectClientAt) → Type 0
IsThere old new = new ≡ record old { value = new.value }

abbrev pub IsKeptThere : (old new : KeptObjectsAt) → Type 0
IsKeptThere old new = new ≡ record old { value = new.value }

-- it ends with the session, or what is left of a cache, that the call leaves
abbrev pub LendsSession : MutBor ObjectClientAt → MutBor ObjectSession → Fml
LendsSession object session =
    Lends client_row session_row object session (λ it. record object.now { value = it })

abbrev pub LendsKept : MutBor KeptObjectsAt → MutBor KeptObjects → Fml
LendsKept object kept =
    Lends kept_at_row kept_row object kept (λ it. record object.now { value = it })

-- What an object is once what it stands for was lent for a call.
use Rattle.std.specs.Prelude.{◌≡◌}
use Rattle.std.specs.Borrow.{Fml, Lends, MutBor}
use Rattle.hcc_c.specs.declared.objects.ClientObject.{ClientObject}
use Rattle.hcc_c.specs.declared.objects.ClosedObject.{ClosedObject}
use Rattle.hcc_c.specs.declared.objects.ImageObject.{ImageObject}
use Rattle.hcc_c.specs.declared.closed.Left.{Left}
use Rattle.hcc_c.specs.declared.image.Image.{Image}
use Rattle.hcc_c.specs.declared.session.Session.{Session}
use Rattle.hcc_c.specs.contracts.objects.ClientObject.{the_row as client_row}
use Rattle.hcc_c.specs.contracts.objects.ClosedObject.{the_row as closed_row}
use Rattle.hcc_c.specs.contracts.objects.ImageObject.{the_row as image_object_row}
use Rattle.hcc_c.specs.contracts.closed.Left.{the_row as left_row}
use Rattle.hcc_c.specs.contracts.image.Image.{the_row as image_row}
use Rattle.hcc_c.specs.contracts.session.Session.{the_row as session_row}

-- the object stands at the same pointer
abbrev pub IsThere : (old new : ClientObject) → Type 0
IsThere old new = new ≡ record old { value = new.value }

abbrev pub IsClosedThere : (old new : ClosedObject) → Type 0
IsClosedThere old new = new ≡ record old { value = new.value }

abbrev pub IsImageThere : (old new : ImageObject) → Type 0
IsImageThere old new = new ≡ record old { value = new.value }

-- an object ends with the session, what is left of a cache, or the entries that the call leaves
abbrev pub LendsSession : MutBor ClientObject → MutBor Session → Fml
LendsSession object session =
    Lends client_row session_row object session (λ left. record object.now { value = left })

abbrev pub LendsLeft : MutBor ClosedObject → MutBor Left → Fml
LendsLeft object left =
    Lends closed_row left_row object left (λ it. record object.now { value = it })

abbrev pub LendsImage : MutBor ImageObject → MutBor Image → Fml
LendsImage object image =
    Lends image_object_row image_row object image (λ it. record object.now { value = it })

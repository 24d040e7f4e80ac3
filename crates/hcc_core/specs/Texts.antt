-- The sentences of refusals.
use Rattle.std.specs.Prelude.{ℕ, List, codes}
use Rattle.hcc_core.specs.declared.event.CoreError.{CoreError}
use Rattle.hcc_core.specs.declared.event.CoreError.TheVariants.{NoSuchSlot, NoSuchClient, NotAllowed, OutOfMemory}

abbrev pub text_of : CoreError → List ℕ
text_of NoSuchSlot = codes "there is no such slot"
text_of NoSuchClient = codes "there is no such client"
text_of NotAllowed = codes "the protocol doesn't allow the event now"
text_of OutOfMemory = codes "an allocation failed"

-- The sentences of refusals.
use Rattle.std.specs.Prelude.{ℕ, List, codes}
use Rattle.hcc_shard.specs.declared.reopening.ReopenError.{ReopenError}
use Rattle.hcc_shard.specs.declared.reopening.ReopenError.TheVariants.{BadSlot, BadLength, BadUses, BadCharge, TooMany, TooLarge, OutOfMemory}

abbrev pub text_of : ReopenError → List ℕ
text_of BadSlot = codes "an entry's slot is none of the shard's, or not above the one before it"
text_of BadLength = codes "an entry's value is longer than a slot has room for"
text_of BadUses = codes "an entry has more than 553,651,204 uses"
text_of BadCharge = codes "an entry's charge is 0"
text_of TooMany = codes "the entries are more than 84 of 100 slots"
text_of TooLarge = codes "the charges in sum are above the capacity"
text_of OutOfMemory = codes "an allocation failed"

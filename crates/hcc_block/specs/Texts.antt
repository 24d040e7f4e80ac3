-- The sentences of refusals.
use Rattle.std.specs.Prelude.{ℕ, List, codes}
use Rattle.hcc_block.specs.declared.reader.ReadError.{ReadError}
use Rattle.hcc_block.specs.declared.reader.ReadError.TheVariants.{NoSuchBlock, SourceFault}

abbrev pub text_of : ReadError → List ℕ
text_of NoSuchBlock = codes "there is no such file, or the block lies at or past its end"
text_of SourceFault = codes "the source failed"

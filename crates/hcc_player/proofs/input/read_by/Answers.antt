use Rattle.std.proofs.Common.{◌++◌, arith, length-append}
use Rattle.std.proofs.lemmas.List.{length-take}
use Rattle.std.proofs.KnownBytes.{Consumes-trans}
use Rattle.hcc_player.proofs.input.read_by.Goals as goal

pub returns-in_err-read_part-clause-bounded : goal.returns-in_err-read_part-clause-bounded
returns-in_err-read_part-clause-bounded g c =
    let got = c.read_part.ensures.part in
    let bytes = c.loop.bytes.items in
    let cut = length-take c.min-size.result c.loop.chunk in
    let few = got.few in (
      bytes ++ got.part,
      rw (length-append bytes got.part) (omega arith),
      Consumes-trans _ _ _ _ _ c.loop.invariant.given got.given,
    )

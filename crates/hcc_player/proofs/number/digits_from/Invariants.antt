use Rattle.std.proofs.Common.{◌≡◌, drop}
use Rattle.hcc_player.specs.Number.{digits_from}
use Rattle.hcc_player.proofs.number.digits_from.Given as goal

abbrev pub invariant-loop-digit : goal.invariant-loop-digit
invariant-loop-digit l = digits_from l.number (drop l.digit-index l.digits)
    ≡ digits_from l.start l.digits

-- What is left of a value's digits behind the bytes read so far.
use Rattle.std.proofs.Common.{ℕ, List, ◌++◌, Result, Ok, Err}
use Rattle.hcc_player.specs.declared.fault.TextFault.{TextFault}

-- the bytes read so far, and then what reading gives
abbrev pub behind : List ℕ → Result (List ℕ) TextFault → Result (List ℕ) TextFault
behind front (Ok bytes) = Ok (front ++ bytes)
behind front (Err fault) = Err fault

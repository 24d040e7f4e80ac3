-- References that come and go.
use Rattle.std.proofs.Common.{ℕ, ◌≤◌, Bool, true, false, List, [], ◌∷◌, Option, Some, None, arith}
use Rattle.hcc_core.specs.declared.slot.Reference.{Reference}
use Rattle.hcc_core.specs.Sums.{when}
use Rattle.hcc_core.specs.World.{weight, counted}
use Rattle.hcc_core.specs.Entries.{first_references}

when_le : (b : Bool) (n : ℕ) → when b n ≤ n
when_le true n = omega arith
when_le false n = omega arith

-- counting references weigh no more than all
pub counted-le : (ks : List Reference) → counted ks ≤ weight ks
counted-le [] = omega arith
counted-le (k ∷ ks) = let one = when_le k.counting k.weight in
    let rest = counted-le ks in omega arith

-- a new entry has at most one reference, of weight 1
pub first-weight : (client : ℕ) (name : Option ℕ) → weight (first_references client name) ≤ 1
first-weight client None = omega arith
first-weight client (Some name) = omega arith

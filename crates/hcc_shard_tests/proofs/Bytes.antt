-- Lists of bytes.
use Rattle.std.proofs.Common.{ℕ, suc, ◌<◌, List, [], ◌∷◌, slice_index}
use Rattle.hcc_rule.specs.Views.{Each}

-- a list of which each index has a byte
pub each_from : (xs : List ℕ) → ((k : ℕ) → slice_index xs k < 256) → Each (λ b. b < 256) xs
each_from [] low = tt
each_from (x ∷ xs) low = (low 0, each_from xs (λ k. low (suc k)))

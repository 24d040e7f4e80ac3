use Rattle.std.proofs.Common.{◌≡◌, ◌<◌, ℕ, true, suc, List, [], ◌∷◌, get_or, arith, refl}
use Rattle.std.specs.List.{list_all}
use Rattle.std.proofs.lemmas.Bool.{and_from, lt-ltb}
use Rattle.hcc_core.specs.Steps.{fits}
use Rattle.hcc_core.proofs.machine.bytes_fit.Goals as goal

-- numbers that are all below 256 are all bytes
all_bytes : (bs : List ℕ) → ((k : ℕ) → get_or bs k 0 < 256) → list_all (fits 8) bs ≡ true
all_bytes [] h = refl
all_bytes (b ∷ bs) h = and_from (fits 8 b) (list_all (fits 8) bs)
    (lt-ltb b 256 (h 0)) (all_bytes bs (λ k. h (suc k)))

pub returns : goal.returns
returns c = all_bytes c.args.bytes.now (λ k. omega (arith, c.type_inv.bytes k))

-- A report that is written out whole, or in part.
use Rattle.std.proofs.Common.{◌≡◌, ◌⊎◌, inr, ℕ, List, [], Option, Some, None, IfSome, subst}
use Rattle.std.specs.Io.KnownBytes.{Appends, Keeps}
use Rattle.hcc_player.specs.Bytes.{AppendsPart}
use Rattle.hcc_player.proofs.ByteLemmas.{leaves_none, leaves_kept}

-- all was written, and then passed on or not
pub flushed : (a b c : Option (List ℕ)) (bytes told : List ℕ) → Appends a b bytes → bytes ≡ told
    → Keeps b c → AppendsPart a c told
flushed a b c bytes told out same kept =
    rw (← same) ([], leaves_kept a b c bytes [] (leaves_none a b bytes out) kept)

-- what holds of the bytes that were read holds of the known text
pub part_known : (known a b : Option (List ℕ)) (bytes : List ℕ) (P : List ℕ → Type 0)
    → IfSome known (λ text. bytes ≡ text) → P bytes → IfSome known (λ text. Keeps a b ⊎ P text)
part_known None a b bytes P same part = tt
part_known (Some text) a b bytes P same part = inr (subst P same part)

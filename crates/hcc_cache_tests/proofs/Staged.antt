-- What the tests' lists of clients are known to have.
use Rattle.std.proofs.Common.{ℕ, zero, suc, inl, inr, List, [], ◌∷◌, ◌++◌, refl}
use Rattle.std.specs.Prelude.{slice_set}
use Rattle.hcc_rule.specs.Views.{Each}
use Rattle.hcc_rule.proofs.Basics.Lists.{each_set}
use Rattle.hcc_cache.specs.declared.cache.Cache.{Cache}
use Rattle.hcc_cache.specs.declared.client.Client.{Client}
use Rattle.hcc_cache.specs.Known.{Knows}
use Rattle.hcc_cache_tests.specs.Staged.{AllKnown}
use Rattle.hcc_cache.proofs.Basics.Lists.{get_push}

module _ {T : Type 0} (cache : Cache T) where
  -- clients by their places are clients one by one
  pub each_known : (clients : List (Client T)) → AllKnown cache clients
      → Each (λ (c : Client T). Knows cache c) clients
  each_known [] known = tt
  each_known (c ∷ cs) known =
      (known zero c refl, each_known cs (λ k client at. known (suc k) client at))

  -- one more is known too
  pub known_push : (clients : List (Client T)) (more : Client T) → AllKnown cache clients
      → Knows cache more → AllKnown cache (clients ++ more ∷ [])
  known_push clients more known last k client at = elim (get_push clients more client k at) [
    | inl old ↦ known k client old
    | inr new ↦ rw (← new.1) last
  ]

  -- and so is one in the place of another
  pub known_set : (clients : List (Client T)) (place : ℕ) (one : Client T)
      → AllKnown cache clients → Knows cache one → AllKnown cache (slice_set clients place one)
  known_set clients place one known is =
      each_set (λ (k : ℕ) (client : Client T). Knows cache client) clients place one is
      (λ k client other at. known k client at)

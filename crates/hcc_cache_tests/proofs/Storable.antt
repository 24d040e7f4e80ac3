-- What a cache of the size that was asked for may be given.
use Rattle.std.proofs.Common.{◌≡◌, ℕ, ◌*◌, ◌≤◌, List, length, subst, sym}
use Rattle.hcc_rule.specs.declared.key.Key.{Key}
use Rattle.hcc_cache.specs.declared.cache.Cache.{Cache}
use Rattle.hcc_cache.specs.declared.config.Config.{Config}
use Rattle.hcc_cache_tests.specs.Chains.{IsStorable}

module _ {T : Type 0} (fits : T → Key → List ℕ → Type 0) (config : Config) (tag : T) (key : Key)
    (value : List ℕ) (charge : ℕ) (may : IsStorable fits config tag key value charge)
    (cache : Cache T) where
  -- the value fits the key there
  pub fits_there : cache.tag ≡ tag → fits cache.tag key value
  fits_there same = subst (λ t. fits t key value) (sym same) may.right

  -- and isn't too long
  pub short_there : cache.geometry.room ≡ config.room → length value ≤ 8 * cache.geometry.room
  short_there same = subst (λ n. length value ≤ 8 * n) (sym same) may.short

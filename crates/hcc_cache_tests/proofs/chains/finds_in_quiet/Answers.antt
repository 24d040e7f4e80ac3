use Rattle.std.proofs.Common.{◌≡◌, ℕ, List, None, Option, Some}
use Rattle.std.specs.Prelude.{IfNone, IfSome}
use Rattle.hcc_rule.specs.declared.key.Key.{Key}
use Rattle.hcc_cache.specs.declared.cache.Cache.{Cache}
use Rattle.hcc_cache.specs.declared.client.Client.{Client}
use Rattle.hcc_cache.specs.declared.handle.Handle.{Handle}
use Rattle.hcc_cache.specs.Calls.{Finds, Misses}
use Rattle.hcc_cache_tests.proofs.chains.finds_in_quiet.Goals as goal

-- a client that looked a key up keeps its number
module _ {T : Type 0} (fits : T → Key → List ℕ → Type 0) (cache : Cache T) (key : Key)
    (old new : Client T) where
  same_client : (found : Option Handle) → IfSome found (λ h. Finds cache fits key h old new)
      → IfNone found (Misses cache key old new) → new.number ≡ old.number
  same_client None finds misses = misses.works.self.0
  same_client (Some h) finds misses = finds.works.self.0

pub returns : goal.returns
returns g c = λ placed found is.
    let began = c.in_ok-cache in
    let new = c.lookup-found.new.client in
    let searched = rw is at c.lookup-found.ensures.searched in
    record {
      before = began.client;
      same =
          same_client g.T.Tag.fits began.cache c.args.key began.client new found
          (rw is at c.lookup-found.ensures.found) (rw is at c.lookup-found.ensures.missed);
      did = searched;
      there = λ quiet.
          c.law_undisturbed_lookups.ensures.there began.cache began.ensures.began c.args.key found
          began.client new began.ensures.first searched quiet (began.ensures.shown placed);
      exact = λ quiet.
          c.law_undisturbed_lookups.ensures.misses began.cache began.ensures.began c.args.key found
          began.client new began.ensures.first searched quiet;
    }

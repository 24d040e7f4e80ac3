use Rattle.hcc_cache_tests.proofs.chains.counts_moments.Goals as goal

pub returns : goal.returns
returns g c =
    c.law_loaded.ensures.usage c.in_ok-cache.cache c.usage-usage.result c.in_ok-cache.client
    c.usage-usage.new.client c.usage-usage.ensures.loads

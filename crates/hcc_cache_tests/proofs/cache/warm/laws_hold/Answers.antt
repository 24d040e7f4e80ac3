use Rattle.hcc_cache_tests.proofs.cache.warm.laws_hold.Goals as goal

pub returns-clause-misses : goal.returns-clause-misses
returns-clause-misses g c = λ config tag image cache clients began one key found old new h.
    c.law_lookups.ensures.misses config tag cache began.cache_is one key found old new h

pub returns-clause-capacity : goal.returns-clause-capacity
returns-clause-capacity g c = λ config tag image cache clients began strict number shard there s
    holds.
    c.law_limits.ensures.capacity config tag s (record {
      cache = cache;
      cache_is = began.cache_is;
      number = number;
      shard = shard;
      there = there;
      holds = holds;
    }) strict

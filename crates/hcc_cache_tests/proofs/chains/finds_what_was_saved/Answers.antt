use Rattle.std.proofs.Common.{arith, map, subst}
use Rattle.hcc_rule.specs.declared.key.Key.{Key}
use Rattle.hcc_cache.specs.Images.{visible_of}
use Rattle.hcc_cache.specs.Moments.{KnowsShown}
use Rattle.hcc_cache_tests.proofs.chains.finds_what_was_saved.Goals as goal

pub two-client-requires : goal.two-client-requires
two-client-requires g c =
    let may = c.requires.clients in
    let count = c.in_ok-cache.ensures.made.clients_are in
    let all = c.in_ok-cache.clients.ok.0 in
    omega arith

pub erase-requires : goal.erase-requires
erase-requires g c =
    c.in_ok-cache.ensures.made.known 1 c.two-client.result.1 c.two-client.ensures.second

pub lookup-found-requires : goal.lookup-found-requires
lookup-found-requires g c =
    c.in_ok-cache.ensures.made.known 0 c.two-client.result.0 c.two-client.ensures.first

pub returns : goal.returns
returns g c = λ missed index saved there same.
    let made = c.in_ok-cache.ensures.made in
    let cache = c.in_ok-cache.cache in
    let old = c.two-client.result.0 in
    let new = c.lookup-found.new.client in
    let at = c.two-client.ensures.first in
    let searched = rw missed at c.lookup-found.ensures.searched in
    let misses = rw missed at c.lookup-found.ensures.missed in
    let knew =
    subst (λ (key : Key). KnowsShown cache key old) same
    (c.law_shown_since.ensures.reopened c.args.config c.args.tag (map visible_of c.args.image.items)
    cache c.in_ok-cache.clients.items made index saved there 0 old at) in
    let taken =
    c.law_lookups.ensures.taken cache made.began c.args.key old new (made.known 0 old at) searched
    knew in
    record {
      before = old;
      same = misses.works.self.0;
      knew = knew;
      taken = taken;
      gone =
          c.law_shown_since.ensures.gone cache made.began c.args.key old new taken.goes knew
          taken.since;
    }

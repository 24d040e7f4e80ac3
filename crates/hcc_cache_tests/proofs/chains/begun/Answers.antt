use Rattle.std.proofs.Common.{true, ap, arith}
use Rattle.hcc_rule.specs.declared.geometry.Geometry.{Geometry}
use Rattle.hcc_cache.specs.declared.priority.Priority.TheVariants.{Low}
use Rattle.hcc_cache_tests.proofs.Storable.{fits_there, short_there}
use Rattle.hcc_cache_tests.proofs.chains.begun.Goals as goal

pub two-first-requires : goal.two-first-requires
two-first-requires g c =
    let may = c.requires.clients in
    let count = c.in_ok-cache.ensures.made.dealt.count in
    let all = c.in_ok-cache.clients.ok.0 in
    omega arith

pub insert-stored-requires-clause-known : goal.insert-stored-requires-clause-known
insert-stored-requires-clause-known g c =
    c.in_ok-cache.ensures.made.known 0 c.two-first.result.0 c.two-first.ensures.first

pub insert-stored-requires-clause-fits : goal.insert-stored-requires-clause-fits
insert-stored-requires-clause-fits g c =
    fits_there g.T.Tag.fits c.args.config c.args.tag c.args.key c.args.value.now c.args.charge
    c.requires c.in_ok-cache.cache c.in_ok-cache.ensures.made.cache_is.tag_is

pub insert-stored-requires-clause-short : goal.insert-stored-requires-clause-short
insert-stored-requires-clause-short g c =
    short_there g.T.Tag.fits c.args.config c.args.tag c.args.key c.args.value.now c.args.charge
    c.requires c.in_ok-cache.cache
    (ap (λ (x : Geometry). x.room) c.in_ok-cache.ensures.made.cache_is.geometry)

pub returns-clause-second : goal.returns-clause-second
returns-clause-second g c =
    c.in_ok-cache.ensures.made.known 1 c.two-first.result.1 c.two-first.ensures.second

pub returns-clause-shown : goal.returns-clause-shown
returns-clause-shown g c = λ placed.
    c.law_shown_since.ensures.placed c.in_ok-cache.cache c.in_ok-cache.ensures.began c.args.key
    c.args.charge Low true true c.two-first.result.0 c.insert-stored.new.client
    (c.in_ok-cache.ensures.made.known 0 c.two-first.result.0 c.two-first.ensures.first)
    (rw placed at c.insert-stored.ensures.evicts)

pub returns-clause-room : goal.returns-clause-room
returns-clause-room g c =
    ap (λ (x : Geometry). x.room) c.in_ok-cache.ensures.made.cache_is.geometry

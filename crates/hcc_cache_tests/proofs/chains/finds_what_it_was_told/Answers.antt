use Rattle.std.proofs.Common.{inl, inr}
use Rattle.hcc_cache.specs.Moments.{KnowsShown}
use Rattle.hcc_cache_tests.proofs.chains.finds_what_it_was_told.Goals as goal

pub returns : goal.returns
returns g c = λ placed missed.
    let began = c.in_ok-cache in
    let cache = began.cache in
    let key = c.args.key in
    let witness = c.witness-witness in
    let giver = witness.new.client in
    let told = c.follow.new.client in
    let new = c.lookup-found.new.client in
    let knew : KnowsShown cache key giver =
    rw witness.ensures.same (began.ensures.shown placed) in
    let goes =
    c.law_told.ensures cache key giver told witness.result
    (rw witness.ensures.same witness.ensures.tells) c.follow.ensures.follows in
    let searched = rw missed at c.lookup-found.ensures.searched in
    let misses = rw missed at c.lookup-found.ensures.missed in
    record {
      knew = knew;
      told = told;
      goes = goes;
      lost = elim
          (c.law_shown_since.ensures.since cache began.ensures.began key giver told goes knew) [
            | inl knows ↦ inr (let taken =
                c.law_lookups.ensures.taken cache began.ensures.began key told new
                c.follow.ensures.known searched knows.0 in record {
                  before = told;
                  same = misses.works.self.0;
                  knew = knows.0;
                  taken = taken;
                  gone = c.law_shown_since.ensures.gone cache began.ensures.began key told new
                      taken.goes knows.0 taken.since;
                })
            | inr taken ↦ inl taken
          ];
    }

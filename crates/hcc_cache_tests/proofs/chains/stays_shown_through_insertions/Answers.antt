use Rattle.std.proofs.Common.{inl, inr}
use Rattle.hcc_cache_tests.proofs.Storable.{fits_there, short_there}
use Rattle.hcc_cache_tests.proofs.chains.stays_shown_through_insertions.Goals as goal

pub insert-requires-clause-fits : goal.insert-requires-clause-fits
insert-requires-clause-fits g c =
    fits_there g.T.Tag.fits c.args.config c.args.tag c.args.other c.args.value.now c.args.charge
    c.requires.second c.in_ok-cache.cache c.in_ok-cache.ensures.tag

pub insert-requires-clause-short : goal.insert-requires-clause-short
insert-requires-clause-short g c =
    short_there g.T.Tag.fits c.args.config c.args.tag c.args.other c.args.value.now c.args.charge
    c.requires.second c.in_ok-cache.cache c.in_ok-cache.ensures.room

pub returns : goal.returns
returns g c = λ placed.
    let began = c.in_ok-cache in
    let knew = began.ensures.shown placed in
    let goes =
    c.law_told.ensures began.cache c.args.key began.client c.follow.new.client
    c.witness-witness.result c.witness-witness.ensures.tells c.follow.ensures.follows in
    elim (c.law_shown_since.ensures.since began.cache began.ensures.began c.args.key began.client
    c.follow.new.client goes knew) [
      | inl now ↦ inl now.0
      | inr taken ↦
          inr (record { before = began.client; knew = knew; goes = goes; taken = taken })
    ]

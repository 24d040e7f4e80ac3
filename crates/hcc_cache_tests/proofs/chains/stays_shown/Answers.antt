use Rattle.std.proofs.Common.{inl, inr}
use Rattle.hcc_cache_tests.proofs.chains.stays_shown.Goals as goal

pub returns : goal.returns
returns g c = λ placed.
    let began = c.in_ok-cache in
    let knew = began.ensures.shown placed in
    elim (c.law_shown_since.ensures.stays began.cache began.ensures.began c.args.key began.client
    c.pinned_usage.new.client began.ensures.first c.pinned_usage.ensures.stays knew) [
      | inl shown ↦ inl shown
      | inr taken ↦ inr (record {
        before = began.client;
        same = c.pinned_usage.ensures.views.self.0;
        knew = knew;
        taken = taken;
        gone =
            c.law_shown_since.ensures.gone began.cache began.ensures.began c.args.key began.client
            c.pinned_usage.new.client taken.goes knew taken.since;
      })
    ]

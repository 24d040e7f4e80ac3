use Rattle.std.proofs.Common.{◌≡◌, Bool, ap, sym, subst, ◌∙◌}
use Rattle.std.proofs.lemmas.Option.{same_Some}
use Rattle.hcc_shard.specs.Callers.{AcquiresAt}
use Rattle.hcc_cache.specs.declared.holding.Hold.{Hold}
use Rattle.hcc_cache.specs.declared.holding.Kept.TheVariants.{Pinned}
use Rattle.hcc_cache.specs.Calls.{AtShard, CountsOf}
use Rattle.hcc_cache.proofs.cache.Cache.again.Goals as goal

pub returns-in-Ok-clause-acquires : goal.returns-in-Ok-clause-acquires
returns-in-Ok-clause-acquires g c = λ hold slot counting at kept.
    let same : hold ≡ c.args.hold = same_Some _ _ (sym at ∙ c.requires.held) in
    let is : Pinned c.in-Ok.pin.slot c.in-Ok.pin.counting ≡ Pinned slot counting =
    sym c.in-Ok.ensures.pinned.kept ∙ sym (ap (λ (h : Hold). h.kept) same) ∙ kept in
    let there : c.in-Ok.pin.slot ≡ slot = cc in
    subst (λ (h : Hold). AtShard c.args.self.now (λ shard was is. (counts : Bool)
    × AcquiresAt shard slot counts was is) h.shard c.args.client.now c.pinned_again.new.client)
    (sym same)
    (subst (λ s. AtShard c.args.self.now (λ shard was is. (counts : Bool)
    × AcquiresAt shard s counts was is) c.args.hold.shard c.args.client.now
    c.pinned_again.new.client) there c.pinned_again.ensures.acquires)

pub returns-in-Ok-clause-counts : goal.returns-in-Ok-clause-counts
returns-in-Ok-clause-counts g c = λ hold at.
    let same : hold ≡ c.args.hold = same_Some _ _ (sym at ∙ c.requires.held) in
    subst (λ (h : Hold). CountsOf h.shard h.kept c.args.client.now c.pinned_again.new.client)
    (sym same)
    (subst (λ k. CountsOf c.args.hold.shard k c.args.client.now
    c.pinned_again.new.client) (sym c.in-Ok.ensures.pinned.kept) c.pinned_again.ensures.counts)

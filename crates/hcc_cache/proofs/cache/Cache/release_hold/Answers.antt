use Rattle.std.proofs.Common.{◌≡◌, ◌&&◌, true, ap, sym, subst, ◌∙◌}
use Rattle.std.proofs.lemmas.Option.{same_Some}
use Rattle.hcc_cache.specs.declared.holding.Hold.{Hold}
use Rattle.hcc_cache.specs.Calls.{CountsOf}
use Rattle.hcc_cache.specs.declared.holding.Kept.TheVariants.{Pinned, Standing}
use Rattle.hcc_cache.specs.Stays.{ReleasesPin}
use Rattle.hcc_cache.proofs.Handles.OfItsPin.{of_no_pin, of_pin}
use Rattle.hcc_cache.proofs.cache.Cache.release_hold.Goals as goal

pub returns-in-Ok-clause-counts : goal.returns-in-Ok-clause-counts
returns-in-Ok-clause-counts g c = λ hold at.
    let same : hold ≡ c.args.hold = same_Some _ _ (sym at ∙ c.requires.held) in
    subst (λ (h : Hold). CountsOf h.shard h.kept c.args.client.now c.release_pin.new.client)
    (sym same)
    (subst (λ k. CountsOf c.args.hold.shard k c.args.client.now c.release_pin.new.client)
    (sym c.in-Ok.ensures.pinned.kept) c.release_pin.ensures.counts)

pub returns-in-Ok-clause-by : goal.returns-in-Ok-clause-by
returns-in-Ok-clause-by g c =
    of_pin c.args.client.now c.args.handle c.args.hold c.requires.held
    (λ h slot counting. ReleasesPin c.args.self.now h slot true (c.args.useful && counting)
    c.args.erase_if_last c.release_pin.result c.args.client.now c.release_pin.new.client)
    c.in-Ok.pin c.in-Ok.ensures.pinned c.release_pin.ensures.by

pub returns-in-Err-clause-by : goal.returns-in-Err-clause-by
returns-in-Err-clause-by g c =
    of_no_pin c.args.client.now c.args.handle c.args.hold c.requires.held
    (λ h slot counting. ReleasesPin c.args.self.now h slot true (c.args.useful && counting)
    c.args.erase_if_last c.release_standing.result c.args.client.now c.release_standing.new.client)
    c.in-Err.index c.in-Err.ensures.standing

pub returns-in-Ok-clause-standing : goal.returns-in-Ok-clause-standing
returns-in-Ok-clause-standing g c = λ hold index at kept.
    let same : hold ≡ c.args.hold = same_Some _ _ (sym at ∙ c.requires.held) in
    let is : Pinned c.in-Ok.pin.slot c.in-Ok.pin.counting ≡ Standing index =
    sym c.in-Ok.ensures.pinned.kept ∙ sym (ap (λ (h : Hold). h.kept) same) ∙ kept in
    absurd (let never : ⊥ = cc in never)

use Rattle.std.proofs.Common.{◌≡◌, ◌∷◌, ◌++◌, [], Some, length, map, slice_get, sym, refl, ap, ◌∙◌, arith}
use Rattle.std.proofs.lemmas.List.{map-append}
use Rattle.std.proofs.lemmas.Option.{slice_get_read}
use Rattle.hcc_core.proofs.ListLemmas.{set_same}
use Rattle.hcc_cache.specs.Drafts.{takes}
use Rattle.hcc_cache.specs.Images.{visible_of}
use Rattle.hcc_cache.specs.Sharding.{shard_of}
use Rattle.hcc_cache.specs.Taken.{home_of}
use Rattle.hcc_cache.proofs.Beginnings.DraftsFilled.{drafting_more, drafting_none, drafting_past, has_free}
use Rattle.hcc_cache.proofs.drafting.drafted.Goals as goal

pub loop-saved-init : goal.loop-saved-init
loop-saved-init c =
    let from : c.into_iter-saved-iterator.result.rest.items ≡ c.args.image.items =
    c.into_iter-saved-iterator.ensures.into_iter_gives.0 in
    rw (c.new-left.ensures.items, from) (drafting_none c.args.config _ c.in_ok-drafts.drafts.items
    c.in_ok-drafts.ensures.count c.in_ok-drafts.ensures.each)

pub takes-requires-clause-low : goal.takes-requires-clause-low
takes-requires-clause-low c =
    let drafts = c.loop-saved.drafts.items in
    let shard = c.shard_of-shard.result in
    let d = c.index_mut-draft.result.now in
    let are = c.loop-saved.invariant.drafts_are in
    let inside = c.shard_of-shard.ensures.within in
    let count = are.count in
    let at : slice_get drafts shard ≡ Some d =
    slice_get_read drafts (length drafts) shard d refl (omega arith)
    c.index_mut-draft.ensures.value in
    let is = are.each shard d at in
    let small = is.small in
    let few = is.few in
    let slots = c.requires.slots in
    omega arith

pub put-requires-clause-power : goal.put-requires-clause-power
put-requires-clause-power c =
    let drafts = c.loop-saved.drafts.items in
    let shard = c.shard_of-shard.result in
    let d = c.index_mut-draft.result.now in
    let are = c.loop-saved.invariant.drafts_are in
    let inside = c.shard_of-shard.ensures.within in
    let count = are.count in
    let at : slice_get drafts shard ≡ Some d =
    slice_get_read drafts (length drafts) shard d refl (omega arith)
    c.index_mut-draft.ensures.value in
    rw (are.each shard d at).wide c.requires.slots_power

pub put-requires-clause-free : goal.put-requires-clause-free
put-requires-clause-free c =
    let drafts = c.loop-saved.drafts.items in
    let shard = c.shard_of-shard.result in
    let d = c.index_mut-draft.result.now in
    let are = c.loop-saved.invariant.drafts_are in
    let inside = c.shard_of-shard.ensures.within in
    let count = are.count in
    let at : slice_get drafts shard ≡ Some d =
    slice_get_read drafts (length drafts) shard d refl (omega arith)
    c.index_mut-draft.ensures.value in
    has_free c.args.config c.loop-saved.invariant.so_far.taken shard d _ _ (are.each shard d at)
    (sym c.takes.ensures.exact ∙ c.if-takes.true)

pub put-requires-clause-low : goal.put-requires-clause-low
put-requires-clause-low c =
    let drafts = c.loop-saved.drafts.items in
    let shard = c.shard_of-shard.result in
    let d = c.index_mut-draft.result.now in
    let are = c.loop-saved.invariant.drafts_are in
    let inside = c.shard_of-shard.ensures.within in
    let count = are.count in
    let at : slice_get drafts shard ≡ Some d =
    slice_get_read drafts (length drafts) shard d refl (omega arith)
    c.index_mut-draft.ensures.value in
    let is = are.each shard d at in
    let small = is.small in
    let few = is.few in
    let slots = c.requires.slots in
    omega arith

pub loop-saved-preserved-then-takes : goal.loop-saved-preserved-then-takes
loop-saved-preserved-then-takes c =
    let config = c.args.config in
    let drafts = c.loop-saved.drafts.items in
    let shard = c.shard_of-shard.result in
    let d = c.index_mut-draft.result.now in
    let saved = c.in-Some.saved in
    let are = c.loop-saved.invariant.drafts_are in
    let inside = c.shard_of-shard.ensures.within in
    let count = are.count in
    let at : slice_get drafts shard ≡ Some d =
    slice_get_read drafts (length drafts) shard d refl (omega arith)
    c.index_mut-draft.ensures.value in
    let home : home_of config (visible_of saved) ≡ shard =
    ap (λ k. shard_of k config.shards) (sym c.key_to-seeded.ensures.words)
    ∙ sym c.shard_of-shard.ensures.exact in
    let room = ap (takes config d saved.charge) (sym (c.len.ensures ∙ saved.value.ok.0)) in
    let before = rw c.in-Some.ensures.steps.0 at c.loop-saved.invariant in
    drafting_more config _ drafts _ (map visible_of c.next.new.self.rest.items) saved shard d
    before at home c.put.new.self c.key_to-seeded.result.in_shard c.put.ensures
    c.key_to-seeded.ensures.words c.key_to-seeded.ensures.undone
    c.takes.ensures.small (room ∙ (sym c.takes.ensures.exact ∙ c.if-takes.true))

pub loop-saved-preserved : goal.loop-saved-preserved
loop-saved-preserved c =
    let config = c.args.config in
    let drafts = c.loop-saved.drafts.items in
    let shard = c.shard_of-shard.result in
    let d = c.index_mut-draft.result.now in
    let saved = c.in-Some.saved in
    let are = c.loop-saved.invariant.drafts_are in
    let inside = c.shard_of-shard.ensures.within in
    let count = are.count in
    let at : slice_get drafts shard ≡ Some d =
    slice_get_read drafts (length drafts) shard d refl (omega arith)
    c.index_mut-draft.ensures.value in
    let home : home_of config (visible_of saved) ≡ shard =
    ap (λ k. shard_of k config.shards) (sym c.key_to-seeded.ensures.words)
    ∙ sym c.shard_of-shard.ensures.exact in
    let room = ap (takes config d saved.charge) (sym (c.len.ensures ∙ saved.value.ok.0)) in
    let before = rw c.in-Some.ensures.steps.0 at c.loop-saved.invariant in
    let pushed : map visible_of c.push.new.self.items
    ≡ map visible_of c.loop-saved.left.items ++ visible_of saved ∷ [] =
    ap (map visible_of) c.in_ok-push.ensures.items
    ∙ map-append visible_of c.loop-saved.left.items (saved ∷ []) in
    rw (pushed, set_same drafts shard d at)
    (drafting_past config _ drafts _ (map visible_of c.next.new.self.rest.items) saved shard d
    before at home (room ∙ (sym c.takes.ensures.exact ∙ c.if-takes.false)))

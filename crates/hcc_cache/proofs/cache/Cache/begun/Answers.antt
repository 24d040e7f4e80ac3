use Rattle.std.proofs.Common.{◌≡◌, max, Some, length, length-set, map, slice_get, slice_set, refl, ap, ◌∙◌, arith}
use Rattle.std.proofs.lemmas.Option.{slice_get_read}
use Rattle.hcc_cache.specs.Images.{visible_of}
use Rattle.hcc_cache.specs.Taken.{split_of}
use Rattle.hcc_cache.proofs.Beginnings.ReopenedClientsDealt.{all_started, sharing_none}
use Rattle.hcc_cache.proofs.Beginnings.ReopenedShards.{draft_accepted, draft_fitting, next_draft, reopened_all, reopening_more, reopening_none, right_taken}
use Rattle.hcc_cache.specs.Reopened.{most_in}
use Rattle.hcc_cache.proofs.Beginnings.KnowingNothing.{nothing_first, nothing_started}
use Rattle.hcc_cache.proofs.cache.Cache.begun.Goals as goal

pub loop-draft-init : goal.loop-draft-init
loop-draft-init g c =
    let fits = g.T.Tag.fits in
    let config = c.args.config in
    let image = map visible_of c.args.image.items in
    let from : c.into_iter-draft-iterator.result.rest.items ≡ c.in_ok-drafts.drafts.items =
    c.into_iter-draft-iterator.ensures.into_iter_gives.0 in
    rw (c.in_ok-shards.ensures.items, from) (reopening_none fits config c.args.tag
    (split_of config image).taken c.in_ok-drafts.drafts.items c.in_ok-clients.clients.items
    c.in_ok-drafts.ensures.drafts (right_taken fits c.args.tag config image c.requires.right)
    (sharing_none config c.in_ok-clients.clients.items c.in_ok-clients.ensures)
    (nothing_first config c.in_ok-clients.clients.items c.in_ok-clients.ensures))

pub reopened-requires-clause-fitting : goal.reopened-requires-clause-fitting
reopened-requires-clause-fitting g c =
    let config = c.args.config in
    let taken = (split_of config (map visible_of c.args.image.items)).taken in
    let draft = c.in-Some.draft in
    let before = rw c.in-Some.ensures.steps.0 at c.loop-draft.invariant in
    let number : c.len-number.result ≡ length c.loop-draft.shards.items =
    c.len-number.ensures ∙ c.loop-draft.shards.ok.0 in
    rw (c.in_ok-entries.ensures, number) (draft_fitting config taken _ draft
    (next_draft g.T.Tag.fits config c.args.tag taken _ _ _ _ draft _ before) g.T.Tag.fits
    c.args.tag before.right)

pub reopened-requires-clause-taken : goal.reopened-requires-clause-taken
reopened-requires-clause-taken g c =
    let config = c.args.config in
    let taken = (split_of config (map visible_of c.args.image.items)).taken in
    let draft = c.in-Some.draft in
    let before = rw c.in-Some.ensures.steps.0 at c.loop-draft.invariant in
    rw c.in_ok-entries.ensures (draft_accepted config taken _ draft
    (next_draft g.T.Tag.fits config c.args.tag taken _ _ _ _ draft _ before))

pub loop-draft-preserved : goal.loop-draft-preserved
loop-draft-preserved g c =
    let config = c.args.config in
    let taken = (split_of config (map visible_of c.args.image.items)).taken in
    let draft = c.in-Some.draft in
    let made = c.in_ok-shard.ensures in
    let before = rw c.in-Some.ensures.steps.0 at c.loop-draft.invariant in
    let es = c.in_ok-entries.entries.items in
    let most : c.max-most.result ≡ max c.loop-draft.most (length es) =
    c.max-most.ensures ∙ ap (max c.loop-draft.most) (c.len.ensures ∙ c.in_ok-entries.entries.ok.0)
    in
    let number : c.len-number.result ≡ length c.loop-draft.shards.items =
    c.len-number.ensures ∙ c.loop-draft.shards.ok.0 in
    rw (c.in_ok-push.ensures.items, most) (reopening_more g.T.Tag.fits config c.args.tag taken _
    c.loop-draft.shards.items c.loop-draft.clients.items c.loop-draft.most draft
    c.next.new.self.rest.items before c.in_ok-shard.shard c.deal.new.clients.items
    c.in_ok-shard.seats.items es c.in_ok-entries.ensures (rw number at made.shard) made.image
    made.seats made.began made.past c.in_ok-deal.ensures)

pub returns-clause-made : goal.returns-clause-made
returns-clause-made g c =
    let config = c.args.config in
    let taken = (split_of config (map visible_of c.args.image.items)).taken in
    let allowed = c.requires.allowed in
    let now = c.loop-draft.invariant in
    let shards = c.loop-draft.shards.items in
    let old = c.loop-draft.clients.items in
    let was = c.index_mut.result.now in
    let first = c.start.new.client in
    let clients = now.sharing.count in
    let some = allowed.some_client in
    let at : slice_get old 0 ≡ Some was =
    slice_get_read old (length old) 0 was refl (omega arith) c.index_mut.ensures.value in
    let ended = c.in-None.ensures.steps.0 in
    let rest = c.loop-draft.draft-iterator.rest.ok in
    let counted = now.count in
    let drafts = now.are.count in
    let count : length shards ≡ config.shards = omega arith in
    let starts = rw now.most_is at c.start.ensures in
    let started = all_started config shards allowed old was first now.sharing at starts in
    let most = now.most_is in
    let low = now.low in
    reopened_all g.T.Tag.fits config c.args.tag (map visible_of c.args.image.items) _
    (slice_set old 0 first) allowed (record {
      tag_is = refl;
      seed = refl;
      geometry = c.shard_geometry.ensures;
      capacity = c.shard_capacity.ensures.exact;
      strict = refl;
      count = count;
      shards = now.configured;
    }) now.begins (length-set old 0 first ∙ clients) started (omega arith) now.began
    (nothing_started config (most_in shards) old was first now.past at starts)

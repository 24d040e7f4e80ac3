use Rattle.std.proofs.Common.{◌≡◌, ◌+◌, [], ◌∷◌, ◌++◌, refl, ap, ◌∙◌, length, slice_get, arith}
use Rattle.std.proofs.lemmas.List.{length_push}
use Rattle.hcc_rule.proofs.Seats.Splits.{each_snoc}
use Rattle.hcc_shard.specs.Stays.{BeganWithinLimits}
use Rattle.hcc_cache.specs.Keys.{fits_seeded}
use Rattle.hcc_cache.specs.Opened.{IsConfigured}
use Rattle.hcc_cache.specs.Reopened.{image_of}
use Rattle.hcc_cache.proofs.Basics.Lists.{each_push}
use Rattle.hcc_cache.proofs.Beginnings.NewClientsDealt.{dealt_more, dealt_none, opened}
use Rattle.hcc_cache.proofs.Beginnings.KnowingNothing.{nothing_first, nothing_more}
use Rattle.hcc_cache.proofs.cache.Cache.opened.Goals as goal

pub loop-number-init : goal.loop-number-init
loop-number-init g c =
    let items = c.in_ok-shards.ensures.items in
    record {
      count = ap length items;
      dealt = rw items
          (dealt_none c.args.config c.in_ok-clients.clients.items c.in_ok-clients.ensures);
      configured = λ s shard h. absurd (let none = ap (λ xs. slice_get xs s) items in cc);
      images = λ s shard h. absurd (let none = ap (λ xs. slice_get xs s) items in cc);
      began = λ s shard h. absurd (let none = ap (λ xs. slice_get xs s) items in cc);
      past = nothing_first c.args.config c.in_ok-clients.clients.items c.in_ok-clients.ensures;
    }

pub loop-number-preserved : goal.loop-number-preserved
loop-number-preserved g c =
    let kept = c.loop-number.invariant in
    let old = c.loop-number.shards.items in
    let made = c.in_ok-shard.ensures in
    let shard = c.in_ok-shard.shard in
    let items : c.push.new.self.items ≡ old ++ shard ∷ [] = c.in_ok-push.ensures.items in
    let longer = ap length {y = old ++ shard ∷ []} items ∙ length_push old shard in
    record {
      count = longer ∙ ap (λ n. n + 1) kept.count;
      dealt = rw items
          (dealt_more c.args.config old c.loop-number.clients.items c.deal.new.clients.items shard
          c.in_ok-shard.seats.items kept.dealt c.in_ok-deal.ensures made.seats);
      configured = rw items
          (each_push (IsConfigured c.args.config c.args.tag) old shard
          (rw kept.count made.shard) kept.configured);
      images = rw items (each_snoc (λ z. image_of z ≡ []) old shard made.image kept.images);
      began = rw items
          (each_snoc (λ z. BeganWithinLimits z (fits_seeded g.T.Tag.fits)) old shard made.began
          kept.began);
      past = nothing_more c.loop-number.clients.items c.deal.new.clients.items
          c.in_ok-shard.seats.items kept.past made.past c.in_ok-deal.ensures;
    }

pub returns : goal.returns
returns g c =
    let kept = c.loop-number.invariant in
    let counted = kept.count in
    let done = c.loop-number-test.false in
    record {
      made =
          opened c.args.config c.args.tag _ c.loop-number.clients.items c.requires (record {
            tag_is = refl;
            seed = refl;
            geometry = c.shard_geometry.ensures;
            capacity = c.shard_capacity.ensures.exact;
            strict = refl;
            count = omega arith;
            shards = kept.configured;
          }) kept.dealt kept.images kept.past;
      began = kept.began;
      past = kept.past;
    }

use Rattle.std.proofs.Common.{◌≡◌, ◌+◌, ◌-◌, Some, slice_get, ap, refl, subst, sym, arith}
use Rattle.slab.specs.Slab.{Updates}
use Rattle.hcc_cache.specs.declared.client.Client.{Client}
use Rattle.hcc_cache.specs.declared.holding.Alone.{Alone}
use Rattle.hcc_cache.specs.declared.holding.Hold.{Hold}
use Rattle.hcc_cache.specs.Calls.{counts_by}
use Rattle.hcc_cache.proofs.Handles.OneMoreOnPinned.{kept_there, stand_there}
use Rattle.hcc_cache.proofs.Handles.SameHolds.{IsSameAlone}
use Rattle.hcc_cache.proofs.Handles.OneMore.{IsGiven}
use Rattle.hcc_cache.proofs.Basics.SlabSums.{updates_set}
use Rattle.hcc_cache.proofs.Handles.KnownAfterStandaloneReref.{few_references, knows_standing, rerefs_standing, takes_standing}
use Rattle.hcc_cache.proofs.Clients.ShownAfterwards.{stays_same}
use Rattle.hcc_cache.proofs.HandedBack.AloneAfterwards.{alone_changed}
use Rattle.hcc_cache.proofs.cache.Cache.standing_again.Goals as goal

pub index_mut-requires : goal.index_mut-requires
index_mut-requires g c =
    stand_there c.args.handle c.requires.known c.requires.held c.requires.kept

pub overflow_add-index_mut : goal.overflow_add-index_mut
overflow_add-index_mut g c =
    let cache = c.args.self.now in
    let old = c.args.client.now in
    let first = c.args.hold in
    let from = c.args.handle.index in
    let there = kept_there c.args.handle c.requires.known c.requires.held in
    let few = few_references cache old first from c.requires.known there c.args.index
    c.index_mut.result.now c.index_mut.ensures.value c.requires.free.0 in
    omega arith

pub returns : goal.returns
returns g c =
    let cache = c.args.self.now in
    let old = c.args.client.now in
    let new = c.keep.new.self in
    let first = c.args.hold in
    let from = c.args.handle.index in
    let index = c.args.index in
    let knows = c.requires.known in
    let there = kept_there c.args.handle c.requires.known c.requires.held in
    let a = c.index_mut.result.now in
    let b : Alone = record a { references = a.references + 1 } in
    let same : IsSameAlone a b = record { name = refl; charge = refl; value = refl } in
    let rest = c.keep.ensures.rest in
    let alone = ap (λ (x : Client g.row.T.Denot). x.alone) rest in
    let updates : Updates old.alone new.alone index (Some b) =
    subst (λ s. Updates old.alone s index (Some b)) (sym alone)
    (updates_set old.alone index a (Some b) c.index_mut.ensures.value) in
    let left : new.left ≡ old.left - 1 = ap (λ (x : Client g.row.T.Denot). x.left) rest in
    let some = c.requires.free.1 in
    let hold : Hold = record {
      serial = old.used;
      key = first.key;
      shard = first.shard;
      kept = first.kept;
    } in
    let given : IsGiven old new c.keep.result hold = record {
      client = c.keep.ensures.client;
      serial = c.keep.ensures.serial;
      named = refl;
      number = ap (λ (x : Client g.row.T.Denot). x.number) rest;
      free = c.keep.ensures.was_free;
      updates = c.keep.ensures.kept;
      count = c.keep.ensures.count;
      held = ap (λ (x : Client g.row.T.Denot). x.held) rest;
      uses = (ap (λ (x : Client g.row.T.Denot). x.used) rest, omega arith);
    } in
    let seats = ap (λ (x : Client g.row.T.Denot). x.seats.items) rest in
    let most = ap (λ (x : Client g.row.T.Denot). x.most) rest in
    let seed = ap (λ (x : Client g.row.T.Denot). x.seed) rest in
    record {
      known =
          knows_standing cache old first from knows there new c.args.handle c.keep.result hold
          index a b c.requires.held c.requires.kept c.requires.kept refl refl
          c.index_mut.ensures.value same refl updates given seats most seed
          c.keep.ensures.capacities c.requires.free.0;
      again =
          rerefs_standing cache old first from knows there new c.args.handle c.keep.result hold
          index a b c.requires.held c.requires.kept c.requires.kept refl refl
          c.index_mut.ensures.value same refl updates given seats most seed
          c.keep.ensures.capacities;
      alone =
          alone_changed old new most index a b c.index_mut.ensures.value refl updates;
      stays = stays_same cache old new seats;
      counts = λ s. ap (λ l. counts_by (slice_get l s)) seats;
      steps =
          takes_standing cache old first from knows there new c.args.handle c.keep.result hold
          index a b c.requires.held c.requires.kept c.requires.kept refl refl
          c.index_mut.ensures.value same refl updates given seats most seed
          c.keep.ensures.capacities;
    }

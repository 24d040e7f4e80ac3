use Rattle.std.proofs.Common.{◌≡◌, ◌∙◌, ◌+◌, ◌-◌, ◌≤◌, Some, None, get_or, slice_get, slice_set, ap, refl, subst, sym, arith}
use Rattle.std.specs.Vec.{with_item}
use Rattle.std.proofs.lemmas.Bool.{eq-eqb, ne_eqb}
use Rattle.slab.specs.Slab.{Updates, get, with_value}
use Rattle.hcc_cache.specs.declared.client.Client.{Client}
use Rattle.hcc_cache.specs.declared.holding.Alone.{Alone}
use Rattle.hcc_cache.specs.Calls.{capacities_of, counts_by, steps_by}
use Rattle.hcc_cache.proofs.Handles.OneMoreOnPinned.{at_hold, held_within, kept_there, stand_there}
use Rattle.hcc_cache.proofs.Clients.AtOneShard.{ChangesAt, counts_none, seated_at, takes_at}
use Rattle.hcc_cache.proofs.Handles.SameHolds.{IsSameAlone}
use Rattle.hcc_cache.proofs.Handles.OneLessOnPinned.{IsLess}
use Rattle.hcc_cache.proofs.Handles.KnownAfterRelease.{knows_fallen, knows_fewer, lets_go, releases_fallen, releases_fewer}
use Rattle.hcc_cache.proofs.Basics.SlabSums.{updates_set}
use Rattle.hcc_cache.proofs.Handles.OneLessOnStandalone.{known_there}
use Rattle.hcc_cache.proofs.Clients.ShownAfterwards.{stays_at, stays_same}
use Rattle.hcc_cache.proofs.cache.Cache.release_standing.Goals as goal

pub index-requires : goal.index-requires
index-requires g c =
    let old = c.args.client.now in
    let alone : c.let_go.new.self.alone ≡ old.alone =
    ap (λ (x : Client g.row.T.Denot). x.alone) c.let_go.ensures.rest in
    rw alone (stand_there c.args.handle c.requires.known c.requires.held c.requires.kept)

pub index_mut-seat-requires : goal.index_mut-seat-requires
index_mut-seat-requires g c =
    let old = c.args.client.now in
    let within = held_within c.args.handle c.requires.known c.requires.held in
    let seats : c.let_go.new.self.seats ≡ old.seats =
    ap (λ (x : Client g.row.T.Denot). x.seats) c.let_go.ensures.rest in
    let length_is = old.seats.ok.0 in
    rw seats (omega arith)

pub index-requires-2 : goal.index-requires-2
index-requires-2 g c =
    let within = held_within c.args.handle c.requires.known c.requires.held in
    let length_is = c.args.self.now.shards.ok.0 in
    omega arith

pub returns-then-index-gt1 : goal.returns-then-index-gt1
returns-then-index-gt1 g c =
    let cache = c.args.self.now in
    let old = c.args.client.now in
    let mid = c.let_go.new.self in
    let hold = c.args.hold in
    let held = kept_there c.args.handle c.requires.known c.requires.held in
    let gone : IsLess old.handles mid.handles c.args.handle.index hold =
    record { there = held; updates = c.let_go.ensures.gone; count = c.let_go.ensures.count } in
    let rest = c.let_go.ensures.rest in
    let alone_is = ap (λ (x : Client g.row.T.Denot). x.alone) rest in
    let a = c.index_mut.result.now in
    let there : get old.alone c.args.index ≡ Some a =
    ap (λ s. get s c.args.index) (sym alone_is) ∙ c.index_mut.ensures.value in
    let read : Some c.index.result.now ≡ Some a =
    sym c.index.ensures ∙ c.index_mut.ensures.value in
    let it : c.index.result.now ≡ a = cc in
    let references = ap (λ (x : Alone). x.references) it in
    let more = c.if-index-gt1.true in
    let b : Alone = record a { references = a.references - 1 } in
    let same : IsSameAlone a b = record { name = refl; charge = refl; value = refl } in
    let reference : b.references + 1 ≡ a.references = omega arith in
    let some : 1 ≤ b.references = omega arith in
    let updates =
    subst (λ s. Updates s (with_value mid.alone c.args.index b) c.args.index (Some b)) alone_is
    (updates_set mid.alone c.args.index a (Some b) c.index_mut.ensures.value) in
    let new : Client g.row.T.Denot = record mid { alone = with_value mid.alone c.args.index b } in
    let lets = lets_go cache old new c.args.handle hold mid c.requires.known c.requires.held gone
    rest refl in
    let seats = ap (λ (x : Client g.row.T.Denot). x.seats.items) rest in
    let steps = ap (λ (x : Client g.row.T.Denot). steps_by x) rest in
    record {
      known =
          knows_fewer cache old new c.args.handle hold lets c.args.index a c.requires.kept there
          c.requires.known b same reference some updates seats
          c.let_go.ensures.capacities;
      released =
          releases_fewer cache old new c.args.handle hold lets c.args.index a c.requires.kept there
          c.requires.known b same reference some updates seats
          c.let_go.ensures.capacities;
      alone = record {
        most = ap (λ (x : Client g.row.T.Denot). x.most) rest;
        entry = a;
        there = there;
        last = sym (ne_eqb a.references 1 (omega arith));
        updates = updates;
      };
      stays = stays_same cache old new seats;
      counts = λ s. ap (λ l. counts_by (slice_get l s)) seats;
      steps = omega arith;
    }

pub release_standalone-requires : goal.release_standalone-requires
release_standalone-requires g c =
    let cache = c.args.self.now in
    let old = c.args.client.now in
    let mid = c.let_go.new.self in
    let hold = c.args.hold in
    let held = kept_there c.args.handle c.requires.known c.requires.held in
    let gone : IsLess old.handles mid.handles c.args.handle.index hold =
    record { there = held; updates = c.let_go.ensures.gone; count = c.let_go.ensures.count } in
    let rest = c.let_go.ensures.rest in
    let alone_is = ap (λ (x : Client g.row.T.Denot). x.alone) rest in
    let shard = c.index-2.result.now in
    let was = c.index_mut-seat.result.now in
    let sits = c.index_mut-seat.ensures.value
    ∙ ap (λ (x : Client g.row.T.Denot). get_or x.seats.items hold.shard was) rest in
    let at = at_hold c.args.handle c.requires.known c.requires.held c.index-2.ensures sits in
    let a = c.remove-gone.result in
    let there : get old.alone c.args.index ≡ Some a =
    ap (λ s. get s c.args.index) (sym alone_is) ∙ c.remove-gone.ensures.value in
    record {
      seat = (seated_at cache old old hold.shard shard was was at).rests;
      stands =
          known_there cache.seed old.used old.seats.items old.handles mid.handles old.alone
          c.args.handle.index c.args.index hold a gone c.requires.kept there
          c.requires.known.holds was at.seat_is;
    }

pub returns : goal.returns
returns g c =
    let cache = c.args.self.now in
    let old = c.args.client.now in
    let mid = c.let_go.new.self in
    let hold = c.args.hold in
    let held = kept_there c.args.handle c.requires.known c.requires.held in
    let gone : IsLess old.handles mid.handles c.args.handle.index hold =
    record { there = held; updates = c.let_go.ensures.gone; count = c.let_go.ensures.count } in
    let rest = c.let_go.ensures.rest in
    let alone_is = ap (λ (x : Client g.row.T.Denot). x.alone) rest in
    let shard = c.index-2.result.now in
    let was = c.index_mut-seat.result.now in
    let sits = c.index_mut-seat.ensures.value
    ∙ ap (λ (x : Client g.row.T.Denot). get_or x.seats.items hold.shard was) rest in
    let at = at_hold c.args.handle c.requires.known c.requires.held c.index-2.ensures sits in
    let a = c.remove-gone.result in
    let there : get old.alone c.args.index ≡ Some a =
    ap (λ s. get s c.args.index) (sym alone_is) ∙ c.remove-gone.ensures.value in
    let read : Some c.index.result.now ≡ Some a =
    sym c.index.ensures ∙ c.remove-gone.ensures.value in
    let it : c.index.result.now ≡ a = cc in
    let references = ap (λ (x : Alone). x.references) it in
    let few = c.if-index-gt1.false in
    let some = (c.requires.known.holds.some c.args.index a there).0 in
    let one : a.references ≡ 1 = omega arith in
    let updates =
    subst (λ s. Updates s c.remove-gone.new.self c.args.index None) alone_is
    c.remove-gone.ensures.updates in
    let is = c.release_standalone.new.seat in
    let new : Client g.row.T.Denot = record mid {
      seats = with_item mid.seats hold.shard is;
      alone = c.remove-gone.new.self;
    } in
    let lets = lets_go cache old new c.args.handle hold mid c.requires.known c.requires.held gone
    rest refl in
    let change : ChangesAt old new hold.shard is = record {
      seats = ap (λ (x : Client g.row.T.Denot). slice_set x.seats.items hold.shard is) rest;
      number = ap (λ (x : Client g.row.T.Denot). x.number) rest;
      most = ap (λ (x : Client g.row.T.Denot). x.most) rest;
      seed = ap (λ (x : Client g.row.T.Denot). x.seed) rest;
      capacities =
          ap (λ n. record (capacities_of mid) { alone = n }) c.remove-gone.ensures.capacity
          ∙ c.let_go.ensures.capacities;
    } in
    record {
      known =
          knows_fallen cache old new c.args.handle hold lets c.args.index a c.requires.kept there
          shard was is at change c.release_standalone.ensures.view one updates
          c.release_standalone.ensures.seat;
      released =
          releases_fallen cache old new c.args.handle hold lets c.args.index a c.requires.kept there
          shard was is at change c.release_standalone.ensures.view one updates;
      alone = record {
        most = change.most;
        entry = a;
        there = there;
        last = sym (eq-eqb a.references 1 one);
        updates = updates;
      };
      stays =
          stays_at cache old new hold.shard shard was is at change
          c.release_standalone.ensures.stays;
      counts =
          counts_none cache old new hold.shard shard was is at change
          c.release_standalone.ensures.counts;
      steps =
          takes_at cache old new hold.shard shard was is at change 2
          c.release_standalone.ensures.steps;
    }

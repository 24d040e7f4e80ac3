use Rattle.std.proofs.Common.{◌≡◌, ◌∙◌, ◌+◌, ◌&&◌, get_or, slice_set, ap, refl, sym, arith}
use Rattle.std.specs.Vec.{with_item}
use Rattle.hcc_rule.specs.declared.geometry.Geometry.{Geometry}
use Rattle.hcc_table.specs.Lists.{Hands, has_room}
use Rattle.hcc_table.specs.Pins.{erases, is_useful}
use Rattle.hcc_table.specs.Steps.{freeing}
use Rattle.hcc_shard.specs.Callers.{view_of}
use Rattle.hcc_shard.specs.Counted.{SameEvictions}
use Rattle.hcc_cache.specs.declared.client.Client.{Client}
use Rattle.hcc_cache.proofs.Handles.OneMoreOnPinned.{at_hold, held_within, kept_there, pin_at, pinned_at}
use Rattle.hcc_cache.proofs.Clients.AtOneShard.{ChangesAt, did_at, does_at, only_at, seated_at, takes_at}
use Rattle.hcc_cache.proofs.Handles.OneLessOnPinned.{IsLess}
use Rattle.hcc_core.proofs.ListLemmas.{read_here}
use Rattle.hcc_cache.proofs.Handles.KnownAfterRelease.{knows_unpinned, lets_go, releases_unpinned}
use Rattle.hcc_shard.specs.Stays.{ReleasesAt}
use Rattle.hcc_shard.proofs.Stayings.{release_stays}
use Rattle.hcc_cache.proofs.Clients.ShownAfterwards.{stays_at}
use Rattle.hcc_cache.proofs.cache.Cache.release_pin.Goals.{then-erase_if_last, else-erase_if_last, then-useful, else-useful}
use Rattle.hcc_cache.proofs.cache.Cache.release_pin.Goals as goal

pub index_mut-seat-requires : goal.index_mut-seat-requires
index_mut-seat-requires g c =
    let old = c.args.client.now in
    let within = held_within c.args.handle c.requires.known c.requires.held in
    let seats : c.let_go.new.self.seats ≡ old.seats =
    ap (λ (x : Client g.row.T.Denot). x.seats) c.let_go.ensures.rest in
    let length_is = old.seats.ok.0 in
    rw seats (omega arith)

pub index-requires : goal.index-requires
index-requires g c =
    let within = held_within c.args.handle c.requires.known c.requires.held in
    let length_is = c.args.self.now.shards.ok.0 in
    omega arith

pub release-requires : goal.release-requires
release-requires g c =
    let cache = c.args.self.now in
    let old = c.args.client.now in
    let hold = c.args.hold in
    let rest = c.let_go.ensures.rest in
    let shard = c.index.result.now in
    let was = c.index_mut-seat.result.now in
    let sits = c.index_mut-seat.ensures.value
    ∙ ap (λ (x : Client g.row.T.Denot). get_or x.seats.items hold.shard was) rest in
    let at = at_hold c.args.handle c.requires.known c.requires.held c.index.ensures sits in
    record {
      seat = (seated_at cache old old hold.shard shard was was at).rests;
      slot = (pin_at c.args.handle at c.requires.held c.requires.pinned).within;
      holds = pinned_at c.args.handle at c.requires.held c.requires.pinned;
    }

pub returns : goal.returns
returns g c =
    let cache = c.args.self.now in
    let old = c.args.client.now in
    let hold = c.args.hold in
    let rest = c.let_go.ensures.rest in
    let shard = c.index.result.now in
    let was = c.index_mut-seat.result.now in
    let sits = c.index_mut-seat.ensures.value
    ∙ ap (λ (x : Client g.row.T.Denot). get_or x.seats.items hold.shard was) rest in
    let at = at_hold c.args.handle c.requires.known c.requires.held c.index.ensures sits in
    let mid = c.let_go.new.self in
    let there = kept_there c.args.handle c.requires.known c.requires.held in
    let is = c.release.new.seat in
    let new : Client g.row.T.Denot = record mid { seats = with_item mid.seats hold.shard is } in
    let change : ChangesAt old new hold.shard is = record {
      seats = ap (λ (x : Client g.row.T.Denot). slice_set x.seats.items hold.shard is) rest;
      number = ap (λ (x : Client g.row.T.Denot). x.number) rest;
      most = ap (λ (x : Client g.row.T.Denot). x.most) rest;
      seed = ap (λ (x : Client g.row.T.Denot). x.seed) rest;
      capacities = c.let_go.ensures.capacities;
    } in
    let alone = ap (λ (x : Client g.row.T.Denot). x.alone) rest in
    let gone : IsLess old.handles mid.handles c.args.handle.index hold =
    record { there = there; updates = c.let_go.ensures.gone; count = c.let_go.ensures.count } in
    let lets = lets_go cache old new c.args.handle hold mid c.requires.known c.requires.held gone
    rest refl in
    let asked : erases c.if-erase_if_last.last ≡ c.args.erase_if_last =
    elim c.if-erase_if_last.branch [
      | then-erase_if_last w ↦ ap erases w.last-is ∙ sym w.if-erase_if_last.true
      | else-erase_if_last w ↦ ap erases w.last-is ∙ sym w.if-erase_if_last.false
    ] in
    let given = rw (c.requires.pinned.name, asked) at c.release.ensures.view in
    let slots = ap (λ (y : Geometry). y.slots)
    (at.knows.alike.plans hold.shard shard at.shard_is).0 in
    let steps = c.release.ensures.steps in
    let useful : is_useful c.if-useful.as_use ≡ c.args.useful =
    elim c.if-useful.branch [
      | then-useful w ↦ ap is_useful w.as_use-is ∙ sym w.if-useful.true
      | else-useful w ↦ ap is_useful w.as_use-is ∙ sym w.if-useful.false
    ] in
    let released : ReleasesAt shard c.args.pin.slot hold.serial
    (has_room 1 (g.L.FreedList.shelf c.args.list.now))
    (c.args.useful && c.args.pin.counting) c.args.erase_if_last c.release.result was is =
    rw (← c.requires.pinned.name, ← useful, ← asked) c.release.ensures.by in
    record {
      known =
          knows_unpinned cache old new c.args.handle hold lets
          c.requires.pinned shard was is at change alone c.args.erase_if_last
          c.release.result given c.release.ensures.seat;
      released =
          releases_unpinned cache old new c.args.handle hold lets
          c.requires.pinned shard was is at change alone c.args.erase_if_last
          c.release.result given;
      list = did_at cache old new hold.shard shard was is at change
          (λ z a b. Hands (g.L.FreedList.shelf c.args.list.now)
          (g.L.FreedList.shelf c.release.new.list) (view_of a) (view_of b)) c.release.ensures.list
          hold.shard refl;
      gives = record {
        there = shard;
        was = was;
        is = is;
        shard_is = at.shard_is;
        before = at.seat_is;
        later = rw (change.seats) (read_here old.seats.items hold.shard was is at.seat_is);
        gives = rw (← useful, ← asked) c.release.ensures.gives;
      };
      by = (
        did_at cache old new hold.shard shard was is at change
            (λ z a b. ReleasesAt z c.args.pin.slot hold.serial
            (has_room 1 (g.L.FreedList.shelf c.args.list.now))
            (c.args.useful && c.args.pin.counting) c.args.erase_if_last c.release.result a b)
            released hold.shard refl,
        only_at cache old new hold.shard shard was is at change hold.shard refl,
      );
      stays = λ none.
          stays_at cache old new hold.shard shard was is at change
          (release_stays shard c.args.pin.slot hold.serial
          (has_room 1 (g.L.FreedList.shelf c.args.list.now))
          (c.args.useful && c.args.pin.counting) c.args.erase_if_last c.release.result was is
          released none);
      counts =
          does_at cache old new hold.shard shard was is at change SameEvictions
          c.release.ensures.counts hold.shard refl;
      rest = ap (λ (x : Client g.row.T.Denot). record x { seats = new.seats }) rest;
      steps =
          takes_at cache old new hold.shard shard was is at change
          (freeing cache.geometry.slots + g.L.FreedList.loads + 3) (omega arith);
    }

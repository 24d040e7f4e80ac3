use Rattle.std.proofs.Common.{◌≡◌, ◌∙◌, ◌-◌, Bool, ap, refl, sym, arith}
use Rattle.hcc_rule.specs.Words.{key_of}
use Rattle.hcc_shard.specs.Callers.{AcquiresAt}
use Rattle.hcc_shard.specs.Counted.{SameEvictions}
use Rattle.hcc_cache.specs.declared.client.Client.{Client}
use Rattle.hcc_cache.specs.declared.holding.Hold.{Hold}
use Rattle.hcc_cache.proofs.Handles.OneMoreOnPinned.{at_hold, entry_at, held_at, held_within, kept_there, pin_at, pinned_at, rerefs_pinned}
use Rattle.hcc_cache.proofs.Clients.AtOneShard.{ChangesAt, did_at, does_at, few_at, next_at, seated_at, takes_at}
use Rattle.hcc_cache.proofs.Searches.KnownAfterLookup.{gains_pinned, knows_more}
use Rattle.hcc_cache.proofs.Handles.OneMore.{IsGiven}
use Rattle.hcc_table.proofs.Still.{reaches_seek, seeks_still}
use Rattle.hcc_cache.proofs.Clients.ShownAfterwards.{stays_at}
use Rattle.hcc_cache.proofs.HandedBack.AloneAfterwards.{alone_same}
use Rattle.hcc_cache.proofs.cache.Cache.pinned_again.Goals as goal

pub index_mut-seat-requires : goal.index_mut-seat-requires
index_mut-seat-requires g c =
    let within = held_within c.args.handle c.requires.known c.requires.held in
    let length_is = c.args.client.now.seats.ok.0 in
    omega arith

pub index-requires : goal.index-requires
index-requires g c =
    let within = held_within c.args.handle c.requires.known c.requires.held in
    let length_is = c.args.self.now.shards.ok.0 in
    omega arith

pub reref-pin-requires : goal.reref-pin-requires
reref-pin-requires g c =
    let cache = c.args.self.now in
    let old = c.args.client.now in
    let first = c.args.hold in
    let shard = c.index.result.now in
    let was = c.index_mut-seat.result.now in
    let at = at_hold c.args.handle c.requires.known c.requires.held c.index.ensures
    c.index_mut-seat.ensures.value in
    record {
      seat = (seated_at cache old old first.shard shard was was at).rests;
      slot = (pin_at c.args.handle at c.requires.held c.requires.pinned).within;
      holds = pinned_at c.args.handle at c.requires.held c.requires.pinned;
      serial = next_at cache old old first.shard shard was was at c.requires.free.1;
      few = few_at cache old old first.shard shard was was at c.requires.free.0;
    }

pub returns : goal.returns
returns g c =
    let cache = c.args.self.now in
    let old = c.args.client.now in
    let first = c.args.hold in
    let shard = c.index.result.now in
    let was = c.index_mut-seat.result.now in
    let at = at_hold c.args.handle c.requires.known c.requires.held c.index.ensures
    c.index_mut-seat.ensures.value in
    let there = kept_there c.args.handle c.requires.known c.requires.held in
    let is = c.reref-pin.new.seat in
    let new = c.keep.new.self in
    let told = c.reref-pin.ensures.record in
    let r = told.0 in
    let pin = pin_at c.args.handle at c.requires.held c.requires.pinned in
    let same = entry_at c.args.handle at c.requires.held c.requires.pinned r told.4 in
    let searched = c.reref-pin.ensures.view in
    let rest = c.keep.ensures.rest in
    let left : new.left ≡ old.left - 1 = ap (λ (x : Client g.row.T.Denot). x.left) rest in
    let some = c.requires.free.1 in
    let hold : Hold = record {
      serial = old.used;
      key = first.key;
      shard = first.shard;
      kept = c.pinned.result;
    } in
    let alone = ap (λ (x : Client g.row.T.Denot). x.alone) rest in
    let change : ChangesAt old new first.shard is = record {
      seats = ap (λ (x : Client g.row.T.Denot). x.seats.items) rest;
      number = ap (λ (x : Client g.row.T.Denot). x.number) rest;
      most = ap (λ (x : Client g.row.T.Denot). x.most) rest;
      seed = ap (λ (x : Client g.row.T.Denot). x.seed) rest;
      capacities = c.keep.ensures.capacities;
    } in
    let given : IsGiven old new c.keep.result hold = record {
      client = c.keep.ensures.client;
      serial = c.keep.ensures.serial;
      named = refl;
      number = change.number;
      free = c.keep.ensures.was_free;
      updates = c.keep.ensures.kept;
      count = c.keep.ensures.count;
      held = ap (λ (x : Client g.row.T.Denot). x.held) rest;
      uses = (ap (λ (x : Client g.row.T.Denot). x.used) rest, omega arith);
    } in
    let key = ap key_of same ∙ pin.key in
    let slot = c.reref-pin.result.slot in
    let counting = c.reref-pin.result.counting in
    record {
      known =
          knows_more cache old new first.shard shard was is at change c.keep.result hold slot
          counting r given alone refl c.pinned.ensures searched told.1 told.3 told.2 key
          (c.requires.known.holds.each c.args.handle.index first there).0.home (rw same pin.small)
          c.reref-pin.ensures.seat c.requires.free.0;
      again =
          rerefs_pinned cache old new first.shard shard was is at change c.args.handle
          c.keep.result r searched told.1 (told.3 ∙ sym c.keep.ensures.serial) told.2.1
          (held_at c.args.handle at c.requires.held c.requires.pinned r same)
          (gains_pinned cache old new first.shard shard was is at change c.keep.result hold slot
          counting r given alone refl c.pinned.ensures searched told.1 told.3 told.2 key);
      acquires =
          did_at cache old new first.shard shard was is at change
          (λ s a b. (counts : Bool) × AcquiresAt s c.args.pin.slot counts a b)
          (counting, c.reref-pin.ensures.acquires) first.shard refl;
      stays =
          stays_at cache old new first.shard shard was is at change
          (seeks_still shard.table was.seat is.seat
          (reaches_seek shard.table c.args.pin.slot 1 old.used c.reref-pin.ensures.by.0 was.seat
          is.seat c.reref-pin.ensures.by.2));
      counts =
          does_at cache old new first.shard shard was is at change SameEvictions
          c.reref-pin.ensures.counts first.shard refl;
      alone = alone_same old new change.most alone;
      steps =
          takes_at cache old new first.shard shard was is at change 2 c.reref-pin.ensures.steps;
    }

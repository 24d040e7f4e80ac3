use Rattle.std.proofs.Common.{◌≡◌, ◌∙◌, ◌-◌, false, None, length, ap, refl, sym, arith}
use Rattle.std.specs.Vec.{with_item}
use Rattle.hcc_rule.specs.declared.geometry.Geometry.{Geometry}
use Rattle.hcc_rule.specs.declared.layout.TheConstants.{KEY1}
use Rattle.hcc_rule.specs.declared.view.Record.{Record}
use Rattle.hcc_rule.specs.Events.{look_done}
use Rattle.hcc_rule.specs.ToldOwners.{after_read}
use Rattle.hcc_rule.specs.Words.{key_of}
use Rattle.hcc_table.specs.Searched.{IsFound}
use Rattle.hcc_table.proofs.Probes.{looked_at}
use Rattle.hcc_table.proofs.Seeking.{seeks_one, seeks_then}
use Rattle.hcc_table.proofs.Still.{seeks_still}
use Rattle.hcc_shard.specs.Callers.{geometry_of, view_of}
use Rattle.hcc_shard.specs.Counted.{SameEvictions}
use Rattle.hcc_shard.specs.Kept.{WalksAt}
use Rattle.hcc_shard.proofs.Names.{not_held}
use Rattle.hcc_cache.specs.declared.client.Client.{Client}
use Rattle.hcc_cache.specs.declared.holding.Hold.{Hold}
use Rattle.hcc_cache.specs.Calls.{shard_in}
use Rattle.hcc_cache.specs.Keys.{fits_seeded, key_from}
use Rattle.hcc_cache.specs.Sharding.{key_to, shard_of}
use Rattle.hcc_cache.specs.Walked.{WalksCounting}
use Rattle.hcc_cache.proofs.Clients.AtOneShard.{ChangesAt, did_at, does_at, few_at, is_at, next_at, seated_at, takes_at, works_at}
use Rattle.hcc_cache.proofs.Clients.HoldsTheSame.{keeps_same, knows_same}
use Rattle.hcc_cache.proofs.Clients.ShownAfterwards.{stays_at}
use Rattle.hcc_cache.proofs.Handles.OneMore.{IsGiven}
use Rattle.hcc_cache.proofs.Searches.HeldAtSlots.{counts_still, found_home, found_on, found_read, pinned_still, pinned_there, same_passed, there, there_still}
use Rattle.hcc_cache.proofs.Searches.KnownAfterLookup.{finds, finds_it, knows_more}
use Rattle.hcc_cache.proofs.Searches.WalkedSlots.{walk_few, walk_seeks}
use Rattle.hcc_cache.proofs.cache.Cache.hold_slot.Goals as goal

pub pin_at-requires-clause-seat : goal.pin_at-requires-clause-seat
pin_at-requires-clause-seat g c =
    let cache = c.args.self.now in
    let old = c.args.client.now in
    let i = c.args.number in
    let shard = c.index-shard.result.now in
    let was = c.index_mut-seat.result.now in
    let at = is_at cache old i shard was c.requires.known c.requires.there.0
    c.index-shard.ensures c.index_mut-seat.ensures.value in
    (seated_at cache old old i shard was was at).rests

pub pin_at-requires-clause-slot : goal.pin_at-requires-clause-slot
pin_at-requires-clause-slot g c =
    let cache = c.args.self.now in
    let old = c.args.client.now in
    let i = c.args.number in
    let shard = c.index-shard.result.now in
    let was = c.index_mut-seat.result.now in
    let at = is_at cache old i shard was c.requires.known c.requires.there.0
    c.index-shard.ensures c.index_mut-seat.ensures.value in
    let slots : (geometry_of shard).slots ≡ cache.geometry.slots =
    ap (λ (y : Geometry). y.slots) (at.knows.alike.plans i shard at.shard_is).0 in
    rw slots c.requires.there.1

pub pin_at-requires-clause-serial : goal.pin_at-requires-clause-serial
pin_at-requires-clause-serial g c =
    let cache = c.args.self.now in
    let old = c.args.client.now in
    let i = c.args.number in
    let shard = c.index-shard.result.now in
    let was = c.index_mut-seat.result.now in
    let at = is_at cache old i shard was c.requires.known c.requires.there.0
    c.index-shard.ensures c.index_mut-seat.ensures.value in
    next_at cache old old i shard was was at c.requires.free.1

pub pin_at-requires-clause-few : goal.pin_at-requires-clause-few
pin_at-requires-clause-few g c =
    let cache = c.args.self.now in
    let old = c.args.client.now in
    let i = c.args.number in
    let shard = c.index-shard.result.now in
    let was = c.index_mut-seat.result.now in
    let at = is_at cache old i shard was c.requires.known c.requires.there.0
    c.index-shard.ensures c.index_mut-seat.ensures.value in
    few_at cache old old i shard was was at c.requires.free.0

pub returns-in_default : goal.returns-in_default
returns-in_default g c =
    let cache = c.args.self.now in
    let old = c.args.client.now in
    let i = c.args.number in
    let shard = c.index-shard.result.now in
    let was = c.index_mut-seat.result.now in
    let at = is_at cache old i shard was c.requires.known c.requires.there.0
    c.index-shard.ensures c.index_mut-seat.ensures.value in
    let mid = c.pin_at.new.seat in
    let new : Client g.row.T.Denot = record old { seats = with_item old.seats i mid } in
    let change : ChangesAt old new i mid =
    record { seats = refl; number = refl; most = refl; seed = refl; capacities = refl } in
    let same = same_passed (view_of was) (view_of mid) c.in_default.ensures.unheld in
    record {
      known = knows_same cache old new i shard was mid at c.pin_at.ensures.seat same refl
          (record { rest = refl; capacity = refl });
      held = tt;
      passed = record {
        v = view_of was;
        w = view_of mid;
        works = works_at cache old new i shard was mid at change;
        passes = c.in_default.ensures.unheld;
        keeps = keeps_same cache old new i shard was mid at c.pin_at.ensures.seat same refl
            (record { rest = refl; capacity = refl });
        walks = did_at cache old new i shard was mid at change
            (λ s a b. WalksAt (fits_seeded g.T.Tag.fits) s old.used c.args.slot false None a b)
            (rw (c.in_default.is) at c.pin_at.ensures.walks) i refl;
      };
      stays =
          stays_at cache old new i shard was mid at change
          (seeks_still shard.table was.seat mid.seat
          (walk_seeks (fits_seeded g.T.Tag.fits) shard old.used c.args.slot
          c.pin_at.ensures.walks));
      counts =
          does_at cache old new i shard was mid at change SameEvictions c.pin_at.ensures.counts i
          refl;
      steps =
          let few = walk_few (fits_seeded g.T.Tag.fits) shard old.used c.args.slot
          c.pin_at.ensures.walks in
          takes_at cache old new i shard was mid at change 7 (omega arith);
    }

pub word-word-requires-clause-slot : goal.word-word-requires-clause-slot
word-word-requires-clause-slot g c =
    let cache = c.args.self.now in
    let old = c.args.client.now in
    let i = c.args.number in
    let shard = c.index-shard.result.now in
    let was = c.index_mut-seat.result.now in
    let at = is_at cache old i shard was c.requires.known c.requires.there.0
    c.index-shard.ensures c.index_mut-seat.ensures.value in
    let slots : (geometry_of shard).slots ≡ cache.geometry.slots =
    ap (λ (y : Geometry). y.slots) (at.knows.alike.plans i shard at.shard_is).0 in
    rw slots c.requires.there.1

pub key-in_shard-requires-clause-slot : goal.key-in_shard-requires-clause-slot
key-in_shard-requires-clause-slot g c =
    let cache = c.args.self.now in
    let old = c.args.client.now in
    let i = c.args.number in
    let shard = c.index-shard.result.now in
    let was = c.index_mut-seat.result.now in
    let at = is_at cache old i shard was c.requires.known c.requires.there.0
    c.index-shard.ensures c.index_mut-seat.ensures.value in
    let slots : (geometry_of shard).slots ≡ cache.geometry.slots =
    ap (λ (y : Geometry). y.slots) (at.knows.alike.plans i shard at.shard_is).0 in
    rw (c.in-Some.ensures.held.0, slots) c.requires.there.1

pub key-in_shard-requires-clause-holds : goal.key-in_shard-requires-clause-holds
key-in_shard-requires-clause-holds g c =
    let cache = c.args.self.now in
    let old = c.args.client.now in
    let i = c.args.number in
    let shard = c.index-shard.result.now in
    let was = c.index_mut-seat.result.now in
    let at = is_at cache old i shard was c.requires.known c.requires.there.0
    c.index-shard.ensures c.index_mut-seat.ensures.value in
    let mid = c.pin_at.new.seat in
    let looked = c.word-word.new.seat in
    let told = c.in-Some.ensures.held in
    let fresh = not_held old.used old.used (omega arith) (view_of was).records
    (seated_at cache old old i shard was was at).records in
    let seen = found_on (fits_seeded g.T.Tag.fits) (geometry_of shard).room c.args.slot old.used
    (view_of was) (view_of mid) told.2 fresh told.3 (view_of looked)
    (looked_at c.args.slot c.word-word.result (view_of mid) (view_of looked)
    c.word-word.ensures.view) in
    pinned_there (fits_seeded g.T.Tag.fits) (geometry_of shard).room c.args.slot old.used
    (view_of was) (view_of looked) told.2 fresh seen c.in-Some.pin told.1 told.4

pub charge-charge-requires-clause-slot : goal.charge-charge-requires-clause-slot
charge-charge-requires-clause-slot g c =
    let cache = c.args.self.now in
    let old = c.args.client.now in
    let i = c.args.number in
    let shard = c.index-shard.result.now in
    let was = c.index_mut-seat.result.now in
    let at = is_at cache old i shard was c.requires.known c.requires.there.0
    c.index-shard.ensures c.index_mut-seat.ensures.value in
    let slots : (geometry_of shard).slots ≡ cache.geometry.slots =
    ap (λ (y : Geometry). y.slots) (at.knows.alike.plans i shard at.shard_is).0 in
    rw (c.in-Some.ensures.held.0, slots) c.requires.there.1

pub charge-charge-requires-clause-holds : goal.charge-charge-requires-clause-holds
charge-charge-requires-clause-holds g c =
    let cache = c.args.self.now in
    let old = c.args.client.now in
    let i = c.args.number in
    let shard = c.index-shard.result.now in
    let was = c.index_mut-seat.result.now in
    let at = is_at cache old i shard was c.requires.known c.requires.there.0
    c.index-shard.ensures c.index_mut-seat.ensures.value in
    let mid = c.pin_at.new.seat in
    let looked = c.word-word.new.seat in
    let told = c.in-Some.ensures.held in
    let fresh = not_held old.used old.used (omega arith) (view_of was).records
    (seated_at cache old old i shard was was at).records in
    let seen = found_on (fits_seeded g.T.Tag.fits) (geometry_of shard).room c.args.slot old.used
    (view_of was) (view_of mid) told.2 fresh told.3 (view_of looked)
    (looked_at c.args.slot c.word-word.result (view_of mid) (view_of looked)
    c.word-word.ensures.view) in
    pinned_still (fits_seeded g.T.Tag.fits) (geometry_of shard).room c.args.slot old.used
    (view_of was) (view_of looked) told.2 fresh seen (view_of c.key-in_shard.new.seat)
    (rw (told.1) at c.key-in_shard.ensures.view) c.in-Some.pin told.1 told.4

pub returns : goal.returns
returns g c =
    let cache = c.args.self.now in
    let old = c.args.client.now in
    let i = c.args.number in
    let shard = c.index-shard.result.now in
    let was = c.index_mut-seat.result.now in
    let at = is_at cache old i shard was c.requires.known c.requires.there.0
    c.index-shard.ensures c.index_mut-seat.ensures.value in
    let mid = c.pin_at.new.seat in
    let looked = c.word-word.new.seat in
    let pin = c.in-Some.pin in
    let told = c.in-Some.ensures.held in
    let fresh = not_held old.used old.used (omega arith) (view_of was).records
    (seated_at cache old old i shard was was at).records in
    let seen = found_on (fits_seeded g.T.Tag.fits) (geometry_of shard).room c.args.slot old.used
    (view_of was) (view_of mid) told.2 fresh told.3 (view_of looked)
    (looked_at c.args.slot c.word-word.result (view_of mid) (view_of looked)
    c.word-word.ensures.view) in
    let is = c.charge-charge.new.seat in
    let first = rw (told.1) at c.key-in_shard.ensures.view in
    let read : view_of is ≡ after_read old.used KEY1 (view_of looked) =
    c.charge-charge.ensures.view ∙ first in
    let new = c.keep.new.self in
    let rest = c.keep.ensures.rest in
    let change : ChangesAt old new i is = record {
      seats = ap (λ (x : Client g.row.T.Denot). x.seats.items) rest;
      number = ap (λ (x : Client g.row.T.Denot). x.number) rest;
      most = ap (λ (x : Client g.row.T.Denot). x.most) rest;
      seed = ap (λ (x : Client g.row.T.Denot). x.seed) rest;
      capacities = c.keep.ensures.capacities;
    } in
    let key = c.key_from-key.result in
    let left : new.left ≡ old.left - 1 = ap (λ (x : Client g.row.T.Denot). x.left) rest in
    let some = c.requires.free.1 in
    let hold : Hold =
    record { serial = old.used; key = key; shard = i; kept = c.pinned.result } in
    let alone = ap (λ (x : Client g.row.T.Denot). x.alone) rest in
    let given : IsGiven old new c.keep.result hold = record {
      client = c.keep.ensures.client;
      serial = c.keep.ensures.serial;
      named = refl;
      number = change.number;
      free = c.keep.ensures.was_free;
      updates = c.keep.ensures.kept;
      count = c.keep.ensures.count;
      held = ap (λ (x : Client g.row.T.Denot). x.held) rest;
      uses = (ap (λ (x : Client g.row.T.Denot). x.used) rest, omega arith);
    } in
    let on_record = there (fits_seeded g.T.Tag.fits) (geometry_of shard).room c.args.slot old.used
    (view_of was) (view_of looked) told.2 fresh seen in
    let in_shard = rw (told.1, on_record) at c.key-in_shard.ensures.exact in
    let words : key_to cache.seed key ≡ c.key-in_shard.result =
    sym (ap (λ s. key_to s key) at.knows.seed) ∙ c.key_from-key.ensures.undone in
    let asked : key_of told.2.entry ≡ key_to cache.seed key = sym in_shard ∙ sym words in
    let found = found_read (fits_seeded g.T.Tag.fits) (geometry_of shard).room c.args.slot old.used
    (view_of was) (view_of looked) told.2 fresh seen (view_of is) read (key_to cache.seed key)
    asked in
    let home = found_home cache old i shard was at g.T.Tag.fits c.args.slot old.used
    (view_of mid) told.2 told.3 in
    let here : i ≡ shard_in cache key =
    sym home ∙ ap (λ k. shard_of k (length cache.shards.items)) asked in
    let undone : key_from cache.seed (key_to cache.seed key) ≡ key =
    ap (key_from cache.seed) words
    ∙ (sym (ap (λ s. key_from s c.key-in_shard.result) at.knows.seed)
    ∙ sym c.key_from-key.ensures.words) in
    let asked_at : IsFound (fits_seeded g.T.Tag.fits) (geometry_of shard).room pin.slot old.used
    (key_to cache.seed key) (view_of was) (view_of is) told.2 = rw (told.0) found in
    let all = finds cache old new i shard was is at change c.keep.result hold pin.slot pin.counting
    told.2 given alone refl c.pinned.ensures found.searched found.records found.called told.4
    found.asked g.T.Tag.fits key here undone asked_at in
    let it = finds_it cache old new i shard was is at change c.keep.result hold pin.slot
    pin.counting told.2 given alone refl c.pinned.ensures found.searched found.records found.called
    told.4 found.asked g.T.Tag.fits key here undone asked_at in
    let at_charge = there_still (fits_seeded g.T.Tag.fits) (geometry_of shard).room c.args.slot
    old.used (view_of was) (view_of looked) told.2 fresh seen (view_of c.key-in_shard.new.seat)
    first in
    let charged = rw (told.1, at_charge) at c.charge-charge.ensures.exact in
    let look = seeks_one shard.table (look_done c.args.slot c.word-word.result (view_of mid))
    mid.seat looked.seat c.word-word.ensures.by refl in
    let reads = seeks_then shard.table looked.seat c.key-in_shard.new.seat.seat is.seat
    c.key-in_shard.ensures.seeks c.charge-charge.ensures.seeks in
    record {
      known =
          knows_more cache old new i shard was is at change c.keep.result hold pin.slot
          pin.counting told.2 given alone refl c.pinned.ensures found.searched found.records
          found.called told.4 found.asked (rw (c.requires.known.seated.count) here) found.small
          c.charge-charge.ensures.seat c.requires.free.0;
      held = record {
        holds = record {
          finds = all;
          home = sym here;
          on = ap (λ (r : Record). r.slot) it ∙ found.on;
          charge_is = ap (λ (r : Record). r.entry.charge) it ∙ sym charged;
        };
        walks = did_at cache old new i shard was is at change
            (λ s a b. WalksCounting (fits_seeded g.T.Tag.fits) s old.used c.args.slot
            c.releases.result a b)
            (record {
              pin = pin;
              held = mid;
              walks = rw (c.in-Some.is) at c.pin_at.ensures.walks;
              word = c.word-word.result;
              looked = looked;
              loads = c.word-word.ensures.loads;
              backs = c.word-word.ensures.backs;
              counts = c.releases.ensures.field;
              reads = reads;
            }) i refl;
      };
      passed = tt;
      stays =
          stays_at cache old new i shard was is at change
          (seeks_still shard.table was.seat is.seat
          (seeks_then shard.table was.seat mid.seat is.seat c.in-Some.ensures.seeks
          (seeks_then shard.table mid.seat looked.seat is.seat look reads)));
      counts =
          does_at cache old new i shard was is at change SameEvictions
          (counts_still was mid is c.pin_at.ensures.counts
          (c.charge-charge.ensures.counts
          ∙ (c.key-in_shard.ensures.counts ∙ c.word-word.ensures.counts))) i refl;
      steps =
          let held = c.in-Some.ensures.fewer in
          let word = c.word-word.ensures.steps in
          let key_steps = c.key-in_shard.ensures.steps in
          let charge = c.charge-charge.ensures.steps in
          takes_at cache old new i shard was is at change 7 (omega arith);
    }

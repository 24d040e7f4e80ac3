use Rattle.std.proofs.Common.{◌≡◌, ◌∙◌, ◌-◌, Some, Ok, Err, length, ap, refl, subst, sym, arith}
use Rattle.hcc_rule.specs.declared.steps.shows.Draft.{Draft}
use Rattle.hcc_shard.specs.declared.inserting.Pinned.TheVariants.{Placed, Standalone}
use Rattle.hcc_rule.specs.declared.view.View.{View}
use Rattle.hcc_table.specs.Lists.{Hands}
use Rattle.hcc_table.proofs.Handed.{hands_alike}
use Rattle.hcc_charge.specs.Evicted.{turn_room}
use Rattle.hcc_shard.specs.declared.seat.ShardSeat.{ShardSeat}
use Rattle.hcc_shard.specs.Callers.{view_of}
use Rattle.hcc_shard.specs.Counted.{SameCounts}
use Rattle.hcc_shard.specs.Reserving.{PinnedAs}
use Rattle.hcc_shard.specs.Stays.{StaysAt}
use Rattle.hcc_shard.specs.Inserted.{RefusedBy, with_draft}
use Rattle.hcc_cache.specs.declared.client.Client.{Client}
use Rattle.hcc_cache.specs.declared.errors.CopyError.TheVariants as copies
use Rattle.hcc_cache.specs.declared.holding.Alone.{Alone}
use Rattle.hcc_cache.specs.declared.holding.Kept.TheVariants.{Standing}
use Rattle.hcc_cache.specs.declared.seeded.Seeded.{Seeded}
use Rattle.hcc_cache.specs.Calls.{Works, capacities_of, shard_in}
use Rattle.hcc_cache.specs.Keys.{fits_seeded}
use Rattle.hcc_cache.specs.Inserts.{pinned_draft}
use Rattle.hcc_cache.specs.Sharding.{shard_of}
use Rattle.hcc_cache.proofs.Insertions.StandaloneEntry.{IsJoined}
use Rattle.hcc_cache.proofs.Clients.AtOneShard.{ChangesAt, did_at, few_at, is_at, only_at, seated_at, works_at}
use Rattle.hcc_cache.proofs.Handles.OneMore.{IsGiven}
use Rattle.hcc_cache.proofs.Insertions.HandleOnInserted.{few_alone, has_room, hold_with, knows_alone, knows_pins, pinned_told, pins_at, stands_at}
use Rattle.hcc_cache.proofs.Insertions.KnownAfterInsertion.{IsAsked, fails_at, frees_at, insertable_at, inserts_at, keeps_asked, knows_asked, leaves_refused, leaves_unshown, pins_as, pins_did, told_as, undoes_at}
use Rattle.hcc_cache.proofs.Insertions.LetGo.{leaves_fallen, stood_last}
use Rattle.hcc_cache.proofs.Insertions.AnswersTold.{not_full, not_large, not_spent, refuses_did, refuses_told}
use Rattle.hcc_cache.proofs.Clients.ShownAfterwards.{alone_at, knows_shown}
use Rattle.hcc_cache.proofs.HandedBack.AloneAfterwards.{alone_more, alone_same}
use Rattle.hcc_cache.proofs.cache.Cache.stored_pinned.Goals as goal

pub insert_pinned-requires-clause-seat : goal.insert_pinned-requires-clause-seat
insert_pinned-requires-clause-seat g c =
    let cache = c.args.self.now in
    let old = c.args.client.now in
    let i = c.shard_number-number.result in
    let shard = c.index-shard.result.now in
    let was = c.index_mut-seat.result.now in
    let at = is_at cache old i shard was c.requires.known c.shard_number-number.ensures.inside
    c.index-shard.ensures c.index_mut-seat.ensures.value in
    (seated_at cache old old i shard was was at).rests

pub insert_pinned-requires-clause-may : goal.insert_pinned-requires-clause-may
insert_pinned-requires-clause-may g c =
    let cache = c.args.self.now in
    let old = c.args.client.now in
    let i = c.shard_number-number.result in
    let shard = c.index-shard.result.now in
    let was = c.index_mut-seat.result.now in
    let at = is_at cache old i shard was c.requires.known c.shard_number-number.ensures.inside
    c.index-shard.ensures c.index_mut-seat.ensures.value in
    let read = c.as_bytes-bytes.ensures in
    insertable_at cache old old i shard was was at g.T.Tag.fits c.args.key
    c.as_bytes-bytes.result.now _ (rw read c.requires.fits) (rw read c.requires.short)
    (λ k inside. omega (arith, c.type_inv.bytes k))
    (c.requires.paid, c.ranges.charge.fits) c.countdown.ensures.within refl
    c.key_to-seeded.ensures.undone (sym c.shard_number-number.ensures.value) c.requires.free.1

pub insert_pinned-requires-clause-few : goal.insert_pinned-requires-clause-few
insert_pinned-requires-clause-few g c =
    let cache = c.args.self.now in
    let old = c.args.client.now in
    let i = c.shard_number-number.result in
    let shard = c.index-shard.result.now in
    let was = c.index_mut-seat.result.now in
    let at = is_at cache old i shard was c.requires.known c.shard_number-number.ensures.inside
    c.index-shard.ensures c.index_mut-seat.ensures.value in
    few_at cache old old i shard was was at c.requires.free.0

pub insert_pinned-requires-clause-alone : goal.insert_pinned-requires-clause-alone
insert_pinned-requires-clause-alone g c =
    let cache = c.args.self.now in
    let old = c.args.client.now in
    let i = c.shard_number-number.result in
    let shard = c.index-shard.result.now in
    let was = c.index_mut-seat.result.now in
    let at = is_at cache old i shard was c.requires.known c.shard_number-number.ensures.inside
    c.index-shard.ensures c.index_mut-seat.ensures.value in
    few_alone cache old old i shard was was at c.requires.free.0

pub keep_alone-handle-requires-clause-room : goal.keep_alone-handle-requires-clause-room
keep_alone-handle-requires-clause-room g c =
    has_room c.args.self.now c.args.client.now c.requires.known c.requires.free.0

pub returns-in-Ok-Placed : goal.returns-in-Ok-Placed
returns-in-Ok-Placed g c =
    let cache = c.args.self.now in
    let old = c.args.client.now in
    let i = c.shard_number-number.result in
    let shard = c.index-shard.result.now in
    let was = c.index_mut-seat.result.now in
    let at = is_at cache old i shard was c.requires.known c.shard_number-number.ensures.inside
    c.index-shard.ensures c.index_mut-seat.ensures.value in
    let is = c.insert_pinned.new.seat in
    let words = c.key_to-seeded.ensures.words in
    let shards = length cache.shards.items in
    let here = c.shard_number-number.ensures.value ∙ ap (λ k. shard_of k shards) words in
    let value = g.V.Standing.bytes c.args.value in
    let asked = pinned_draft cache c.args.key c.args.charge c.args.priority value old in
    let draft : Draft = record {
      key = c.key_to-seeded.result.in_shard;
      charge = c.args.charge;
      serial = old.used;
      countdown = c.countdown.result;
      name = Some old.used;
    } in
    let same : draft ≡ asked = λ j. record {
      key = words j;
      charge = c.args.charge;
      serial = old.used;
      countdown = c.countdown.ensures.exact j;
      name = Some old.used;
    } in
    let pin = c.in-Ok-Placed.pin in
    let had = turn_room (g.L.FreedList.shelf c.args.list.now) in
    let has = turn_room (g.L.FreedList.shelf c.insert_pinned.new.list) in
    let told = pinned_told cache old old i shard was is at had has draft asked same
    c.as_bytes-bytes.result.now value c.as_bytes-bytes.ensures c.in-Ok-Placed.field-0
    (Placed pin) c.in-Ok-Placed.field-0-is c.in-Ok-Placed.ensures.view in
    let new = c.keep-handle.new.self in
    let rest = c.keep-handle.ensures.rest in
    let some = c.requires.free.1 in
    let less : new.left ≡ old.left - 1 = ap (λ (x : Client g.row.T.Denot). x.left) rest in
    let alone = ap (λ (x : Client g.row.T.Denot). x.alone) rest in
    let change : ChangesAt old new i is = record {
      seats = ap (λ (x : Client g.row.T.Denot). x.seats.items) rest;
      number = ap (λ (x : Client g.row.T.Denot). x.number) rest;
      most = ap (λ (x : Client g.row.T.Denot). x.most) rest;
      seed = ap (λ (x : Client g.row.T.Denot). x.seed) rest;
      capacities = c.keep-handle.ensures.capacities;
    } in
    let given : IsGiven old new c.keep-handle.result
    (hold_with old.used c.args.key i c.pinned.result) = record {
      client = c.keep-handle.ensures.client;
      serial = c.keep-handle.ensures.serial;
      named = refl;
      number = change.number;
      free = c.keep-handle.ensures.was_free;
      updates = c.keep-handle.ensures.kept;
      count = c.keep-handle.ensures.count;
      held = ap (λ (x : Client g.row.T.Denot). x.held) rest;
      uses = (ap (λ (x : Client g.row.T.Denot). x.used) rest, omega arith);
    } in
    let undone = rw words at c.key_to-seeded.ensures.undone in
    let few = inserts_at cache old new i shard was is at change g.L.FreedList.loads
    c.insert_pinned.ensures.steps in
    record {
      known =
          knows_pins cache old new i shard was is at change c.insert_pinned.ensures.seat
          c.keep-handle.result c.args.key c.pinned.result given c.requires.free.0 c.args.charge
          c.args.priority value here had has pin undone alone c.pinned.ensures told
          c.ranges.charge.fits;
      back = tt;
      late = tt;
      memory = λ no. absurd no;
      inserted =
          pins_at cache old new i shard was is at change c.insert_pinned.ensures.seat
          c.keep-handle.result c.args.key c.pinned.result given c.requires.free.0 c.args.charge
          c.args.priority value here had has pin undone alone c.pinned.ensures told;
      evicts = (
        pin,
        pins_did cache old new i shard was is at change g.T.Tag.fits c.args.key c.args.charge
            c.args.priority here had has draft same (Ok c.in-Ok-Placed.field-0) (Ok (Placed pin))
            (ap Ok c.in-Ok-Placed.field-0-is) c.in-Ok-Placed.ensures.evicts,
      );
      alone = alone_same old new change.most alone;
      shown = λ one placed.
          knows_shown cache old new i shard was is at change c.args.key
          c.key_to-seeded.result.in_shard pin.slot here words
          (c.in-Ok-Placed.ensures.shown (alone_at cache old new i shard was is at change one) pin
          (ap Ok c.in-Ok-Placed.field-0-is));
      list = did_at cache old new i shard was is at change
          (λ z a b. Hands (g.L.FreedList.shelf c.args.list.now)
          (g.L.FreedList.shelf c.insert_pinned.new.list) (view_of a) (view_of b))
          c.insert_pinned.ensures.list (shard_in cache c.args.key) here;
      others = only_at cache old new i shard was is at change (shard_in cache c.args.key) here;
      frees = λ enough.
          frees_at cache old new i shard was is at change g.L.FreedList.loads (shard_in cache
          c.args.key) here
          c.insert_pinned.ensures.frees;
      held = λ enough. few;
      steps = omega arith;
    }

pub release_standalone-requires-clause-stands : goal.release_standalone-requires-clause-stands
release_standalone-requires-clause-stands g c =
    let cache = c.args.self.now in
    let old = c.args.client.now in
    let i = c.shard_number-number.result in
    let shard = c.index-shard.result.now in
    let was = c.index_mut-seat.result.now in
    let at = is_at cache old i shard was c.requires.known c.shard_number-number.ensures.inside
    c.index-shard.ensures c.index_mut-seat.ensures.value in
    let mid = c.insert_pinned.new.seat in
    let words = c.key_to-seeded.ensures.words in
    let shards = length cache.shards.items in
    let here = c.shard_number-number.ensures.value ∙ ap (λ k. shard_of k shards) words in
    let value = g.V.Standing.bytes c.args.value in
    let asked = pinned_draft cache c.args.key c.args.charge c.args.priority value old in
    let draft : Draft = record {
      key = c.key_to-seeded.result.in_shard;
      charge = c.args.charge;
      serial = old.used;
      countdown = c.countdown.result;
      name = Some old.used;
    } in
    let same : draft ≡ asked = λ j. record {
      key = words j;
      charge = c.args.charge;
      serial = old.used;
      countdown = c.countdown.ensures.exact j;
      name = Some old.used;
    } in
    let had = turn_room (g.L.FreedList.shelf c.args.list.now) in
    let has = turn_room (g.L.FreedList.shelf c.insert_pinned.new.list) in
    let told = pinned_told cache old old i shard was mid at had has draft asked same
    c.as_bytes-bytes.result.now value c.as_bytes-bytes.ensures c.in-Ok-Standalone.field-0
    Standalone c.in-Ok-Standalone.field-0-is c.in-Ok-Standalone.ensures.view in
    let stood = leaves_unshown had has cache.geometry.slots cache.capacity cache.strict asked value
    (view_of was) (view_of mid) (with_draft asked (view_of was).work.standalones) told in
    stood_last asked.key asked (view_of was) (view_of mid) stood
    (seated_at cache old old i shard was was at).standalones

pub returns-in-Ok : goal.returns-in-Ok
returns-in-Ok g c =
    let cache = c.args.self.now in
    let old = c.args.client.now in
    let i = c.shard_number-number.result in
    let shard = c.index-shard.result.now in
    let was = c.index_mut-seat.result.now in
    let at = is_at cache old i shard was c.requires.known c.shard_number-number.ensures.inside
    c.index-shard.ensures c.index_mut-seat.ensures.value in
    let is = c.insert_pinned.new.seat in
    let words = c.key_to-seeded.ensures.words in
    let shards = length cache.shards.items in
    let here = c.shard_number-number.ensures.value ∙ ap (λ k. shard_of k shards) words in
    let value = g.V.Standing.bytes c.args.value in
    let asked = pinned_draft cache c.args.key c.args.charge c.args.priority value old in
    let draft : Draft = record {
      key = c.key_to-seeded.result.in_shard;
      charge = c.args.charge;
      serial = old.used;
      countdown = c.countdown.result;
      name = Some old.used;
    } in
    let same : draft ≡ asked = λ j. record {
      key = words j;
      charge = c.args.charge;
      serial = old.used;
      countdown = c.countdown.ensures.exact j;
      name = Some old.used;
    } in
    let had = turn_room (g.L.FreedList.shelf c.args.list.now) in
    let has = turn_room (g.L.FreedList.shelf c.insert_pinned.new.list) in
    let told = pinned_told cache old old i shard was is at had has draft asked same
    c.as_bytes-bytes.result.now value c.as_bytes-bytes.ensures c.in-Ok-Standalone.field-0
    Standalone c.in-Ok-Standalone.field-0-is c.in-Ok-Standalone.ensures.view in
    let new = c.keep_alone-handle.new.self in
    let rest = c.keep_alone-handle.ensures.rest in
    let some = c.requires.free.1 in
    let less : new.left ≡ old.left - 1 = ap (λ (x : Client g.row.T.Denot). x.left) rest in
    let change : ChangesAt old new i is = record {
      seats = ap (λ (x : Client g.row.T.Denot). x.seats.items) rest;
      number = ap (λ (x : Client g.row.T.Denot). x.number) rest;
      most = ap (λ (x : Client g.row.T.Denot). x.most) rest;
      seed = ap (λ (x : Client g.row.T.Denot). x.seed) rest;
      capacities = c.keep_alone-handle.ensures.capacities;
    } in
    let kept = c.keep_alone-handle.ensures.kept in
    let alone : Alone = record {
      name = old.used;
      charge = c.args.charge;
      references = 1;
      value = c.in-Ok.value;
    } in
    let given : IsGiven old new c.keep_alone-handle.result
    (hold_with old.used c.args.key i (Standing kept.0)) = record {
      client = c.keep_alone-handle.ensures.client;
      serial = c.keep_alone-handle.ensures.serial;
      named = refl;
      number = change.number;
      free = kept.3;
      updates = kept.4;
      count = c.keep_alone-handle.ensures.count.0;
      held = ap (λ (x : Client g.row.T.Denot). x.held) rest;
      uses = (ap (λ (x : Client g.row.T.Denot). x.used) rest, omega arith);
    } in
    let left = leaves_unshown had has cache.geometry.slots cache.capacity cache.strict asked value
    (view_of was) (view_of is) (with_draft asked (view_of was).work.standalones) told in
    let joined : IsJoined old.used was is old.alone new.alone kept.0 alone = record {
      records = left.records_are;
      standalones = left.standalones_are;
      called = refl;
      single = refl;
      free = kept.1;
      updates = kept.2;
      count = c.keep_alone-handle.ensures.count.1;
    } in
    let few = inserts_at cache old new i shard was is at change g.L.FreedList.loads
    c.insert_pinned.ensures.steps in
    record {
      known =
          knows_alone cache old new i shard was is at change c.insert_pinned.ensures.seat
          c.keep_alone-handle.result c.args.key (Standing kept.0) given c.requires.free.0 kept.0
          alone refl left.tried joined here c.ranges.charge.fits;
      back = tt;
      late = tt;
      memory = λ no. absurd no;
      inserted =
          stands_at cache old new i shard was is at change c.insert_pinned.ensures.seat
          c.keep_alone-handle.result c.args.key (Standing kept.0) given c.requires.free.0
          c.args.charge c.args.priority value here had has kept.0 alone refl refl
          c.in-Ok.ensures.made.1 left.tried joined
          told;
      evicts =
          pins_did cache old new i shard was is at change g.T.Tag.fits c.args.key c.args.charge
          c.args.priority here had has draft same (Ok c.in-Ok-Standalone.field-0) (Ok Standalone)
          (ap Ok c.in-Ok-Standalone.field-0-is) c.in-Ok-Standalone.ensures.evicts;
      alone =
          alone_more old new change.most kept.0 alone kept.1 kept.2
          (g.V.Standing.stands c.args.value) c.in-Ok.ensures.made.0;
      shown = λ one placed. cc;
      list = did_at cache old new i shard was is at change
          (λ z a b. Hands (g.L.FreedList.shelf c.args.list.now)
          (g.L.FreedList.shelf c.insert_pinned.new.list) (view_of a) (view_of b))
          c.insert_pinned.ensures.list (shard_in cache c.args.key) here;
      others = only_at cache old new i shard was is at change (shard_in cache c.args.key) here;
      frees = λ enough.
          frees_at cache old new i shard was is at change g.L.FreedList.loads (shard_in cache
          c.args.key) here
          c.insert_pinned.ensures.frees;
      held = λ enough. few;
      steps = omega arith;
    }

pub returns-in-Err-into_value : goal.returns-in-Err-into_value
returns-in-Err-into_value g c =
    let cache = c.args.self.now in
    let old = c.args.client.now in
    let i = c.shard_number-number.result in
    let shard = c.index-shard.result.now in
    let was = c.index_mut-seat.result.now in
    let at = is_at cache old i shard was c.requires.known c.shard_number-number.ensures.inside
    c.index-shard.ensures c.index_mut-seat.ensures.value in
    let mid = c.insert_pinned.new.seat in
    let is = c.release_standalone.new.seat in
    let words = c.key_to-seeded.ensures.words in
    let shards = length cache.shards.items in
    let here = c.shard_number-number.ensures.value ∙ ap (λ k. shard_of k shards) words in
    let value = g.V.Standing.bytes c.args.value in
    let asked = pinned_draft cache c.args.key c.args.charge c.args.priority value old in
    let draft : Draft = record {
      key = c.key_to-seeded.result.in_shard;
      charge = c.args.charge;
      serial = old.used;
      countdown = c.countdown.result;
      name = Some old.used;
    } in
    let same : draft ≡ asked = λ j. record {
      key = words j;
      charge = c.args.charge;
      serial = old.used;
      countdown = c.countdown.ensures.exact j;
      name = Some old.used;
    } in
    let had = turn_room (g.L.FreedList.shelf c.args.list.now) in
    let has = turn_room (g.L.FreedList.shelf c.insert_pinned.new.list) in
    let told = pinned_told cache old old i shard was mid at had has draft asked same
    c.as_bytes-bytes.result.now value c.as_bytes-bytes.ensures c.in-Ok-Standalone.field-0
    Standalone c.in-Ok-Standalone.field-0-is c.in-Ok-Standalone.ensures.view in
    let new = c.next_serial.new.self in
    let rest = c.next_serial.ensures.rest in
    let some = c.requires.free.1 in
    let less : new.left ≡ old.left - 1 = ap (λ (x : Client g.row.T.Denot). x.left) rest in
    let change : ChangesAt old new i is = record {
      seats = ap (λ (x : Client g.row.T.Denot). x.seats.items) rest;
      number = ap (λ (x : Client g.row.T.Denot). x.number) rest;
      most = ap (λ (x : Client g.row.T.Denot). x.most) rest;
      seed = ap (λ (x : Client g.row.T.Denot). x.seed) rest;
      capacities = ap (λ (x : Client g.row.T.Denot). capacities_of x) rest;
    } in
    let changed : IsAsked old new = record {
      handles = ap (λ (x : Client g.row.T.Denot). x.handles) rest;
      alone = ap (λ (x : Client g.row.T.Denot). x.alone) rest;
      held = ap (λ (x : Client g.row.T.Denot). x.held) rest;
      uses = (ap (λ (x : Client g.row.T.Denot). x.used) rest, omega arith);
    } in
    let stood = leaves_unshown had has cache.geometry.slots cache.capacity cache.strict asked value
    (view_of was) (view_of mid) (with_draft asked (view_of was).work.standalones) told in
    let fell = c.release_standalone.ensures.view in
    let left = leaves_fallen asked.key asked (view_of was) (view_of mid) stood
    (seated_at cache old old i shard was was at).standalones (view_of is) fell in
    record {
      known =
          knows_asked cache old new i shard was is at change c.release_standalone.ensures.seat left
          changed c.args.key refl here;
      back = c.in-Err-into_value.ensures.refused.1;
      late = tt;
      memory = λ lacks. c.in-Err-into_value.ensures.refused.0;
      inserted = record {
        v = view_of was;
        w = view_of mid;
        works =
            subst (λ x. Works (shard_in cache c.args.key) old new (view_of was) x) fell
            (rw (← here) (works_at cache old new i shard was is at change));
        told = told;
        keeps =
            keeps_asked cache old new i shard was is at change c.release_standalone.ensures.seat
            left changed;
      };
      evicts =
          did_at cache old new i shard was is at change
          (λ s a b. (m : ShardSeat (Seeded g.row.T.Denot))
          × PinnedAs (fits_seeded g.T.Tag.fits) s asked had has (Ok Standalone) a m
          × StaysAt s m b × SameCounts m b) (
            mid,
            pins_as cache old old i shard was mid at g.T.Tag.fits draft asked same had has
                (Ok c.in-Ok-Standalone.field-0) (Ok Standalone)
                (ap Ok c.in-Ok-Standalone.field-0-is) c.in-Ok-Standalone.ensures.evicts,
            c.release_standalone.ensures.stays,
            c.release_standalone.ensures.counts,
          )
          (shard_in cache c.args.key) here;
      alone = alone_same old new change.most changed.alone;
      shown = λ one. tt;
      list = did_at cache old new i shard was is at change
          (λ z a b. Hands (g.L.FreedList.shelf c.args.list.now)
          (g.L.FreedList.shelf c.insert_pinned.new.list) (view_of a) (view_of b))
          (hands_alike c.insert_pinned.ensures.list refl
          (ap (λ (x : View (Seeded g.row.T.Denot)). x.gone) fell)) (shard_in cache c.args.key)
          here;
      others = only_at cache old new i shard was is at change (shard_in cache c.args.key) here;
      frees = λ enough. absurd (enough refl);
      held = λ enough. absurd (enough refl);
      steps =
          undoes_at cache old new i shard was is at change g.L.FreedList.loads mid
          c.insert_pinned.ensures.steps c.release_standalone.ensures.steps;
    }

pub returns-in-Err : goal.returns-in-Err
returns-in-Err g c =
    let cache = c.args.self.now in
    let old = c.args.client.now in
    let i = c.shard_number-number.result in
    let shard = c.index-shard.result.now in
    let was = c.index_mut-seat.result.now in
    let at = is_at cache old i shard was c.requires.known c.shard_number-number.ensures.inside
    c.index-shard.ensures c.index_mut-seat.ensures.value in
    let is = c.insert_pinned.new.seat in
    let words = c.key_to-seeded.ensures.words in
    let shards = length cache.shards.items in
    let here = c.shard_number-number.ensures.value ∙ ap (λ k. shard_of k shards) words in
    let value = g.V.Standing.bytes c.args.value in
    let asked = pinned_draft cache c.args.key c.args.charge c.args.priority value old in
    let draft : Draft = record {
      key = c.key_to-seeded.result.in_shard;
      charge = c.args.charge;
      serial = old.used;
      countdown = c.countdown.result;
      name = Some old.used;
    } in
    let same : draft ≡ asked = λ j. record {
      key = words j;
      charge = c.args.charge;
      serial = old.used;
      countdown = c.countdown.ensures.exact j;
      name = Some old.used;
    } in
    let why = c.in-Err.why in
    let had = turn_room (g.L.FreedList.shelf c.args.list.now) in
    let has = turn_room (g.L.FreedList.shelf c.insert_pinned.new.list) in
    let told = told_as cache old old i shard was is at
    (λ s b p d. RefusedBy had has s b p d why (view_of was) (view_of is)) draft asked same
    c.in-Err.ensures.view in
    let new = c.next_serial-in-Err.new.self in
    let rest = c.next_serial-in-Err.ensures.rest in
    let some = c.requires.free.1 in
    let less : new.left ≡ old.left - 1 = ap (λ (x : Client g.row.T.Denot). x.left) rest in
    let change : ChangesAt old new i is = record {
      seats = ap (λ (x : Client g.row.T.Denot). x.seats.items) rest;
      number = ap (λ (x : Client g.row.T.Denot). x.number) rest;
      most = ap (λ (x : Client g.row.T.Denot). x.most) rest;
      seed = ap (λ (x : Client g.row.T.Denot). x.seed) rest;
      capacities = ap (λ (x : Client g.row.T.Denot). capacities_of x) rest;
    } in
    let changed : IsAsked old new = record {
      handles = ap (λ (x : Client g.row.T.Denot). x.handles) rest;
      alone = ap (λ (x : Client g.row.T.Denot). x.alone) rest;
      held = ap (λ (x : Client g.row.T.Denot). x.held) rest;
      uses = (ap (λ (x : Client g.row.T.Denot). x.used) rest, omega arith);
    } in
    let left = leaves_refused had has cache.geometry.slots cache.capacity cache.strict asked value
    (view_of was) (view_of is) why told in
    let small = not_large had has cache.geometry.slots cache.capacity cache.strict asked (view_of
    was)
    (view_of is) why told c.requires.small in
    let few = inserts_at cache old new i shard was is at change g.L.FreedList.loads
    c.insert_pinned.ensures.steps in
    record {
      known =
          knows_asked cache old new i shard was is at change c.insert_pinned.ensures.seat left
          changed c.args.key refl here;
      back = refl;
      memory = λ lacks. cc;
      late = rw c.from.ensures (not_full why, not_spent why, small);
      inserted =
          rw c.from.ensures
          (refuses_told cache c.args.key c.args.charge c.args.priority value old new had has why
          small
          (fails_at cache old new i shard was is at change c.insert_pinned.ensures.seat left changed
          c.args.key c.args.charge c.args.priority value here had has why told));
      evicts =
          rw c.from.ensures
          (refuses_did cache c.args.key c.args.charge c.args.priority value old new g.T.Tag.fits had
          has why
          small
          (pins_did cache old new i shard was is at change g.T.Tag.fits c.args.key c.args.charge
          c.args.priority here had has draft same (Err why) (Err why) refl
          c.in-Err.ensures.evicts));
      alone = alone_same old new change.most changed.alone;
      shown = λ one. tt;
      list = did_at cache old new i shard was is at change
          (λ z a b. Hands (g.L.FreedList.shelf c.args.list.now)
          (g.L.FreedList.shelf c.insert_pinned.new.list) (view_of a) (view_of b))
          c.insert_pinned.ensures.list (shard_in cache c.args.key) here;
      others = only_at cache old new i shard was is at change (shard_in cache c.args.key) here;
      frees = λ enough.
          frees_at cache old new i shard was is at change g.L.FreedList.loads (shard_in cache
          c.args.key) here
          c.insert_pinned.ensures.frees;
      held = λ enough. few;
      steps = omega arith;
    }

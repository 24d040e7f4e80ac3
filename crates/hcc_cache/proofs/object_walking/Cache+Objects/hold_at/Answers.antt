use Rattle.std.proofs.Common.{◌≡◌, ◌∙◌, ◌+◌, ◌-◌, ◌<◌, None, length, ap, refl, sym, subst, arith}
use Rattle.std.specs.Vec.{with_item}
use Rattle.hcc_rule.specs.declared.geometry.Geometry.{Geometry}
use Rattle.hcc_rule.specs.declared.layout.TheConstants.{KEY1}
use Rattle.hcc_rule.specs.declared.view.Record.{Record}
use Rattle.hcc_rule.specs.ToldOwners.{after_read}
use Rattle.hcc_rule.specs.Words.{key_of, payload_word}
use Rattle.hcc_table.specs.AtSlots.{takes_one}
use Rattle.hcc_table.specs.Lists.{Hands}
use Rattle.hcc_table.specs.Searched.{IsFound}
use Rattle.hcc_table.specs.Steps.{freeing}
use Rattle.hcc_shard.specs.Callers.{geometry_of, view_of}
use Rattle.hcc_shard.specs.Counted.{SameEvictions}
use Rattle.hcc_shard.specs.Kept.{WalksAt}
use Rattle.hcc_shard.proofs.Names.{not_held}
use Rattle.hcc_cache.specs.declared.client.Client.{Client}
use Rattle.hcc_cache.specs.declared.gone.Objects.{Objects}
use Rattle.hcc_cache.specs.declared.holding.Hold.{Hold}
use Rattle.hcc_cache.specs.Calls.{shard_in}
use Rattle.hcc_cache.specs.Keys.{fits_seeded, key_from}
use Rattle.hcc_cache.specs.Objects.{is_word, object_bytes}
use Rattle.hcc_cache.specs.Sharding.{key_to, shard_of}
use Rattle.hcc_cache.specs.Walked.{shelf_in}
use Rattle.hcc_cache.proofs.Clients.AtOneShard.{ChangesAt, did_at, does_at, few_at, is_at, next_at, seated_at, takes_at, works_at}
use Rattle.hcc_cache.proofs.Clients.HoldsTheSame.{keeps_same, knows_same}
use Rattle.hcc_cache.proofs.HandedBack.WordsOfObjects.{bytes_again}
use Rattle.hcc_cache.proofs.Handles.OneMore.{IsGiven}
use Rattle.hcc_cache.proofs.Searches.HeldAtSlots.{counts_still, found_home, found_read, gone_still, pinned_still, pinned_there, same_passed, there, there_still}
use Rattle.hcc_cache.proofs.Searches.KnownAfterLookup.{finds, finds_it, knows_more}
use Rattle.hcc_cache.proofs.object_walking.Cache+Objects.hold_at.Goals as goal

pub pin_at-requires-clause-seat : goal.pin_at-requires-clause-seat
pin_at-requires-clause-seat c =
    let cache = c.args.self.now in
    let old = c.args.client.now in
    let i = c.args.number in
    let shard = c.index-shard.result.now in
    let was = c.index_mut-seat.result.now in
    let at = is_at cache old i shard was c.requires.known c.requires.there.0
    c.index-shard.ensures c.index_mut-seat.ensures.value in
    (seated_at cache old old i shard was was at).rests

pub pin_at-requires-clause-slot : goal.pin_at-requires-clause-slot
pin_at-requires-clause-slot c =
    let cache = c.args.self.now in
    let old = c.args.client.now in
    let i = c.args.number in
    let shard = c.index-shard.result.now in
    let was = c.index_mut-seat.result.now in
    let at = is_at cache old i shard was c.requires.known c.requires.there.0
    c.index-shard.ensures c.index_mut-seat.ensures.value in
    let slots : (geometry_of shard).slots ≡ cache.geometry.slots =
    ap (λ (y : Geometry). y.slots) (at.knows.alike.plans i shard at.shard_is).0 in
    rw slots c.requires.there.1

pub pin_at-requires-clause-serial : goal.pin_at-requires-clause-serial
pin_at-requires-clause-serial c =
    let cache = c.args.self.now in
    let old = c.args.client.now in
    let i = c.args.number in
    let shard = c.index-shard.result.now in
    let was = c.index_mut-seat.result.now in
    let at = is_at cache old i shard was c.requires.known c.requires.there.0
    c.index-shard.ensures c.index_mut-seat.ensures.value in
    next_at cache old old i shard was was at c.requires.free.1

pub pin_at-requires-clause-few : goal.pin_at-requires-clause-few
pin_at-requires-clause-few c =
    let cache = c.args.self.now in
    let old = c.args.client.now in
    let i = c.args.number in
    let shard = c.index-shard.result.now in
    let was = c.index_mut-seat.result.now in
    let at = is_at cache old i shard was c.requires.known c.requires.there.0
    c.index-shard.ensures c.index_mut-seat.ensures.value in
    few_at cache old old i shard was was at c.requires.free.0

pub returns-in_err-pin-clause-known : goal.returns-in_err-pin-clause-known
returns-in_err-pin-clause-known c =
    let cache = c.args.self.now in
    let old = c.args.client.now in
    let i = c.args.number in
    let shard = c.index-shard.result.now in
    let was = c.index_mut-seat.result.now in
    let at = is_at cache old i shard was c.requires.known c.requires.there.0
    c.index-shard.ensures c.index_mut-seat.ensures.value in
    let mid = c.pin_at.new.seat in
    let new : Client Objects = record old { seats = with_item old.seats i mid } in
    let change : ChangesAt old new i mid =
    record { seats = refl; number = refl; most = refl; seed = refl; capacities = refl } in
    knows_same cache old new i shard was mid at c.pin_at.ensures.seat
    (same_passed (view_of was) (view_of mid) c.in_err-pin.ensures.unheld) refl
    (record { rest = refl; capacity = refl })

pub returns-in_err-pin-clause-passed : goal.returns-in_err-pin-clause-passed
returns-in_err-pin-clause-passed c =
    let cache = c.args.self.now in
    let old = c.args.client.now in
    let i = c.args.number in
    let shard = c.index-shard.result.now in
    let was = c.index_mut-seat.result.now in
    let at = is_at cache old i shard was c.requires.known c.requires.there.0
    c.index-shard.ensures c.index_mut-seat.ensures.value in
    let mid = c.pin_at.new.seat in
    let new : Client Objects = record old { seats = with_item old.seats i mid } in
    let change : ChangesAt old new i mid =
    record { seats = refl; number = refl; most = refl; seed = refl; capacities = refl } in
    rw (c.from_residual.ensures) (record {
      v = view_of was;
      w = view_of mid;
      works = works_at cache old new i shard was mid at change;
      passes = c.in_err-pin.ensures.unheld;
      keeps = keeps_same cache old new i shard was mid at c.pin_at.ensures.seat
          (same_passed (view_of was) (view_of mid) c.in_err-pin.ensures.unheld) refl
          (record { rest = refl; capacity = refl });
      walks = did_at cache old new i shard was mid at change
          (λ s a b. WalksAt (fits_seeded is_word) s old.used c.args.slot
          (takes_one (shelf_in c.args.list.now)) None a b)
          (rw (c.in_err-pin.was) at c.pin_at.ensures.walks) i refl;
    })

pub returns-in_err-pin-clause-list : goal.returns-in_err-pin-clause-list
returns-in_err-pin-clause-list c =
    let cache = c.args.self.now in
    let old = c.args.client.now in
    let i = c.args.number in
    let shard = c.index-shard.result.now in
    let was = c.index_mut-seat.result.now in
    let at = is_at cache old i shard was c.requires.known c.requires.there.0
    c.index-shard.ensures c.index_mut-seat.ensures.value in
    let mid = c.pin_at.new.seat in
    let new : Client Objects = record old { seats = with_item old.seats i mid } in
    let change : ChangesAt old new i mid =
    record { seats = refl; number = refl; most = refl; seed = refl; capacities = refl } in
    did_at cache old new i shard was mid at change
    (λ s a b. Hands (shelf_in c.args.list.now) (shelf_in c.pin_at.new.list) (view_of a) (view_of b))
    c.pin_at.ensures.list i refl

pub returns-in_err-pin-clause-counts : goal.returns-in_err-pin-clause-counts
returns-in_err-pin-clause-counts c =
    let cache = c.args.self.now in
    let old = c.args.client.now in
    let i = c.args.number in
    let shard = c.index-shard.result.now in
    let was = c.index_mut-seat.result.now in
    let at = is_at cache old i shard was c.requires.known c.requires.there.0
    c.index-shard.ensures c.index_mut-seat.ensures.value in
    let mid = c.pin_at.new.seat in
    let new : Client Objects = record old { seats = with_item old.seats i mid } in
    let change : ChangesAt old new i mid =
    record { seats = refl; number = refl; most = refl; seed = refl; capacities = refl } in
    does_at cache old new i shard was mid at change SameEvictions c.pin_at.ensures.counts i refl

pub returns-in_err-pin-clause-steps : goal.returns-in_err-pin-clause-steps
returns-in_err-pin-clause-steps c =
    let cache = c.args.self.now in
    let old = c.args.client.now in
    let i = c.args.number in
    let shard = c.index-shard.result.now in
    let was = c.index_mut-seat.result.now in
    let at = is_at cache old i shard was c.requires.known c.requires.there.0
    c.index-shard.ensures c.index_mut-seat.ensures.value in
    let mid = c.pin_at.new.seat in
    let new : Client Objects = record old { seats = with_item old.seats i mid } in
    let change : ChangesAt old new i mid =
    record { seats = refl; number = refl; most = refl; seed = refl; capacities = refl } in
    let slots : (geometry_of shard).slots ≡ cache.geometry.slots =
    ap (λ (y : Geometry). y.slots) (at.knows.alike.plans i shard at.shard_is).0 in
    let made = c.pin_at.ensures.steps in
    takes_at cache old new i shard was mid at change (freeing cache.geometry.slots + 4)
    (omega arith)

pub key-in_shard-requires-clause-slot : goal.key-in_shard-requires-clause-slot
key-in_shard-requires-clause-slot c =
    let cache = c.args.self.now in
    let old = c.args.client.now in
    let i = c.args.number in
    let shard = c.index-shard.result.now in
    let was = c.index_mut-seat.result.now in
    let at = is_at cache old i shard was c.requires.known c.requires.there.0
    c.index-shard.ensures c.index_mut-seat.ensures.value in
    let mid = c.pin_at.new.seat in
    let pin = c.in_ok-pin.pin in
    let told = c.in_ok-pin.ensures.held in
    let fresh = not_held old.used old.used (omega arith) (view_of was).records
    (seated_at cache old old i shard was was at).records in
    let slots : (geometry_of shard).slots ≡ cache.geometry.slots =
    ap (λ (y : Geometry). y.slots) (at.knows.alike.plans i shard at.shard_is).0 in
    rw (told.0, slots) c.requires.there.1

pub key-in_shard-requires-clause-holds : goal.key-in_shard-requires-clause-holds
key-in_shard-requires-clause-holds c =
    let cache = c.args.self.now in
    let old = c.args.client.now in
    let i = c.args.number in
    let shard = c.index-shard.result.now in
    let was = c.index_mut-seat.result.now in
    let at = is_at cache old i shard was c.requires.known c.requires.there.0
    c.index-shard.ensures c.index_mut-seat.ensures.value in
    let mid = c.pin_at.new.seat in
    let pin = c.in_ok-pin.pin in
    let told = c.in_ok-pin.ensures.held in
    let fresh = not_held old.used old.used (omega arith) (view_of was).records
    (seated_at cache old old i shard was was at).records in
    pinned_there (fits_seeded is_word) (geometry_of shard).room c.args.slot old.used (view_of was)
    (view_of mid) told.2 fresh told.3 pin told.1 told.4

pub first_word-word-requires-clause-slot : goal.first_word-word-requires-clause-slot
first_word-word-requires-clause-slot c =
    let cache = c.args.self.now in
    let old = c.args.client.now in
    let i = c.args.number in
    let shard = c.index-shard.result.now in
    let was = c.index_mut-seat.result.now in
    let at = is_at cache old i shard was c.requires.known c.requires.there.0
    c.index-shard.ensures c.index_mut-seat.ensures.value in
    let mid = c.pin_at.new.seat in
    let pin = c.in_ok-pin.pin in
    let told = c.in_ok-pin.ensures.held in
    let fresh = not_held old.used old.used (omega arith) (view_of was).records
    (seated_at cache old old i shard was was at).records in
    let slots : (geometry_of shard).slots ≡ cache.geometry.slots =
    ap (λ (y : Geometry). y.slots) (at.knows.alike.plans i shard at.shard_is).0 in
    rw (told.0, slots) c.requires.there.1

pub first_word-word-requires-clause-holds : goal.first_word-word-requires-clause-holds
first_word-word-requires-clause-holds c =
    let cache = c.args.self.now in
    let old = c.args.client.now in
    let i = c.args.number in
    let shard = c.index-shard.result.now in
    let was = c.index_mut-seat.result.now in
    let at = is_at cache old i shard was c.requires.known c.requires.there.0
    c.index-shard.ensures c.index_mut-seat.ensures.value in
    let mid = c.pin_at.new.seat in
    let pin = c.in_ok-pin.pin in
    let told = c.in_ok-pin.ensures.held in
    let fresh = not_held old.used old.used (omega arith) (view_of was).records
    (seated_at cache old old i shard was was at).records in
    let read = rw (told.1) at c.key-in_shard.ensures.view in
    pinned_still (fits_seeded is_word) (geometry_of shard).room c.args.slot old.used (view_of was)
    (view_of mid) told.2 fresh told.3 (view_of c.key-in_shard.new.seat) read pin told.1 told.4

pub charge-charge-requires-clause-slot : goal.charge-charge-requires-clause-slot
charge-charge-requires-clause-slot c =
    let cache = c.args.self.now in
    let old = c.args.client.now in
    let i = c.args.number in
    let shard = c.index-shard.result.now in
    let was = c.index_mut-seat.result.now in
    let at = is_at cache old i shard was c.requires.known c.requires.there.0
    c.index-shard.ensures c.index_mut-seat.ensures.value in
    let mid = c.pin_at.new.seat in
    let pin = c.in_ok-pin.pin in
    let told = c.in_ok-pin.ensures.held in
    let fresh = not_held old.used old.used (omega arith) (view_of was).records
    (seated_at cache old old i shard was was at).records in
    let slots : (geometry_of shard).slots ≡ cache.geometry.slots =
    ap (λ (y : Geometry). y.slots) (at.knows.alike.plans i shard at.shard_is).0 in
    rw (told.0, slots) c.requires.there.1

pub charge-charge-requires-clause-holds : goal.charge-charge-requires-clause-holds
charge-charge-requires-clause-holds c =
    let cache = c.args.self.now in
    let old = c.args.client.now in
    let i = c.args.number in
    let shard = c.index-shard.result.now in
    let was = c.index_mut-seat.result.now in
    let at = is_at cache old i shard was c.requires.known c.requires.there.0
    c.index-shard.ensures c.index_mut-seat.ensures.value in
    let mid = c.pin_at.new.seat in
    let pin = c.in_ok-pin.pin in
    let told = c.in_ok-pin.ensures.held in
    let fresh = not_held old.used old.used (omega arith) (view_of was).records
    (seated_at cache old old i shard was was at).records in
    let read = c.first_word-word.ensures.view ∙ rw (told.1) at c.key-in_shard.ensures.view in
    pinned_still (fits_seeded is_word) (geometry_of shard).room c.args.slot old.used (view_of was)
    (view_of mid) told.2 fresh told.3 (view_of c.first_word-word.new.seat) read pin told.1 told.4

pub returns-clause-known : goal.returns-clause-known
returns-clause-known c =
    let cache = c.args.self.now in
    let old = c.args.client.now in
    let i = c.args.number in
    let shard = c.index-shard.result.now in
    let was = c.index_mut-seat.result.now in
    let at = is_at cache old i shard was c.requires.known c.requires.there.0
    c.index-shard.ensures c.index_mut-seat.ensures.value in
    let mid = c.pin_at.new.seat in
    let pin = c.in_ok-pin.pin in
    let told = c.in_ok-pin.ensures.held in
    let fresh = not_held old.used old.used (omega arith) (view_of was).records
    (seated_at cache old old i shard was was at).records in
    let is = c.charge-charge.new.seat in
    let read : view_of is ≡ after_read old.used KEY1 (view_of mid) =
    c.charge-charge.ensures.view
    ∙ (c.first_word-word.ensures.view ∙ rw (told.1) at c.key-in_shard.ensures.view) in
    let new = c.keep.new.self in
    let rest = c.keep.ensures.rest in
    let change : ChangesAt old new i is = record {
      seats = ap (λ (x : Client Objects). x.seats.items) rest;
      number = ap (λ (x : Client Objects). x.number) rest;
      most = ap (λ (x : Client Objects). x.most) rest;
      seed = ap (λ (x : Client Objects). x.seed) rest;
      capacities = c.keep.ensures.capacities;
    } in
    let key = c.key_from-key.result in
    let left : new.left ≡ old.left - 1 = ap (λ (x : Client Objects). x.left) rest in
    let some = c.requires.free.1 in
    let hold : Hold =
    record { serial = old.used; key = key; shard = i; kept = c.pinned.result } in
    let alone = ap (λ (x : Client Objects). x.alone) rest in
    let given : IsGiven old new c.keep.result hold = record {
      client = c.keep.ensures.client;
      serial = c.keep.ensures.serial;
      named = refl;
      number = change.number;
      free = c.keep.ensures.was_free;
      updates = c.keep.ensures.kept;
      count = c.keep.ensures.count;
      held = ap (λ (x : Client Objects). x.held) rest;
      uses = (ap (λ (x : Client Objects). x.used) rest, omega arith);
    } in
    let on_record = there (fits_seeded is_word) (geometry_of shard).room c.args.slot old.used
    (view_of was) (view_of mid) told.2 fresh told.3 in
    let in_shard = rw (told.1, on_record) at c.key-in_shard.ensures.exact in
    let words : key_to cache.seed key ≡ c.key-in_shard.result =
    sym (ap (λ s. key_to s key) at.knows.seed) ∙ c.key_from-key.ensures.undone in
    let asked : key_of told.2.entry ≡ key_to cache.seed key = sym in_shard ∙ sym words in
    let found = found_read (fits_seeded is_word) (geometry_of shard).room c.args.slot old.used
    (view_of was) (view_of mid) told.2 fresh told.3 (view_of is) read (key_to cache.seed key)
    asked in
    let home = found_home cache old i shard was at is_word c.args.slot old.used
    (view_of mid) told.2 told.3 in
    let here : i ≡ shard_in cache key =
    sym home ∙ ap (λ k. shard_of k (length cache.shards.items)) asked in
    knows_more cache old new i shard was is at change c.keep.result hold pin.slot pin.counting
    told.2 given alone refl c.pinned.ensures found.searched found.records found.called told.4
    found.asked (rw (c.requires.known.seated.count) here) found.small c.charge-charge.ensures.seat
    c.requires.free.0

pub returns-clause-held : goal.returns-clause-held
returns-clause-held c =
    let cache = c.args.self.now in
    let old = c.args.client.now in
    let i = c.args.number in
    let shard = c.index-shard.result.now in
    let was = c.index_mut-seat.result.now in
    let at = is_at cache old i shard was c.requires.known c.requires.there.0
    c.index-shard.ensures c.index_mut-seat.ensures.value in
    let mid = c.pin_at.new.seat in
    let pin = c.in_ok-pin.pin in
    let told = c.in_ok-pin.ensures.held in
    let fresh = not_held old.used old.used (omega arith) (view_of was).records
    (seated_at cache old old i shard was was at).records in
    let is = c.charge-charge.new.seat in
    let read : view_of is ≡ after_read old.used KEY1 (view_of mid) =
    c.charge-charge.ensures.view
    ∙ (c.first_word-word.ensures.view ∙ rw (told.1) at c.key-in_shard.ensures.view) in
    let new = c.keep.new.self in
    let rest = c.keep.ensures.rest in
    let change : ChangesAt old new i is = record {
      seats = ap (λ (x : Client Objects). x.seats.items) rest;
      number = ap (λ (x : Client Objects). x.number) rest;
      most = ap (λ (x : Client Objects). x.most) rest;
      seed = ap (λ (x : Client Objects). x.seed) rest;
      capacities = c.keep.ensures.capacities;
    } in
    let key = c.key_from-key.result in
    let left : new.left ≡ old.left - 1 = ap (λ (x : Client Objects). x.left) rest in
    let some = c.requires.free.1 in
    let hold : Hold =
    record { serial = old.used; key = key; shard = i; kept = c.pinned.result } in
    let alone = ap (λ (x : Client Objects). x.alone) rest in
    let given : IsGiven old new c.keep.result hold = record {
      client = c.keep.ensures.client;
      serial = c.keep.ensures.serial;
      named = refl;
      number = change.number;
      free = c.keep.ensures.was_free;
      updates = c.keep.ensures.kept;
      count = c.keep.ensures.count;
      held = ap (λ (x : Client Objects). x.held) rest;
      uses = (ap (λ (x : Client Objects). x.used) rest, omega arith);
    } in
    let on_record = there (fits_seeded is_word) (geometry_of shard).room c.args.slot old.used
    (view_of was) (view_of mid) told.2 fresh told.3 in
    let in_shard = rw (told.1, on_record) at c.key-in_shard.ensures.exact in
    let words : key_to cache.seed key ≡ c.key-in_shard.result =
    sym (ap (λ s. key_to s key) at.knows.seed) ∙ c.key_from-key.ensures.undone in
    let asked : key_of told.2.entry ≡ key_to cache.seed key = sym in_shard ∙ sym words in
    let found = found_read (fits_seeded is_word) (geometry_of shard).room c.args.slot old.used
    (view_of was) (view_of mid) told.2 fresh told.3 (view_of is) read (key_to cache.seed key)
    asked in
    let home = found_home cache old i shard was at is_word c.args.slot old.used
    (view_of mid) told.2 told.3 in
    let here : i ≡ shard_in cache key =
    sym home ∙ ap (λ k. shard_of k (length cache.shards.items)) asked in
    let undone : key_from cache.seed (key_to cache.seed key) ≡ key =
    ap (key_from cache.seed) words
    ∙ (sym (ap (λ s. key_from s c.key-in_shard.result) at.knows.seed)
    ∙ sym c.key_from-key.ensures.words) in
    let asked_at : IsFound (fits_seeded is_word) (geometry_of shard).room pin.slot old.used
    (key_to cache.seed key) (view_of was) (view_of is) told.2 = rw (told.0) found in
    let all = finds cache old new i shard was is at change c.keep.result hold pin.slot pin.counting
    told.2 given alone refl c.pinned.ensures found.searched found.records found.called told.4
    found.asked is_word key here undone asked_at in
    let it = finds_it cache old new i shard was is at change c.keep.result hold pin.slot
    pin.counting told.2 given alone refl c.pinned.ensures found.searched found.records found.called
    told.4 found.asked is_word key here undone asked_at in
    let first = rw (told.1) at c.key-in_shard.ensures.view in
    let at_word = there_still (fits_seeded is_word) (geometry_of shard).room c.args.slot old.used
    (view_of was) (view_of mid) told.2 fresh told.3 (view_of c.key-in_shard.new.seat) first in
    let at_charge = there_still (fits_seeded is_word) (geometry_of shard).room c.args.slot old.used
    (view_of was) (view_of mid) told.2 fresh told.3 (view_of c.first_word-word.new.seat)
    (c.first_word-word.ensures.view ∙ first) in
    let exact = rw (told.1, at_word) at c.first_word-word.ensures.exact in
    let charged = rw (told.1, at_charge) at c.charge-charge.ensures.exact in
    let word = subst (λ (r : Record). 0 < length r.entry.value
    → c.first_word-word.result ≡ payload_word r.entry.value 0) (sym it) exact in
    record {
      holds = record {
        finds = all;
        home = sym here;
        on = ap (λ (r : Record). r.slot) it ∙ found.on;
        charge_is = ap (λ (r : Record). r.entry.charge) it ∙ sym charged;
      };
      object =
          bytes_again all.found.entry.value c.first_word-word.result all.right all.finds.bytes
          (word (let eight = all.right in omega arith)) ∙ ap object_bytes (sym c.of.ensures);
    }

pub returns-clause-list : goal.returns-clause-list
returns-clause-list c =
    let cache = c.args.self.now in
    let old = c.args.client.now in
    let i = c.args.number in
    let shard = c.index-shard.result.now in
    let was = c.index_mut-seat.result.now in
    let at = is_at cache old i shard was c.requires.known c.requires.there.0
    c.index-shard.ensures c.index_mut-seat.ensures.value in
    let mid = c.pin_at.new.seat in
    let pin = c.in_ok-pin.pin in
    let told = c.in_ok-pin.ensures.held in
    let fresh = not_held old.used old.used (omega arith) (view_of was).records
    (seated_at cache old old i shard was was at).records in
    let is = c.charge-charge.new.seat in
    let read : view_of is ≡ after_read old.used KEY1 (view_of mid) =
    c.charge-charge.ensures.view
    ∙ (c.first_word-word.ensures.view ∙ rw (told.1) at c.key-in_shard.ensures.view) in
    let new = c.keep.new.self in
    let rest = c.keep.ensures.rest in
    let change : ChangesAt old new i is = record {
      seats = ap (λ (x : Client Objects). x.seats.items) rest;
      number = ap (λ (x : Client Objects). x.number) rest;
      most = ap (λ (x : Client Objects). x.most) rest;
      seed = ap (λ (x : Client Objects). x.seed) rest;
      capacities = c.keep.ensures.capacities;
    } in
    let hands = c.pin_at.ensures.list in
    did_at cache old new i shard was is at change
    (λ s a b. Hands (shelf_in c.args.list.now) (shelf_in c.pin_at.new.list) (view_of a) (view_of b))
    (record {
      these = hands.these;
      gone = gone_still (fits_seeded is_word) (geometry_of shard).room c.args.slot old.used
          (view_of was) (view_of mid) told.2 fresh told.3 (view_of is) read ∙ hands.gone;
      puts = hands.puts;
    }) i refl

pub returns-clause-counts : goal.returns-clause-counts
returns-clause-counts c =
    let cache = c.args.self.now in
    let old = c.args.client.now in
    let i = c.args.number in
    let shard = c.index-shard.result.now in
    let was = c.index_mut-seat.result.now in
    let at = is_at cache old i shard was c.requires.known c.requires.there.0
    c.index-shard.ensures c.index_mut-seat.ensures.value in
    let mid = c.pin_at.new.seat in
    let pin = c.in_ok-pin.pin in
    let told = c.in_ok-pin.ensures.held in
    let fresh = not_held old.used old.used (omega arith) (view_of was).records
    (seated_at cache old old i shard was was at).records in
    let is = c.charge-charge.new.seat in
    let read : view_of is ≡ after_read old.used KEY1 (view_of mid) =
    c.charge-charge.ensures.view
    ∙ (c.first_word-word.ensures.view ∙ rw (told.1) at c.key-in_shard.ensures.view) in
    let new = c.keep.new.self in
    let rest = c.keep.ensures.rest in
    let change : ChangesAt old new i is = record {
      seats = ap (λ (x : Client Objects). x.seats.items) rest;
      number = ap (λ (x : Client Objects). x.number) rest;
      most = ap (λ (x : Client Objects). x.most) rest;
      seed = ap (λ (x : Client Objects). x.seed) rest;
      capacities = c.keep.ensures.capacities;
    } in
    does_at cache old new i shard was is at change SameEvictions
    (counts_still was mid is c.pin_at.ensures.counts
    (c.charge-charge.ensures.counts
    ∙ (c.first_word-word.ensures.counts ∙ c.key-in_shard.ensures.counts))) i refl

pub returns-clause-steps : goal.returns-clause-steps
returns-clause-steps c =
    let cache = c.args.self.now in
    let old = c.args.client.now in
    let i = c.args.number in
    let shard = c.index-shard.result.now in
    let was = c.index_mut-seat.result.now in
    let at = is_at cache old i shard was c.requires.known c.requires.there.0
    c.index-shard.ensures c.index_mut-seat.ensures.value in
    let mid = c.pin_at.new.seat in
    let pin = c.in_ok-pin.pin in
    let told = c.in_ok-pin.ensures.held in
    let fresh = not_held old.used old.used (omega arith) (view_of was).records
    (seated_at cache old old i shard was was at).records in
    let is = c.charge-charge.new.seat in
    let read : view_of is ≡ after_read old.used KEY1 (view_of mid) =
    c.charge-charge.ensures.view
    ∙ (c.first_word-word.ensures.view ∙ rw (told.1) at c.key-in_shard.ensures.view) in
    let new = c.keep.new.self in
    let rest = c.keep.ensures.rest in
    let change : ChangesAt old new i is = record {
      seats = ap (λ (x : Client Objects). x.seats.items) rest;
      number = ap (λ (x : Client Objects). x.number) rest;
      most = ap (λ (x : Client Objects). x.most) rest;
      seed = ap (λ (x : Client Objects). x.seed) rest;
      capacities = c.keep.ensures.capacities;
    } in
    let slots : (geometry_of shard).slots ≡ cache.geometry.slots =
    ap (λ (y : Geometry). y.slots) (at.knows.alike.plans i shard at.shard_is).0 in
    let first = c.in_ok-pin.ensures.fewer in
    let key = c.key-in_shard.ensures.steps in
    let word = c.first_word-word.ensures.steps in
    let charge = c.charge-charge.ensures.steps in
    takes_at cache old new i shard was is at change (freeing cache.geometry.slots + 4)
    (omega arith)

use Rattle.std.proofs.Common.{is_some, ◌≡◌, ◌∙◌, ◌+◌, ◌-◌, ◌*◌, ◌<◌, None, Some, length, ap, refl, subst, sym, arith}
use Rattle.std.specs.Prelude.{option_map}
use Rattle.std.specs.Vec.{with_item}
use Rattle.hcc_rule.specs.declared.geometry.Geometry.{Geometry}
use Rattle.hcc_rule.specs.declared.view.Record.{Record}
use Rattle.hcc_rule.specs.Words.{payload_word}
use Rattle.hcc_shard.specs.Callers.{geometry_of}
use Rattle.hcc_shard.specs.Counted.{SameEvictions}
use Rattle.hcc_table.proofs.Lasting.{searches_seek}
use Rattle.hcc_table.proofs.Seeking.{seeks_then}
use Rattle.hcc_table.proofs.Still.{seeks_still}
use Rattle.hcc_cache.specs.declared.client.Client.{Client}
use Rattle.hcc_cache.specs.declared.holding.Hold.{Hold}
use Rattle.hcc_cache.specs.Calls.{shard_in}
use Rattle.hcc_cache.specs.Keys.{fits_seeded}
use Rattle.hcc_cache.specs.Sharding.{shard_of}
use Rattle.hcc_cache.proofs.Clients.AtOneShard.{ChangesAt, does_at, few_at, is_at, next_at, seated_at, takes_at}
use Rattle.hcc_cache.proofs.Clients.ShownAfterwards.{stays_at, stays_same}
use Rattle.hcc_cache.proofs.HandedBack.AloneAfterwards.{alone_same}
use Rattle.hcc_cache.proofs.Searches.KnownAfterLookup.{finds, finds_it, knows_more, knows_sought, misses, searched_reading_at, visits_at}
use Rattle.hcc_cache.proofs.Handles.OneMore.{IsGiven}
use Rattle.hcc_cache.proofs.cache.Cache.lookup_word.Goals as goal

pub lookup_word-requires-clause-seat : goal.lookup_word-requires-clause-seat
lookup_word-requires-clause-seat g c =
    let cache = c.args.self.now in
    let old = c.args.client.now in
    let i = c.shard_number-number.result in
    let shard = c.index-shard.result.now in
    let was = c.index_mut-seat.result.now in
    let at = is_at cache old i shard was c.requires.known c.shard_number-number.ensures.inside
    c.index-shard.ensures c.index_mut-seat.ensures.value in
    (seated_at cache old old i shard was was at).rests

pub lookup_word-requires-clause-serial : goal.lookup_word-requires-clause-serial
lookup_word-requires-clause-serial g c =
    let cache = c.args.self.now in
    let old = c.args.client.now in
    let i = c.shard_number-number.result in
    let shard = c.index-shard.result.now in
    let was = c.index_mut-seat.result.now in
    let at = is_at cache old i shard was c.requires.known c.shard_number-number.ensures.inside
    c.index-shard.ensures c.index_mut-seat.ensures.value in
    next_at cache old old i shard was was at c.in_ok-may_hold.ensures.free.1

pub lookup_word-requires-clause-few : goal.lookup_word-requires-clause-few
lookup_word-requires-clause-few g c =
    let cache = c.args.self.now in
    let old = c.args.client.now in
    let i = c.shard_number-number.result in
    let shard = c.index-shard.result.now in
    let was = c.index_mut-seat.result.now in
    let at = is_at cache old i shard was c.requires.known c.shard_number-number.ensures.inside
    c.index-shard.ensures c.index_mut-seat.ensures.value in
    few_at cache old old i shard was was at c.in_ok-may_hold.ensures.free.0

pub returns-in_default-clause-known : goal.returns-in_default-clause-known
returns-in_default-clause-known g c =
    let cache = c.args.self.now in
    let old = c.args.client.now in
    let i = c.shard_number-number.result in
    let shard = c.index-shard.result.now in
    let was = c.index_mut-seat.result.now in
    let is = c.lookup_word.new.seat in
    let at = is_at cache old i shard was c.requires.known c.shard_number-number.ensures.inside
    c.index-shard.ensures c.index_mut-seat.ensures.value in
    knows_sought cache old _ i shard was is at
    (record { seats = refl; number = refl; most = refl; seed = refl; capacities = refl })
    (record { handles = refl; alone = refl; held = refl; uses = (refl, refl) })
    c.lookup_word.ensures.seat c.in_default.ensures.missed.sought

pub returns-in_default-clause-missed : goal.returns-in_default-clause-missed
returns-in_default-clause-missed g c =
    let cache = c.args.self.now in
    let old = c.args.client.now in
    let i = c.shard_number-number.result in
    let shard = c.index-shard.result.now in
    let was = c.index_mut-seat.result.now in
    let is = c.lookup_word.new.seat in
    let at = is_at cache old i shard was c.requires.known c.shard_number-number.ensures.inside
    c.index-shard.ensures c.index_mut-seat.ensures.value in
    let words = c.key_to-seeded.ensures.words in
    let shards = length cache.shards.items in
    misses cache old _ i shard was is at
    (record { seats = refl; number = refl; most = refl; seed = refl; capacities = refl })
    c.args.key
    (record { handles = refl; alone = refl; held = refl; uses = (refl, refl) })
    (c.shard_number-number.ensures.value ∙ ap (λ k. shard_of k shards) words)
    (rw words at c.in_default.ensures.missed)

pub returns-in_default-clause-steps : goal.returns-in_default-clause-steps
returns-in_default-clause-steps g c =
    let cache = c.args.self.now in
    let old = c.args.client.now in
    let i = c.shard_number-number.result in
    let shard = c.index-shard.result.now in
    let was = c.index_mut-seat.result.now in
    let is = c.lookup_word.new.seat in
    let at = is_at cache old i shard was c.requires.known c.shard_number-number.ensures.inside
    c.index-shard.ensures c.index_mut-seat.ensures.value in
    let alike = at.knows.alike.plans i shard at.shard_is in
    let slots : (geometry_of shard).slots ≡ cache.geometry.slots =
    ap (λ (y : Geometry). y.slots) alike.0 in
    let makes = c.lookup_word.ensures.steps in
    let within = makes.within in
    let steps = makes.steps in
    takes_at cache old (record old { seats = with_item old.seats i is }) i shard was is at
    (record { seats = refl; number = refl; most = refl; seed = refl; capacities = refl })
    (7 * cache.geometry.slots + 1) (omega arith)

pub returns-clause-known : goal.returns-clause-known
returns-clause-known g c =
    let cache = c.args.self.now in
    let old = c.args.client.now in
    let new = c.keep.new.self in
    let i = c.shard_number-number.result in
    let shard = c.index-shard.result.now in
    let was = c.index_mut-seat.result.now in
    let is = c.lookup_word.new.seat in
    let at = is_at cache old i shard was c.requires.known c.shard_number-number.ensures.inside
    c.index-shard.ensures c.index_mut-seat.ensures.value in
    let rest = c.keep.ensures.rest in
    let change : ChangesAt old new i is = record {
      seats = ap (λ (x : Client g.row.T.Denot). x.seats.items) rest;
      number = ap (λ (x : Client g.row.T.Denot). x.number) rest;
      most = ap (λ (x : Client g.row.T.Denot). x.most) rest;
      seed = ap (λ (x : Client g.row.T.Denot). x.seed) rest;
      capacities = c.keep.ensures.capacities;
    } in
    let words = c.key_to-seeded.ensures.words in
    let shards = length cache.shards.items in
    let told = c.in-Some.ensures.found in
    let found = told.1 in
    let pin = c.in-Some.pin in
    let left : new.left ≡ old.left - 1 = ap (λ (x : Client g.row.T.Denot). x.left) rest in
    let some = c.in_ok-may_hold.ensures.free.1 in
    let hold : Hold = record {
      serial = old.used;
      key = c.args.key;
      shard = i;
      kept = c.pinned.result;
    } in
    let alone = ap (λ (x : Client g.row.T.Denot). x.alone) rest in
    let given : IsGiven old new c.keep.result hold = record {
      client = c.keep.ensures.client;
      serial = c.keep.ensures.serial;
      named = refl;
      number = change.number;
      free = c.keep.ensures.was_free;
      updates = c.keep.ensures.kept;
      count = c.keep.ensures.count;
      held = ap (λ (x : Client g.row.T.Denot). x.held) rest;
      uses = (ap (λ (x : Client g.row.T.Denot). x.used) rest, omega arith);
    } in
    knows_more cache old new i shard was is at change c.keep.result hold pin.slot pin.counting
    told.0 given alone refl c.pinned.ensures found.searched found.records found.called told.2
    (found.asked ∙ words)
    (rw (c.requires.known.seated.count)
    (c.shard_number-number.ensures.value ∙ ap (λ k. shard_of k shards) words))
    found.small c.lookup_word.ensures.seat c.in_ok-may_hold.ensures.free.0

pub returns-clause-found : goal.returns-clause-found
returns-clause-found g c =
    let cache = c.args.self.now in
    let old = c.args.client.now in
    let new = c.keep.new.self in
    let i = c.shard_number-number.result in
    let shard = c.index-shard.result.now in
    let was = c.index_mut-seat.result.now in
    let is = c.lookup_word.new.seat in
    let at = is_at cache old i shard was c.requires.known c.shard_number-number.ensures.inside
    c.index-shard.ensures c.index_mut-seat.ensures.value in
    let rest = c.keep.ensures.rest in
    let change : ChangesAt old new i is = record {
      seats = ap (λ (x : Client g.row.T.Denot). x.seats.items) rest;
      number = ap (λ (x : Client g.row.T.Denot). x.number) rest;
      most = ap (λ (x : Client g.row.T.Denot). x.most) rest;
      seed = ap (λ (x : Client g.row.T.Denot). x.seed) rest;
      capacities = c.keep.ensures.capacities;
    } in
    let words = c.key_to-seeded.ensures.words in
    let shards = length cache.shards.items in
    let told = c.in-Some.ensures.found in
    let found = told.1 in
    let pin = c.in-Some.pin in
    let left : new.left ≡ old.left - 1 = ap (λ (x : Client g.row.T.Denot). x.left) rest in
    let some = c.in_ok-may_hold.ensures.free.1 in
    let hold : Hold = record {
      serial = old.used;
      key = c.args.key;
      shard = i;
      kept = c.pinned.result;
    } in
    let alone = ap (λ (x : Client g.row.T.Denot). x.alone) rest in
    let given : IsGiven old new c.keep.result hold = record {
      client = c.keep.ensures.client;
      serial = c.keep.ensures.serial;
      named = refl;
      number = change.number;
      free = c.keep.ensures.was_free;
      updates = c.keep.ensures.kept;
      count = c.keep.ensures.count;
      held = ap (λ (x : Client g.row.T.Denot). x.held) rest;
      uses = (ap (λ (x : Client g.row.T.Denot). x.used) rest, omega arith);
    } in
    let here = c.shard_number-number.ensures.value ∙ ap (λ k. shard_of k shards) words in
    let undone = rw words at c.key_to-seeded.ensures.undone in
    let asked = rw words at found in
    let all = finds cache old new i shard was is at change c.keep.result hold pin.slot pin.counting
    told.0 given alone refl c.pinned.ensures found.searched found.records found.called told.2
    (found.asked ∙ words) g.T.Tag.fits c.args.key here undone asked in
    let it = finds_it cache old new i shard was is at change c.keep.result hold pin.slot
    pin.counting told.0 given alone refl c.pinned.ensures found.searched found.records found.called
    told.2 (found.asked ∙ words) g.T.Tag.fits c.args.key here undone asked in (
      all,
      subst (λ (r : Record). 0 < length r.entry.value
          → c.in-Some.word ≡ payload_word r.entry.value 0) (sym it) told.3
          (c.requires.words c.args.key all.found.entry.value all.right),
    )

pub returns-clause-alone : goal.returns-clause-alone
returns-clause-alone g c =
    let rest = c.keep.ensures.rest in
    alone_same c.args.client.now c.keep.new.self (ap (λ (x : Client g.row.T.Denot). x.most) rest)
    (ap (λ (x : Client g.row.T.Denot). x.alone) rest)

pub returns-clause-steps : goal.returns-clause-steps
returns-clause-steps g c =
    let cache = c.args.self.now in
    let old = c.args.client.now in
    let new = c.keep.new.self in
    let i = c.shard_number-number.result in
    let shard = c.index-shard.result.now in
    let was = c.index_mut-seat.result.now in
    let is = c.lookup_word.new.seat in
    let at = is_at cache old i shard was c.requires.known c.shard_number-number.ensures.inside
    c.index-shard.ensures c.index_mut-seat.ensures.value in
    let rest = c.keep.ensures.rest in
    let change : ChangesAt old new i is = record {
      seats = ap (λ (x : Client g.row.T.Denot). x.seats.items) rest;
      number = ap (λ (x : Client g.row.T.Denot). x.number) rest;
      most = ap (λ (x : Client g.row.T.Denot). x.most) rest;
      seed = ap (λ (x : Client g.row.T.Denot). x.seed) rest;
      capacities = c.keep.ensures.capacities;
    } in
    let alike = at.knows.alike.plans i shard at.shard_is in
    let slots : (geometry_of shard).slots ≡ cache.geometry.slots =
    ap (λ (y : Geometry). y.slots) alike.0 in
    let makes = c.lookup_word.ensures.steps in
    let within = makes.within in
    let steps = makes.steps in
    takes_at cache old new i shard was is at change (7 * cache.geometry.slots + 1) (omega arith)

pub returns-in_default-clause-searched : goal.returns-in_default-clause-searched
returns-in_default-clause-searched g c =
    let cache = c.args.self.now in
    let old = c.args.client.now in
    let i = c.shard_number-number.result in
    let shard = c.index-shard.result.now in
    let was = c.index_mut-seat.result.now in
    let is = c.lookup_word.new.seat in
    let at = is_at cache old i shard was c.requires.known c.shard_number-number.ensures.inside
    c.index-shard.ensures c.index_mut-seat.ensures.value in
    let new = record old { seats = with_item old.seats i is } in
    let change : ChangesAt old new i is =
    record { seats = refl; number = refl; most = refl; seed = refl; capacities = refl } in
    let here = c.shard_number-number.ensures.value
    ∙ ap (λ k. shard_of k (length cache.shards.items)) c.key_to-seeded.ensures.words in
    let words = c.key_to-seeded.ensures.words in
    let told = c.lookup_word.ensures.searches in
    searched_reading_at cache old new i shard was is at change g.T.Tag.fits c.args.key None here
    _ told.0 (ap (λ o. is_some (option_map (λ got. got.0) o)) c.in_default.is)
    (rw words at told.1) told.2 told.3

pub returns-in_default-clause-stays : goal.returns-in_default-clause-stays
returns-in_default-clause-stays g c =
    let cache = c.args.self.now in
    let old = c.args.client.now in
    let i = c.shard_number-number.result in
    let shard = c.index-shard.result.now in
    let was = c.index_mut-seat.result.now in
    let is = c.lookup_word.new.seat in
    let at = is_at cache old i shard was c.requires.known c.shard_number-number.ensures.inside
    c.index-shard.ensures c.index_mut-seat.ensures.value in
    let new = record old { seats = with_item old.seats i is } in
    let change : ChangesAt old new i is =
    record { seats = refl; number = refl; most = refl; seed = refl; capacities = refl } in
    let told = c.lookup_word.ensures.searches in
    let seeks = searches_seek (fits_seeded g.T.Tag.fits) shard.table c.key_to-seeded.result.in_shard
    old.used shard.marks _ was.effort told.0.effort was.seat told.0.seat told.1 in
    stays_at cache old new i shard was is at change
    (seeks_still shard.table was.seat is.seat
    (seeks_then shard.table was.seat told.0.seat is.seat seeks told.2))

pub returns-in_default-clause-counts : goal.returns-in_default-clause-counts
returns-in_default-clause-counts g c =
    let cache = c.args.self.now in
    let old = c.args.client.now in
    let i = c.shard_number-number.result in
    let shard = c.index-shard.result.now in
    let was = c.index_mut-seat.result.now in
    let is = c.lookup_word.new.seat in
    let at = is_at cache old i shard was c.requires.known c.shard_number-number.ensures.inside
    c.index-shard.ensures c.index_mut-seat.ensures.value in
    let new = record old { seats = with_item old.seats i is } in
    let change : ChangesAt old new i is =
    record { seats = refl; number = refl; most = refl; seed = refl; capacities = refl } in
    let here = c.shard_number-number.ensures.value
    ∙ ap (λ k. shard_of k (length cache.shards.items)) c.key_to-seeded.ensures.words in
    does_at cache old new i shard was is at change SameEvictions c.lookup_word.ensures.counts
    (shard_in cache c.args.key) here

pub returns-in_default-clause-visits : goal.returns-in_default-clause-visits
returns-in_default-clause-visits g c =
    let cache = c.args.self.now in
    let old = c.args.client.now in
    let i = c.shard_number-number.result in
    let shard = c.index-shard.result.now in
    let was = c.index_mut-seat.result.now in
    let is = c.lookup_word.new.seat in
    let at = is_at cache old i shard was c.requires.known c.shard_number-number.ensures.inside
    c.index-shard.ensures c.index_mut-seat.ensures.value in
    let new = record old { seats = with_item old.seats i is } in
    let change : ChangesAt old new i is =
    record { seats = refl; number = refl; most = refl; seed = refl; capacities = refl } in
    let here = c.shard_number-number.ensures.value
    ∙ ap (λ k. shard_of k (length cache.shards.items)) c.key_to-seeded.ensures.words in
    visits_at cache old new i shard was is at change 1 c.args.key here c.lookup_word.ensures.steps

pub returns-clause-searched : goal.returns-clause-searched
returns-clause-searched g c =
    let cache = c.args.self.now in
    let old = c.args.client.now in
    let i = c.shard_number-number.result in
    let shard = c.index-shard.result.now in
    let was = c.index_mut-seat.result.now in
    let is = c.lookup_word.new.seat in
    let at = is_at cache old i shard was c.requires.known c.shard_number-number.ensures.inside
    c.index-shard.ensures c.index_mut-seat.ensures.value in
    let new = c.keep.new.self in
    let rest = c.keep.ensures.rest in
    let change : ChangesAt old new i is = record {
      seats = ap (λ (x : Client g.row.T.Denot). x.seats.items) rest;
      number = ap (λ (x : Client g.row.T.Denot). x.number) rest;
      most = ap (λ (x : Client g.row.T.Denot). x.most) rest;
      seed = ap (λ (x : Client g.row.T.Denot). x.seed) rest;
      capacities = c.keep.ensures.capacities;
    } in
    let here = c.shard_number-number.ensures.value
    ∙ ap (λ k. shard_of k (length cache.shards.items)) c.key_to-seeded.ensures.words in
    let words = c.key_to-seeded.ensures.words in
    let told = c.lookup_word.ensures.searches in
    searched_reading_at cache old new i shard was is at change g.T.Tag.fits c.args.key
    (Some c.keep.result) here
    _ told.0 (ap (λ o. is_some (option_map (λ got. got.0) o)) c.in-Some.is)
    (rw words at told.1) told.2 told.3

pub returns-clause-stays : goal.returns-clause-stays
returns-clause-stays g c =
    let cache = c.args.self.now in
    let old = c.args.client.now in
    let i = c.shard_number-number.result in
    let shard = c.index-shard.result.now in
    let was = c.index_mut-seat.result.now in
    let is = c.lookup_word.new.seat in
    let at = is_at cache old i shard was c.requires.known c.shard_number-number.ensures.inside
    c.index-shard.ensures c.index_mut-seat.ensures.value in
    let new = c.keep.new.self in
    let rest = c.keep.ensures.rest in
    let change : ChangesAt old new i is = record {
      seats = ap (λ (x : Client g.row.T.Denot). x.seats.items) rest;
      number = ap (λ (x : Client g.row.T.Denot). x.number) rest;
      most = ap (λ (x : Client g.row.T.Denot). x.most) rest;
      seed = ap (λ (x : Client g.row.T.Denot). x.seed) rest;
      capacities = c.keep.ensures.capacities;
    } in
    let told = c.lookup_word.ensures.searches in
    let seeks = searches_seek (fits_seeded g.T.Tag.fits) shard.table c.key_to-seeded.result.in_shard
    old.used shard.marks _ was.effort told.0.effort was.seat told.0.seat told.1 in
    stays_at cache old new i shard was is at change
    (seeks_still shard.table was.seat is.seat
    (seeks_then shard.table was.seat told.0.seat is.seat seeks told.2))

pub returns-clause-counts : goal.returns-clause-counts
returns-clause-counts g c =
    let cache = c.args.self.now in
    let old = c.args.client.now in
    let i = c.shard_number-number.result in
    let shard = c.index-shard.result.now in
    let was = c.index_mut-seat.result.now in
    let is = c.lookup_word.new.seat in
    let at = is_at cache old i shard was c.requires.known c.shard_number-number.ensures.inside
    c.index-shard.ensures c.index_mut-seat.ensures.value in
    let new = c.keep.new.self in
    let rest = c.keep.ensures.rest in
    let change : ChangesAt old new i is = record {
      seats = ap (λ (x : Client g.row.T.Denot). x.seats.items) rest;
      number = ap (λ (x : Client g.row.T.Denot). x.number) rest;
      most = ap (λ (x : Client g.row.T.Denot). x.most) rest;
      seed = ap (λ (x : Client g.row.T.Denot). x.seed) rest;
      capacities = c.keep.ensures.capacities;
    } in
    let here = c.shard_number-number.ensures.value
    ∙ ap (λ k. shard_of k (length cache.shards.items)) c.key_to-seeded.ensures.words in
    does_at cache old new i shard was is at change SameEvictions c.lookup_word.ensures.counts
    (shard_in cache c.args.key) here

pub returns-clause-visits : goal.returns-clause-visits
returns-clause-visits g c =
    let cache = c.args.self.now in
    let old = c.args.client.now in
    let i = c.shard_number-number.result in
    let shard = c.index-shard.result.now in
    let was = c.index_mut-seat.result.now in
    let is = c.lookup_word.new.seat in
    let at = is_at cache old i shard was c.requires.known c.shard_number-number.ensures.inside
    c.index-shard.ensures c.index_mut-seat.ensures.value in
    let new = c.keep.new.self in
    let rest = c.keep.ensures.rest in
    let change : ChangesAt old new i is = record {
      seats = ap (λ (x : Client g.row.T.Denot). x.seats.items) rest;
      number = ap (λ (x : Client g.row.T.Denot). x.number) rest;
      most = ap (λ (x : Client g.row.T.Denot). x.most) rest;
      seed = ap (λ (x : Client g.row.T.Denot). x.seed) rest;
      capacities = c.keep.ensures.capacities;
    } in
    let here = c.shard_number-number.ensures.value
    ∙ ap (λ k. shard_of k (length cache.shards.items)) c.key_to-seeded.ensures.words in
    visits_at cache old new i shard was is at change 1 c.args.key here c.lookup_word.ensures.steps

pub returns-in_err-may_hold-clause-stays : goal.returns-in_err-may_hold-clause-stays
returns-in_err-may_hold-clause-stays g c =
    stays_same c.args.self.now c.args.client.now c.args.client.now refl

use Rattle.std.proofs.Common.{◌≡◌, ◌∙◌, ◌-◌, None, Some, is_some, length, ap, refl, arith}
use Rattle.std.specs.Vec.{with_item}
use Rattle.hcc_shard.specs.Counted.{SameEvictions}
use Rattle.hcc_cache.specs.declared.client.Client.{Client}
use Rattle.hcc_cache.specs.declared.holding.Hold.{Hold}
use Rattle.hcc_cache.specs.Calls.{shard_in}
use Rattle.hcc_cache.specs.Sharding.{shard_of}
use Rattle.hcc_cache.proofs.Clients.AtOneShard.{ChangesAt, does_at, few_at, is_at, next_at, seated_at}
use Rattle.hcc_cache.proofs.Searches.KnownAfterLookup.{finds, knows_more, knows_sought, looks_at, misses, searched_at, visits_at}
use Rattle.hcc_cache.proofs.Handles.OneMore.{IsGiven}
use Rattle.hcc_table.proofs.Lasting.{searches_seek}
use Rattle.hcc_table.proofs.Still.{seeks_still}
use Rattle.hcc_cache.specs.Keys.{fits_seeded}
use Rattle.hcc_cache.proofs.Clients.ShownAfterwards.{stays_at}
use Rattle.hcc_cache.proofs.cache.Cache.search.Goals as goal

pub lookup-requires-clause-seat : goal.lookup-requires-clause-seat
lookup-requires-clause-seat g c =
    let cache = c.args.self.now in
    let old = c.args.client.now in
    let i = c.shard_number-shard.result in
    let shard = c.index.result.now in
    let was = c.index_mut-seat.result.now in
    let at = is_at cache old i shard was c.requires.known c.shard_number-shard.ensures.inside
    c.index.ensures c.index_mut-seat.ensures.value in
    (seated_at cache old old i shard was was at).rests

pub lookup-requires-clause-serial : goal.lookup-requires-clause-serial
lookup-requires-clause-serial g c =
    let cache = c.args.self.now in
    let old = c.args.client.now in
    let i = c.shard_number-shard.result in
    let shard = c.index.result.now in
    let was = c.index_mut-seat.result.now in
    let at = is_at cache old i shard was c.requires.known c.shard_number-shard.ensures.inside
    c.index.ensures c.index_mut-seat.ensures.value in
    next_at cache old old i shard was was at c.requires.free.1

pub lookup-requires-clause-few : goal.lookup-requires-clause-few
lookup-requires-clause-few g c =
    let cache = c.args.self.now in
    let old = c.args.client.now in
    let i = c.shard_number-shard.result in
    let shard = c.index.result.now in
    let was = c.index_mut-seat.result.now in
    let at = is_at cache old i shard was c.requires.known c.shard_number-shard.ensures.inside
    c.index.ensures c.index_mut-seat.ensures.value in
    few_at cache old old i shard was was at c.requires.free.0

pub returns-in_err-pin-clause-known : goal.returns-in_err-pin-clause-known
returns-in_err-pin-clause-known g c =
    let cache = c.args.self.now in
    let old = c.args.client.now in
    let i = c.shard_number-shard.result in
    let shard = c.index.result.now in
    let was = c.index_mut-seat.result.now in
    let is = c.lookup.new.seat in
    let at = is_at cache old i shard was c.requires.known c.shard_number-shard.ensures.inside
    c.index.ensures c.index_mut-seat.ensures.value in
    knows_sought cache old _ i shard was is at
    (record { seats = refl; number = refl; most = refl; seed = refl; capacities = refl })
    (record { handles = refl; alone = refl; held = refl; uses = (refl, refl) })
    c.lookup.ensures.seat c.in_err-pin.ensures.missed.sought

pub returns-in_err-pin-clause-missed : goal.returns-in_err-pin-clause-missed
returns-in_err-pin-clause-missed g c =
    let cache = c.args.self.now in
    let old = c.args.client.now in
    let i = c.shard_number-shard.result in
    let shard = c.index.result.now in
    let was = c.index_mut-seat.result.now in
    let is = c.lookup.new.seat in
    let at = is_at cache old i shard was c.requires.known c.shard_number-shard.ensures.inside
    c.index.ensures c.index_mut-seat.ensures.value in
    let words = c.key_to-seeded.ensures.words in
    let shards = length cache.shards.items in
    rw (c.from_residual.ensures)
    (misses cache old _ i shard was is at
    (record { seats = refl; number = refl; most = refl; seed = refl; capacities = refl })
    c.args.key
    (record { handles = refl; alone = refl; held = refl; uses = (refl, refl) })
    (c.shard_number-shard.ensures.value ∙ ap (λ k. shard_of k shards) words)
    (rw words at c.in_err-pin.ensures.missed))

pub returns-in_err-pin-clause-searched : goal.returns-in_err-pin-clause-searched
returns-in_err-pin-clause-searched g c =
    let cache = c.args.self.now in
    let old = c.args.client.now in
    let i = c.shard_number-shard.result in
    let shard = c.index.result.now in
    let was = c.index_mut-seat.result.now in
    let is = c.lookup.new.seat in
    let at = is_at cache old i shard was c.requires.known c.shard_number-shard.ensures.inside
    c.index.ensures c.index_mut-seat.ensures.value in
    let words = c.key_to-seeded.ensures.words in
    let shards = length cache.shards.items in
    rw (c.from_residual.ensures)
    (searched_at cache old _ i shard was is at
    (record { seats = refl; number = refl; most = refl; seed = refl; capacities = refl })
    g.T.Tag.fits c.args.key None
    (c.shard_number-shard.ensures.value ∙ ap (λ k. shard_of k shards) words) c.lookup.result
    (ap is_some c.in_err-pin.was) (rw words at c.lookup.ensures.searches))

pub returns-in_err-pin-clause-counts : goal.returns-in_err-pin-clause-counts
returns-in_err-pin-clause-counts g c =
    let cache = c.args.self.now in
    let old = c.args.client.now in
    let i = c.shard_number-shard.result in
    let was = c.index_mut-seat.result.now in
    let at = is_at cache old i c.index.result.now was c.requires.known
    c.shard_number-shard.ensures.inside c.index.ensures c.index_mut-seat.ensures.value in
    does_at cache old _ i c.index.result.now was c.lookup.new.seat at
    (record { seats = refl; number = refl; most = refl; seed = refl; capacities = refl })
    SameEvictions c.lookup.ensures.counts (shard_in cache c.args.key)
    (c.shard_number-shard.ensures.value
    ∙ ap (λ k. shard_of k (length cache.shards.items)) c.key_to-seeded.ensures.words)

pub returns-in_err-pin-clause-visits : goal.returns-in_err-pin-clause-visits
returns-in_err-pin-clause-visits g c =
    let cache = c.args.self.now in
    let old = c.args.client.now in
    let i = c.shard_number-shard.result in
    let shard = c.index.result.now in
    let was = c.index_mut-seat.result.now in
    let is = c.lookup.new.seat in
    let at = is_at cache old i shard was c.requires.known c.shard_number-shard.ensures.inside
    c.index.ensures c.index_mut-seat.ensures.value in
    let words = c.key_to-seeded.ensures.words in
    visits_at cache old (record old { seats = with_item old.seats i is }) i shard was is at
    (record {
      seats = refl;
      number = refl;
      most = refl;
      seed = refl;
      capacities = refl;
    }) 0 c.args.key
    (c.shard_number-shard.ensures.value ∙ ap (λ k. shard_of k (length cache.shards.items)) words)
    c.lookup.ensures.steps

pub returns-in_err-pin-clause-steps : goal.returns-in_err-pin-clause-steps
returns-in_err-pin-clause-steps g c =
    let cache = c.args.self.now in
    let old = c.args.client.now in
    let i = c.shard_number-shard.result in
    let shard = c.index.result.now in
    let was = c.index_mut-seat.result.now in
    let is = c.lookup.new.seat in
    let at = is_at cache old i shard was c.requires.known c.shard_number-shard.ensures.inside
    c.index.ensures c.index_mut-seat.ensures.value in
    looks_at cache old (record old { seats = with_item old.seats i is }) i shard was is at
    (record {
      seats = refl;
      number = refl;
      most = refl;
      seed = refl;
      capacities = refl;
    }) was.effort
    is.effort c.lookup.ensures.steps

pub returns : goal.returns
returns g c =
    let cache = c.args.self.now in
    let old = c.args.client.now in
    let new = c.keep.new.self in
    let i = c.shard_number-shard.result in
    let shard = c.index.result.now in
    let was = c.index_mut-seat.result.now in
    let is = c.lookup.new.seat in
    let at = is_at cache old i shard was c.requires.known c.shard_number-shard.ensures.inside
    c.index.ensures c.index_mut-seat.ensures.value in
    let words = c.key_to-seeded.ensures.words in
    let shards = length cache.shards.items in
    let told = c.in_ok-pin.ensures.found in
    let pin = c.in_ok-pin.pin in
    let rest = c.keep.ensures.rest in
    let left : new.left ≡ old.left - 1 = ap (λ (x : Client g.row.T.Denot). x.left) rest in
    let some = c.requires.free.1 in
    let hold : Hold = record {
      serial = old.used;
      key = c.args.key;
      shard = i;
      kept = c.pinned.result;
    } in
    let alone = ap (λ (x : Client g.row.T.Denot). x.alone) rest in
    let change : ChangesAt old new i is = record {
      seats = ap (λ (x : Client g.row.T.Denot). x.seats.items) rest;
      number = ap (λ (x : Client g.row.T.Denot). x.number) rest;
      most = ap (λ (x : Client g.row.T.Denot). x.most) rest;
      seed = ap (λ (x : Client g.row.T.Denot). x.seed) rest;
      capacities = c.keep.ensures.capacities;
    } in
    let given : IsGiven old new c.keep.result hold = record {
      client = c.keep.ensures.client;
      serial = c.keep.ensures.serial;
      named = refl;
      number = change.number;
      free = c.keep.ensures.was_free;
      updates = c.keep.ensures.kept;
      count = c.keep.ensures.count;
      held = ap (λ (x : Client g.row.T.Denot). x.held) rest;
      uses = (ap (λ (x : Client g.row.T.Denot). x.used) rest, omega arith);
    } in
    record {
      known =
          knows_more cache old new i shard was is at change c.keep.result hold pin.slot
          pin.counting told.0 given alone refl c.pinned.ensures told.1.searched told.1.records
          told.1.called told.2 (told.1.asked ∙ words)
          (rw (c.requires.known.seated.count)
          (c.shard_number-shard.ensures.value ∙ ap (λ k. shard_of k shards) words))
          told.1.small c.lookup.ensures.seat c.requires.free.0;
      found =
          finds cache old new i shard was is at change c.keep.result hold pin.slot pin.counting
          told.0 given alone refl c.pinned.ensures told.1.searched told.1.records told.1.called
          told.2 (told.1.asked ∙ words) g.T.Tag.fits c.args.key
          (c.shard_number-shard.ensures.value ∙ ap (λ k. shard_of k shards) words)
          (rw words at c.key_to-seeded.ensures.undone) (rw words at told.1);
      missed = tt;
      searched =
          searched_at cache old new i shard was is at change g.T.Tag.fits c.args.key
          (Some c.keep.result)
          (c.shard_number-shard.ensures.value ∙ ap (λ k. shard_of k shards) words) c.lookup.result
          (ap is_some c.in_ok-pin.was) (rw words at c.lookup.ensures.searches);
      stays =
          stays_at cache old new i shard was is at change
          (seeks_still shard.table was.seat is.seat
          (searches_seek (fits_seeded g.T.Tag.fits) shard.table c.key_to-seeded.result.in_shard
          old.used shard.marks c.lookup.result was.effort is.effort was.seat is.seat
          c.lookup.ensures.searches));
      counts =
          does_at cache old new i shard was is at change SameEvictions c.lookup.ensures.counts
          (shard_in cache c.args.key)
          (c.shard_number-shard.ensures.value ∙ ap (λ k. shard_of k shards) words);
      visits =
          visits_at cache old new i shard was is at change 0 c.args.key
          (c.shard_number-shard.ensures.value ∙ ap (λ k. shard_of k shards) words)
          c.lookup.ensures.steps;
      steps =
          looks_at cache old new i shard was is at change was.effort is.effort
          c.lookup.ensures.steps;
    }

pub returns-in_err-pin-clause-stays : goal.returns-in_err-pin-clause-stays
returns-in_err-pin-clause-stays g c =
    let cache = c.args.self.now in
    let old = c.args.client.now in
    let i = c.shard_number-shard.result in
    let shard = c.index.result.now in
    let was = c.index_mut-seat.result.now in
    let is = c.lookup.new.seat in
    let at = is_at cache old i shard was c.requires.known c.shard_number-shard.ensures.inside
    c.index.ensures c.index_mut-seat.ensures.value in
    stays_at cache old (record old { seats = with_item old.seats i is }) i shard was is at
    (record { seats = refl; number = refl; most = refl; seed = refl; capacities = refl })
    (seeks_still shard.table was.seat is.seat
    (searches_seek (fits_seeded g.T.Tag.fits) shard.table c.key_to-seeded.result.in_shard old.used
    shard.marks c.lookup.result was.effort is.effort was.seat is.seat c.lookup.ensures.searches))

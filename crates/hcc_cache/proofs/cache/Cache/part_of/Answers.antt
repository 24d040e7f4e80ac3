use Rattle.std.proofs.Common.{◌≡◌, ◌+◌, List, ℕ, length, refl, arith}
use Rattle.std.specs.Vec.{with_item}
use Rattle.hcc_table.specs.Readings.{part_in, words_across}
use Rattle.hcc_cache.specs.declared.client.Client.{Client}
use Rattle.hcc_cache.proofs.Handles.OneMoreOnPinned.{at_hold, held_within, pin_at, pinned_at, stand_there, told_of}
use Rattle.hcc_cache.proofs.Clients.AtOneShard.{ChangesAt, seated_at, takes_at}
use Rattle.hcc_cache.proofs.Searches.KnownAfterLookup.{IsLeft}
use Rattle.hcc_cache.proofs.Searches.ReadByHandle.{knows_read, reads_at}
use Rattle.hcc_table.proofs.Still.{seeks_still}
use Rattle.hcc_cache.proofs.Clients.ShownAfterwards.{stays_at, stays_same}
use Rattle.hcc_cache.proofs.cache.Cache.part_of.Goals as goal

pub index_mut-seat-requires : goal.index_mut-seat-requires
index_mut-seat-requires g c =
    let within = held_within c.args.handle c.requires.known c.requires.held in
    let length_is = c.args.client.now.seats.ok.0 in
    omega arith

pub index-requires : goal.index-requires
index-requires g c =
    let within = held_within c.args.handle c.requires.known c.requires.held in
    let length_is = c.args.self.now.shards.ok.0 in
    omega arith

pub index-requires-in-Err : goal.index-requires-in-Err
index-requires-in-Err g c =
    stand_there c.args.handle c.requires.known c.requires.held c.in-Err.ensures.standing

pub read_part-requires : goal.read_part-requires
read_part-requires g c =
    let at = at_hold c.args.handle c.requires.known c.requires.held c.index.ensures
    c.index_mut-seat.ensures.value in
    record {
      seat =
          (seated_at c.args.self.now c.args.client.now c.args.client.now c.args.hold.shard
          c.index.result.now c.index_mut-seat.result.now c.index_mut-seat.result.now at).rests;
      slot = (pin_at c.args.handle at c.requires.held c.in-Ok.ensures.pinned).within;
      holds = pinned_at c.args.handle at c.requires.held c.in-Ok.ensures.pinned;
    }

pub returns-in-Ok : goal.returns-in-Ok
returns-in-Ok g c =
    let cache = c.args.self.now in
    let old = c.args.client.now in
    let hold = c.args.hold in
    let shard = c.index.result.now in
    let was = c.index_mut-seat.result.now in
    let at = at_hold c.args.handle c.requires.known c.requires.held c.index.ensures
    c.index_mut-seat.ensures.value in
    let is = c.read_part.new.seat in
    let new : Client g.row.T.Denot = record old { seats = with_item old.seats hold.shard is } in
    let change : ChangesAt old new hold.shard is =
    record { seats = refl; number = refl; most = refl; seed = refl; capacities = refl } in
    let left : IsLeft old new =
    record { handles = refl; alone = refl; held = refl; uses = (refl, refl) } in
    record {
      known =
          knows_read cache old new hold.shard shard was is at change left c.read_part.ensures.view
          c.read_part.ensures.seat;
      reads =
          reads_at cache old new hold.shard shard was is at change left c.read_part.ensures.view
          c.read_part.ensures.counts;
      stays =
          stays_at cache old new hold.shard shard was is at change
          (seeks_still shard.table was.seat is.seat c.read_part.ensures.seeks);
      length =
          told_of c.args.handle at c.requires.held c.in-Ok.ensures.pinned
          (λ (bytes : List ℕ). c.read_part.result.length ≡ length bytes)
          c.read_part.ensures.length;
      given = c.read_part.ensures.given;
      bytes =
          told_of c.args.handle at c.requires.held c.in-Ok.ensures.pinned
          (λ (bytes : List ℕ).
          c.read_part.new.buffer
          ≡ part_in c.args.offset c.read_part.result.given bytes c.args.buffer.now)
          c.read_part.ensures.bytes;
      steps =
          takes_at cache old new hold.shard shard was is at change
          (words_across c.args.offset c.read_part.result.given + 1) c.read_part.ensures.steps;
    }

pub returns-in-Err-clause-stays : goal.returns-in-Err-clause-stays
returns-in-Err-clause-stays g c =
    stays_same c.args.self.now c.args.client.now c.args.client.now refl

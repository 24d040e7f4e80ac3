use Rattle.std.proofs.Common.{◌≡◌, ℕ, Some, refl, sym, ◌∙◌, subst, arith}
use Rattle.std.specs.Vec.{with_item}
use Rattle.hcc_core.proofs.ListLemmas.{read_here}
use Rattle.hcc_rule.specs.Events.{occupancy_done}
use Rattle.hcc_table.specs.Still.{is_still}
use Rattle.hcc_table.proofs.Seeking.{goes_event}
use Rattle.hcc_shard.specs.Callers.{LoadsOccupancy, view_of}
use Rattle.hcc_shard.specs.Following.{IsWitnessOf}
use Rattle.hcc_cache.specs.declared.client.Client.{Client}
use Rattle.hcc_cache.proofs.Clients.AtOneShard.{ChangesAt, counts_none, did_at, is_at, seated_at}
use Rattle.hcc_cache.proofs.Clients.HoldsTheSame.{keeps_same, knows_same, same_all}
use Rattle.hcc_cache.proofs.Clients.Seats.{part_same, steps_set}
use Rattle.hcc_cache.proofs.Clients.ShownAfterwards.{stays_at}
use Rattle.hcc_cache.proofs.HandedBack.AloneAfterwards.{alone_same}
use Rattle.hcc_cache.proofs.cache.Cache.follow.Goals as goal

pub index_mut-seat-requires : goal.index_mut-seat-requires
index_mut-seat-requires g c =
    let count = c.requires.known.seated.count in
    let within = c.requires.witness.within in
    omega arith

pub follow-requires : goal.follow-requires
follow-requires g c =
    let was = c.index_mut-seat.result.now in
    let w = c.requires.witness in
    let at = is_at c.args.self.now c.args.client.now c.args.witness.shard c.index.result.now was
    c.requires.known w.within c.index.ensures c.index_mut-seat.ensures.value in
    let same : w.shard ≡ c.index.result.now =
    let both : Some w.shard ≡ Some c.index.result.now = sym w.shard_is ∙ at.shard_is in cc in
    record {
      seat = (seated_at c.args.self.now c.args.client.now c.args.client.now c.args.witness.shard
          c.index.result.now was was at).rests;
      witness = subst (λ s. IsWitnessOf s c.args.witness.told) same w.witness_is;
    }

pub returns : goal.returns
returns g c =
    let cache = c.args.self.now in
    let old = c.args.client.now in
    let i = c.args.witness.shard in
    let shard = c.index.result.now in
    let was = c.index_mut-seat.result.now in
    let is = c.follow.new.seat in
    let did = c.follow.ensures in
    let at = is_at cache old i shard was c.requires.known c.requires.witness.within
    c.index.ensures c.index_mut-seat.ensures.value in
    let new : Client g.row.T.Denot = record old { seats = with_item old.seats i is } in
    let change : ChangesAt old new i is =
    record { seats = refl; number = refl; most = refl; seed = refl; capacities = refl } in
    let same = same_all (view_of was) (view_of is) did.view in
    record {
      known = knows_same cache old new i shard was is at did.seat same refl
          record { rest = refl; capacity = refl };
      reads = record {
        rests = record {
          all = λ s. part_same (λ v. v) old.seats.items i s was is at.seat_is did.view;
          self = (refl, refl, refl);
          counts = counts_none cache old new i shard was is at change did.counts;
        };
        keeps = keeps_same cache old new i shard was is at did.seat same refl
            record { rest = refl; capacity = refl };
      };
      stays = stays_at cache old new i shard was is at change
          (goes_event shard.table is_still (occupancy_done did.loads.0 (view_of was)) was.seat
          is.seat did.loads.1.1 refl);
      follows = record {
        seat = is;
        seat_is = read_here old.seats.items i was is at.seat_is;
        more = did.follows.0;
        goes_on = did.follows.1;
      };
      loads = did_at cache old new i shard was is at change
          (λ s a b. (count : ℕ) × LoadsOccupancy s count a b) did.loads i refl;
      standing = alone_same old new refl refl;
      steps = steps_set old.seats.items i 1 was is at.seat_is did.steps;
    }

use Rattle.std.proofs.Common.{length, ap, ◌∙◌}
use Rattle.std.specs.Vec.{with_item}
use Rattle.hcc_cache.specs.Sharding.{shard_of}
use Rattle.hcc_cache.proofs.Clients.AtOneShard.{is_at, seated_at}
use Rattle.hcc_cache.proofs.Clients.Seats.{seat_over}
use Rattle.hcc_cache.proofs.cache.Cache.witness.Goals as goal

pub witness-told-requires : goal.witness-told-requires
witness-told-requires g c =
    let was = c.index_mut-seat.result.now in
    let at = is_at c.args.self.now c.args.client.now c.shard_number-shard.result c.index.result.now
    was c.requires c.shard_number-shard.ensures.inside c.index.ensures
    c.index_mut-seat.ensures.value in
    (seated_at c.args.self.now c.args.client.now c.args.client.now c.shard_number-shard.result
    c.index.result.now was was at).rests

pub returns : goal.returns
returns g c =
    let old = c.args.client.now in
    let i = c.shard_number-shard.result in
    let was = c.index_mut-seat.result.now in
    let at = is_at c.args.self.now old i c.index.result.now was c.requires
    c.shard_number-shard.ensures.inside c.index.ensures c.index_mut-seat.ensures.value in
    record {
      same =
          ap (λ seat. record old { seats = with_item old.seats i seat })
          c.witness-told.ensures.same
          ∙ seat_over old i was at.seat_is;
      witness = record {
        within = c.shard_number-shard.ensures.inside;
        shard = c.index.result.now;
        shard_is = at.shard_is;
        witness_is = c.witness-told.ensures.witness;
      };
      tells = record {
        number_is = c.shard_number-shard.ensures.value
            ∙ ap (λ k. shard_of k (length c.args.self.now.shards.items)) c.key_to.ensures.words;
        seat = was;
        seat_is = at.seat_is;
        told = c.witness-told.ensures.told;
      };
    }

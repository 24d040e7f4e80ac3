use Rattle.std.proofs.Common.{◌+◌, ◌*◌, refl, ap, arith}
use Rattle.std.specs.Vec.{with_item}
use Rattle.hcc_shard.specs.Counted.{SameEvictions}
use Rattle.hcc_shard.specs.Gets.{Gets}
use Rattle.hcc_cache.specs.Calls.{shard_in}
use Rattle.hcc_cache.specs.Keys.{fits_seeded}
use Rattle.hcc_cache.specs.Sharding.{key_to}
use Rattle.hcc_cache.proofs.Clients.AtOneShard.{did_at, does_at, is_at, seated_at, takes_for}
use Rattle.hcc_cache.proofs.Searches.KnownAfterLookup.{keeps_left, knows_sought}
use Rattle.hcc_cache.proofs.Searches.ReadByKey.{gets_for, seeks_at}
use Rattle.hcc_cache.proofs.Clients.ShownAfterwards.{stays_at}
use Rattle.hcc_cache.proofs.cache.Cache.get_at.Goals as goal

pub get-requires : goal.get-requires
get-requires g c =
    let cache = c.args.self.now in
    let old = c.args.client.now in
    let i = c.args.shard in
    let was = c.index_mut-seat.result.now in
    let at = is_at cache old i c.index.result.now was c.requires.known
    c.requires.inside c.index.ensures c.index_mut-seat.ensures.value in
    record { seat = (seated_at cache old old i c.index.result.now was was at).rests }

pub returns : goal.returns
returns g c =
    let cache = c.args.self.now in
    let old = c.args.client.now in
    let i = c.args.shard in
    let shard = c.index.result.now in
    let was = c.index_mut-seat.result.now in
    let is = c.get.new.seat in
    let at = is_at cache old i shard was c.requires.known c.requires.inside
    c.index.ensures c.index_mut-seat.ensures.value in
    let words = c.requires.words in
    let there = c.requires.there in
    let alike = at.knows.alike.plans i shard at.shard_is in
    let got : Gets (fits_seeded g.T.Tag.fits) shard (key_to cache.seed c.args.key) c.args.useful
    c.get.result c.args.buffer.now c.get.new.buffer was is =
    rw (← words, ← c.of.ensures) c.get.ensures.gets in
    let sought = c.get.ensures.view in
    record {
      known =
          knows_sought cache old _ i shard was is at
          (record {
            seats = refl;
            number = refl;
            most = refl;
            seed = refl;
            capacities = refl;
          })
          (record { handles = refl; alone = refl; held = refl; uses = (refl, refl) })
          c.get.ensures.seat sought;
      keeps =
          keeps_left cache old _ i shard was is at
          (record {
            seats = refl;
            number = refl;
            most = refl;
            seed = refl;
            capacities = refl;
          })
          (record { handles = refl; alone = refl; held = refl; uses = (refl, refl) })
          sought.records (ap (λ v. v.work.standalones) sought.searched.same);
      seeks =
          seeks_at cache old (record old { seats = with_item old.seats i is }) i shard was is at
          (record {
            seats = refl;
            number = refl;
            most = refl;
            seed = refl;
            capacities = refl;
          })
          g.T.Tag.fits c.args.key there (rw words at c.requires.undone)
          c.args.useful c.args.buffer.now c.get.new.buffer sought;
      got =
          gets_for cache old (record old { seats = with_item old.seats i is }) i shard was is at
          (record {
            seats = refl;
            number = refl;
            most = refl;
            seed = refl;
            capacities = refl;
          })
          g.T.Tag.fits c.args.key there (rw words at c.requires.undone)
          c.args.useful c.args.buffer.now c.get.new.buffer c.get.result got;
      gets =
          did_at cache old _ i shard was is at
          (record {
            seats = refl;
            number = refl;
            most = refl;
            seed = refl;
            capacities = refl;
          })
          (λ s a b. Gets (fits_seeded g.T.Tag.fits) s (key_to cache.seed c.args.key)
          c.args.useful c.get.result c.args.buffer.now c.get.new.buffer a b) got
          (shard_in cache c.args.key) there;
      stays =
          stays_at cache old (record old { seats = with_item old.seats i is }) i shard was is at
          (record {
            seats = refl;
            number = refl;
            most = refl;
            seed = refl;
            capacities = refl;
          })
          c.get.ensures.stays;
      counts =
          does_at cache old _ i shard was is at
          (record {
            seats = refl;
            number = refl;
            most = refl;
            seed = refl;
            capacities = refl;
          })
          SameEvictions c.get.ensures.counts (shard_in cache c.args.key) there;
      steps =
          takes_for cache old (record old { seats = with_item old.seats i is }) i shard was is at
          (record {
            seats = refl;
            number = refl;
            most = refl;
            seed = refl;
            capacities = refl;
          }) 7
          (4 * cache.geometry.slots + (2 * cache.geometry.room + 8))
          (λ v w. 4 * cache.geometry.slots + (2 * cache.geometry.room + 8))
          (shard_in cache c.args.key) there (rw (← alike.0) c.get.ensures.steps) (omega arith);
    }

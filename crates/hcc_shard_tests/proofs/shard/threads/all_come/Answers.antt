use Rattle.std.proofs.Common.{◌≡◌, ap}
use Rattle.hcc_shard_tests.specs.ShardGuests.{IsGuest}
use Rattle.hcc_shard.proofs.Names.{each_more}
use Rattle.hcc_shard_tests.proofs.shard.threads.all_come.Goals as goal

pub loop-number-preserved : goal.loop-number-preserved
loop-number-preserved g c =
    let told = c.comes-guest.ensures in record {
      new = told.new;
      each = rw c.in_ok-push.ensures.items
          (each_more (λ me. (me.shard.now ≡ c.args.shard.now)
          × IsGuest me.shard.now me.seat me.pins.items me.standing.items me.next)
          c.loop-number.all.items c.comes-guest.result c.loop-number.invariant.each
          (ap (λ b. b.now) told.shard, told.keeps));
    }

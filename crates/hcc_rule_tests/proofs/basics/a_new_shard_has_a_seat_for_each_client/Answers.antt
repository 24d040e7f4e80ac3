use Rattle.std.proofs.Common.{refl, arith}
use Rattle.hcc_rule_tests.proofs.basics.a_new_shard_has_a_seat_for_each_client.Goals as goal

pub new-requires : goal.new-requires
new-requires g c = record {
  some_slots = omega arith;
  slots = omega arith;
  power = refl;
  some_room = omega arith;
  room = omega arith;
  some_client = omega arith;
  clients = omega arith;
  capacity_low = omega arith;
}

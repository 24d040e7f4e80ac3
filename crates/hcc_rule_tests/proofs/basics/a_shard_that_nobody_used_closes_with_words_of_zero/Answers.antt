use Rattle.std.proofs.Common.{refl, arith}
use Rattle.hcc_rule_tests.proofs.basics.a_shard_that_nobody_used_closes_with_words_of_zero.Goals as goal

pub new-requires : goal.new-requires
new-requires g c = record {
  some_slots = omega arith;
  slots = omega arith;
  power = refl;
  some_room = omega arith;
  room = omega arith;
  some_client = omega arith;
  clients = omega arith;
  capacity_low = omega arith;
}

use Rattle.std.proofs.Common.{refl}
use Rattle.hcc_cache.proofs.drafting.Draft.put.Goals as goal

pub returns : goal.returns
returns c = record {
  slot = c.free_slot-slot.result;
  entry = record {
    slot = c.free_slot-slot.result;
    key = c.args.seeded.in_shard;
    value = c.args.saved.value;
    charge = c.args.saved.charge;
    uses = c.min.result;
  };
  free = rw (← c.as_slice.ensures.value) c.free_slot-slot.ensures.free;
  reached = rw (← c.as_slice.ensures.value) c.free_slot-slot.ensures.reached;
  here = refl;
  key_is = refl;
  value = refl;
  charged = refl;
  uses = c.min.ensures;
  places = refl;
  count = refl;
  charge = refl;
}

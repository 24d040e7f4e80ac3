-- The values of a cache of objects of what crosses to C.
use Rattle.std.specs.Prelude.{ℕ}
use Rattle.hcc_cache.specs.declared.object_opening.ObjectConfig.{ObjectConfig}
use Rattle.hcc_cache.specs.declared.object_walking.HeldObject.{HeldObject}
use Rattle.hcc_cache.specs.declared.objects.Object.{Object}
use Rattle.hcc_c.specs.declared.object_shapes.CHeldObject.{CHeldObject}
use Rattle.hcc_c.specs.declared.object_shapes.CObject.{CObject}
use Rattle.hcc_c.specs.declared.object_shapes.CObjectConfig.{CObjectConfig}
use Rattle.hcc_c.specs.Shapes.{c_handle_of, words_of}

abbrev pub c_object_of : Object → CObject
c_object_of object = record { address = object.address; kind = object.kind }

abbrev pub object_of : CObject → Object
object_of object = record { address = object.address; kind = object.kind }

abbrev pub c_held_of : (cache : ℕ) → HeldObject → CHeldObject
c_held_of cache held = record {
  handle = c_handle_of cache held.handle;
  key = words_of held.key;
  object = c_object_of held.object;
  charge = held.charge;
}

abbrev pub config_of : CObjectConfig → ObjectConfig
config_of setup = record {
  slots = setup.slots;
  clients = setup.clients;
  handles = setup.handles;
  gone = setup.gone;
  shards = setup.shards;
  capacity = setup.capacity;
  strict = setup.strict;
  marks = setup.marks;
  serials = setup.serials;
  seed = setup.seed;
}

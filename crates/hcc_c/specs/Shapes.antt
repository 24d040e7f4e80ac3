-- The cache's values of what crosses to C.
use Rattle.std.specs.Prelude.{ℕ}
use Rattle.hcc_word.specs.Word.{hit_of, is_visible, releases_of}
use Rattle.hcc_rule.specs.declared.key.Key.{Key as CacheKey}
use Rattle.hcc_shard.specs.declared.entries.ClosedEntry.{ClosedEntry}
use Rattle.hcc_shard.specs.declared.seat.Stats.{Stats as CacheStats}
use Rattle.hcc_cache.specs.declared.config.Config.{Config}
use Rattle.hcc_cache.specs.declared.handle.Handle.{Handle}
use Rattle.hcc_cache.specs.declared.handle.HandleParts.{HandleParts}
use Rattle.hcc_cache.specs.declared.walking.HeldEntry.{HeldEntry}
use Rattle.hcc_c.specs.declared.shapes.Entry.{Entry}
use Rattle.hcc_c.specs.declared.shapes.Key.{Key}
use Rattle.hcc_c.specs.declared.shapes.CHandle.{CHandle}
use Rattle.hcc_c.specs.declared.shapes.CHeldEntry.{CHeldEntry}
use Rattle.hcc_c.specs.declared.shapes.CConfig.{CConfig}
use Rattle.hcc_c.specs.declared.shapes.Stats.{Stats}

abbrev pub key_of : Key → CacheKey
key_of key = record { w0 = key.w0; w1 = key.w1 }

abbrev pub words_of : CacheKey → Key
words_of key = record { w0 = key.w0; w1 = key.w1 }

abbrev pub c_handle_of : (cache : ℕ) → Handle → CHandle
c_handle_of cache handle = record {
  index = handle.index;
  serial = handle.serial;
  client = handle.client;
  cache = cache;
}

abbrev pub c_held_entry_of : (cache : ℕ) → HeldEntry → CHeldEntry
c_held_entry_of cache held = record {
  handle = c_handle_of cache held.handle;
  key = words_of held.key;
  charge = held.charge;
  uses = held.uses;
}

abbrev pub parts_in : CHandle → HandleParts
parts_in c_handle =
    record { client = c_handle.client; index = c_handle.index; serial = c_handle.serial }

abbrev pub config_of : CConfig → Config
config_of setup = record {
  slots = setup.slots;
  room = setup.room;
  clients = setup.clients;
  handles = setup.handles;
  shards = setup.shards;
  capacity = setup.capacity;
  strict = setup.strict;
  marks = setup.marks;
  serials = setup.serials;
  seed = setup.seed;
}

abbrev pub stats_of : CacheStats → Stats
stats_of stats = record {
  probes = stats.probes;
  boosts = stats.boosts;
  evicted = stats.evicted;
  evicted_hit = stats.evicted_hit;
  freed = stats.freed;
  turns = stats.turns;
  corrections = stats.corrections;
  lost = stats.lost;
}

-- an entry of a closed cache, with the fields of its word
abbrev pub entry_of : ClosedEntry → Entry
entry_of left = record {
  key = words_of left.key;
  length = left.len;
  charge = left.charge;
  uses = releases_of left.word;
  visible = is_visible left.word;
  hit = hit_of left.word;
}

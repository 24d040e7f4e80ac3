-- Which caches of objects can be made, and which refusal is told.
use Rattle.std.specs.Prelude.{◌≤◌, Result, Ok, Err, if◌then◌else◌}
use Rattle.hcc_cache.specs.declared.config.Config.{Config}
use Rattle.hcc_cache.specs.declared.errors.NewError.{NewError}
use Rattle.hcc_cache.specs.declared.errors.ObjectNewError.{ObjectNewError}
use Rattle.hcc_cache.specs.declared.errors.ObjectNewError.TheVariants.{Bad, BadGone}
use Rattle.hcc_cache.specs.declared.limits.TheConstants.{FEWEST_GONE, MOST_GONE}
use Rattle.hcc_cache.specs.declared.object_opening.ObjectConfig.{ObjectConfig}
use Rattle.hcc_cache.specs.Configs.{checked, is_within}

-- the same numbers of a cache of bytes, whose slots have one word
abbrev pub plain : ObjectConfig → Config
plain c = record {
  slots = c.slots;
  room = 1;
  clients = c.clients;
  handles = c.handles;
  shards = c.shards;
  capacity = c.capacity;
  strict = c.strict;
  marks = c.marks;
  serials = c.serials;
  seed = c.seed;
}

-- a list may have so many places
abbrev pub AllowsGone : ObjectConfig → Type 0
AllowsGone c = (FEWEST_GONE ≤ c.gone) × (c.gone ≤ MOST_GONE)

-- what a check of these numbers answers
abbrev pub checked_beside : ObjectConfig → Result (Unit {0}) NewError
    → Result (Unit {0}) ObjectNewError
checked_beside c (Ok fine) = if is_within FEWEST_GONE MOST_GONE c.gone then Ok tt else Err BadGone
checked_beside c (Err why) = Err (Bad why)

abbrev pub checked_objects : ObjectConfig → Result (Unit {0}) ObjectNewError
checked_objects c = checked_beside c (checked (plain c))

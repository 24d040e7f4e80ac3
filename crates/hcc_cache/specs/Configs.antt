-- Which caches can be made, which refusal is told, and what each shard of a cache is.
use Rattle.std.specs.Prelude.{◌≡◌, ℕ, ◌+◌, ◌-◌, ◌/◌, ◌%◌, ◌≤◌, ◌&&◌, nat_le, Bool, List, [], ◌∷◌, Result, Ok, Err, if◌then◌else◌}
use Rattle.std.specs.Int.{is_power_of_two}
use Rattle.hcc_core.specs.declared.limits.TheConstants.{MOST_CLIENTS, MOST_HANDLES, MOST_SLOTS, STAMPS_PER_CLIENT}
use Rattle.hcc_rule.specs.declared.geometry.Geometry.{Geometry}
use Rattle.hcc_rule.specs.declared.layout.TheConstants.{FEWEST_SLOTS, MOST_CAPACITY, MOST_ROOM}
use Rattle.hcc_cache.specs.declared.config.Config.{Config}
use Rattle.hcc_cache.specs.declared.limits.TheConstants.{MOST_SHARDS}
use Rattle.hcc_cache.specs.declared.errors.NewError.{NewError}
use Rattle.hcc_cache.specs.declared.errors.NewError.TheVariants.{BadSlots, BadRoom, BadClients, BadHandles, BadShards, BadCapacity, BadSerials}

abbrev pub is_within : (least most n : ℕ) → Bool
is_within least most n = nat_le least n && nat_le n most

abbrev pub is_power_within : (least most n : ℕ) → Bool
is_power_within least most n = is_within least most n && is_power_of_two n

-- whether each number is in its range, beside the refusal where it isn't, in order
abbrev pub judged : Config → List (Bool × NewError)
judged c =
    (is_power_within FEWEST_SLOTS MOST_SLOTS c.slots, BadSlots)
    ∷ (is_within 1 MOST_ROOM c.room, BadRoom)
    ∷ (is_within 1 MOST_CLIENTS c.clients, BadClients)
    ∷ (is_within 1 MOST_HANDLES c.handles, BadHandles)
    ∷ (is_power_within 1 MOST_SHARDS c.shards, BadShards)
    ∷ (is_within 0 MOST_CAPACITY c.capacity, BadCapacity)
    ∷ (is_within 1 STAMPS_PER_CLIENT c.serials, BadSerials)
    ∷ []

-- the first refusal that is due
abbrev pub first_due : List (Bool × NewError) → Result (Unit {0}) NewError
first_due [] = Ok tt
first_due (one ∷ others) = if one.0 then first_due others else Err one.1

-- what a check of these numbers answers
abbrev pub checked : Config → Result (Unit {0}) NewError
checked c = first_due (judged c)

-- Each number is in its range. What divides a power of two is one.
pub record IsAllowed (c : Config) : Type 0 where
  pub some_slots : FEWEST_SLOTS ≤ c.slots
  pub slots : c.slots ≤ MOST_SLOTS
  pub slots_power : MOST_SLOTS % c.slots ≡ 0
  pub some_room : 1 ≤ c.room
  pub room : c.room ≤ MOST_ROOM
  pub some_client : 1 ≤ c.clients
  pub clients : c.clients ≤ MOST_CLIENTS
  pub some_handle : 1 ≤ c.handles
  pub handles : c.handles ≤ MOST_HANDLES
  pub some_shard : 1 ≤ c.shards
  pub shards : c.shards ≤ MOST_SHARDS
  pub shards_power : MOST_SHARDS % c.shards ≡ 0
  pub capacity : c.capacity ≤ MOST_CAPACITY
  pub some_serial : 1 ≤ c.serials
  pub serials : c.serials ≤ STAMPS_PER_CLIENT

-- the size of each shard
abbrev pub shard_geometry : Config → Geometry
shard_geometry c = record { slots = c.slots; room = c.room; clients = c.clients }

-- the capacity of each shard: an equal part of the whole, rounded up
abbrev pub shard_capacity : Config → ℕ
shard_capacity c = (c.capacity + c.shards - 1) / c.shards

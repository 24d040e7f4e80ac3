-- The opening world: all its slots are empty, and no client is live.
use Rattle.std.specs.Prelude.{◌^◌, ◌<◌, ◌≤◌, false, [], None, replicate}
use Rattle.hcc_core.specs.declared.limits.TheConstants.{MOST_SLOTS, MOST_CLIENTS}
use Rattle.hcc_core.specs.declared.setup.Setup.{Setup}
use Rattle.hcc_core.specs.declared.client.Client.{Client}
use Rattle.hcc_core.specs.declared.slot.Slot.{Slot}
use Rattle.hcc_core.specs.declared.slot.Slot.TheVariants as slots
use Rattle.hcc_core.specs.declared.client.Owned.TheVariants as owned
use Rattle.hcc_core.specs.declared.client.Place.TheVariants as places
use Rattle.hcc_core.specs.World.{State}

abbrev pub new_slot : Slot
new_slot = slots.Empty 0

-- a client that did nothing yet
abbrev pub new_client : Client
new_client = record {
  live = false;
  looked = None;
  owned = owned.Nothing;
  trail = [];
  place = places.Absent;
  granted = 0;
  needed = 0;
  freed = 0;
  freed_slots = 0;
  standalones = [];
  stamps = 0;
  dead = [];
}

unfoldable pub opening_of : Setup → State
opening_of setup = record {
  setup = setup;
  slots = replicate setup.slots new_slot;
  clients = replicate setup.clients new_client;
  hand = 0;
}

-- the setups that can be opened: their numbers are in range
pub record CanOpen (setup : Setup) : Type 0 where
  pub some_slot : 1 ≤ setup.slots
  pub slots : setup.slots ≤ MOST_SLOTS
  pub some_client : 1 ≤ setup.clients
  pub clients : setup.clients ≤ MOST_CLIENTS
  pub capacity : setup.capacity < 2 ^ 64

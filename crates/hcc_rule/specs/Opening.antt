-- The views of new seats.
use Rattle.std.specs.Prelude.{ℕ, ◌-◌, true, Option, None, Some, List, [], map, replicate, slice_set}
use Rattle.std.specs.List.{range_with_len}
use Rattle.hcc_core.specs.declared.client.Client.{Client}
use Rattle.hcc_core.specs.declared.slot.Stamp.{Stamp}
use Rattle.hcc_core.specs.Opening.{new_client}
use Rattle.hcc_core.specs.World.{State}
use Rattle.hcc_rule.specs.declared.rule.Plan.{Plan}
use Rattle.hcc_rule.specs.declared.view.Other.{Other}
use Rattle.hcc_rule.specs.declared.view.Made.{Made}
use Rattle.hcc_rule.specs.declared.view.View.{View}
use Rattle.hcc_rule.specs.Images.{entries_in, made_from, maker_of, slots_with}
use Rattle.hcc_rule.specs.Rule.{resting, setup_of}

-- a client that was started with nothing in hand, after it showed and saw this
abbrev pub started : List Made → List Stamp → Client
started made dead = record (resting made dead) { live = true }

-- a client that did nothing yet
abbrev pub unstarted : ℕ → Other
unstarted client = record { client = client; made = []; dead = [] }

-- a view with no history of its own
abbrev pub fresh_view : {T : Type 0} → Option T → Other → List Other → View T
fresh_view tag o others = record {
  tag = tag;
  client = o.client;
  work = started o.made o.dead;
  others = others;
  records = [];
  written = [];
  made = o.made;
  hidden = [];
  takings = 0;
  warm = 0;
  gone = [];
  open_places = 0;
  saw = 0;
  turns = 0;
  met = [];
  seen = [];
  tight = [];
  glimpse = None;
}

-- the first seat of a shard stands for client 0, which made the entries of the image, and may start
-- all others
abbrev pub opening_view : {T : Type 0} → Plan T → View T
opening_view p =
    fresh_view (Some p.tag) (maker_of (entries_in p.image))
    (map unstarted (range_with_len 1 (p.geometry.clients - 1)))

-- the world that a shard begins with: the entries of the image in their slots, and client 0, which
-- made them, started
abbrev pub begun_world : {T : Type 0} → Plan T → State
begun_world p = record {
  setup = setup_of p;
  slots = slots_with p.geometry.slots (entries_in p.image);
  clients =
      slice_set (replicate p.geometry.clients new_client) 0
      (started (made_from 0 (entries_in p.image)) []);
  hand = 0;
}

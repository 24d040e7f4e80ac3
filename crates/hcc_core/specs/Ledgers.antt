-- The steps on the ledgers: places and freed slots, charge, standalone entries, and what is told.
use Rattle.std.specs.Prelude.{ℕ, ◌+◌, ◌-◌, min, Bool, ◌&&◌, ◌||◌, ◌==◌, not, nat_lt, nat_le, []}
use Rattle.std.specs.Prelude.{◌∷◌, ◌++◌, Ok, find, if◌then◌else◌}
use Rattle.std.specs.Option.{ok_or}
use Rattle.std.specs.List.{list_any}
use Rattle.hcc_core.specs.declared.limits.TheConstants.{MOST_USAGE}
use Rattle.hcc_core.specs.declared.setup.Setup.{Setup}
use Rattle.hcc_core.specs.declared.client.Standalone.{Standalone}
use Rattle.hcc_core.specs.declared.client.Client.{Client}
use Rattle.hcc_core.specs.declared.client.Place.{Place}
use Rattle.hcc_core.specs.declared.client.Place.TheVariants as places
use Rattle.hcc_core.specs.declared.event.Reply.TheVariants as replies
use Rattle.hcc_core.specs.declared.event.CoreError.TheVariants.{NotAllowed}
use Rattle.hcc_core.specs.World.{State, is_placed, usage_of, occupancy_of, standing_in, limit_of}
use Rattle.hcc_core.specs.World.{is_absent}
use Rattle.hcc_core.specs.Outcomes.{◌>>=◌, Outcome, allow, live_at, dropped, with_client}

-- Places: enter, slots and quit.

unfoldable pub enter_of : State → ℕ → Outcome
enter_of world client = do
  found ← live_at world client
  absent ← allow (is_absent found.place)
  let room = nat_lt (occupancy_of world) (limit_of world.setup)
  Ok (
    (if room then replies.Granted else replies.Open),
    with_client world client (record found {
      place = (if room then places.Granted else places.Open);
    }),
  )

-- an open place is granted by a slot that was freed
abbrev pub place_granted : Place → Place
place_granted places.Absent = places.Absent
place_granted places.Open = places.Granted
place_granted places.Granted = places.Granted

unfoldable pub slots_of : State → ℕ → Outcome
slots_of world client = do
  found ← live_at world client
  some ← allow (nat_lt 0 found.freed_slots)
  Ok (
    replies.Ok,
    with_client world client (record found {
      freed_slots = 0;
      place = place_granted found.place;
    }),
  )

unfoldable pub quit_of : State → ℕ → Outcome
quit_of world client = do
  found ← live_at world client
  placed ← allow (is_placed found.place)
  Ok (
    replies.Ok,
    with_client world client (record found { place = places.Absent; freed_slots = 0 }),
  )

-- Charge, settle and waive.

-- what a charge is given at once: all of it, or under strict what is left of the capacity
abbrev pub grant_of : Setup → ℕ → ℕ → ℕ
grant_of setup usage charge =
    if setup.strict then min charge (setup.capacity - min usage setup.capacity) else charge

-- nothing granted is left over, and the usage stays within its bound
abbrev pub may_charge : Client → ℕ → ℕ → Bool
may_charge found usage charge =
    found.granted == 0 && found.needed == 0 && nat_le (usage + charge) MOST_USAGE

unfoldable pub charge_by : State → ℕ → ℕ → Outcome
charge_by world client charge = do
  found ← live_at world client
  may ← allow (may_charge found (usage_of world) charge)
  let granted = grant_of world.setup (usage_of world) charge
  Ok (
    replies.Split granted (charge - granted),
    with_client world client (record found { granted = granted; needed = charge - granted }),
  )

-- something was freed, and it covers the need
abbrev pub may_settle : Client → Bool
may_settle found = nat_lt 0 found.freed && nat_le found.needed found.freed

unfoldable pub settle_of : State → ℕ → Outcome
settle_of world client = do
  found ← live_at world client
  may ← allow (may_settle found)
  Ok (
    replies.Ok,
    with_client world client (record found {
      granted = found.granted + found.needed;
      needed = 0;
      freed = 0;
    }),
  )

abbrev pub may_waive : Client → Bool
may_waive found = nat_lt 0 found.granted || nat_lt 0 found.needed || nat_lt 0 found.freed

unfoldable pub waive_of : State → ℕ → Outcome
waive_of world client = do
  found ← live_at world client
  some ← allow (may_waive found)
  Ok (replies.Ok, with_client world client (record found { granted = 0; needed = 0; freed = 0 }))

-- Standalone entries: stand and fall.

abbrev pub is_standing : ℕ → Standalone → Bool
is_standing name s = s.name == name

abbrev pub may_stand : Client → ℕ → ℕ → Bool
may_stand found charge name =
    is_absent found.place && nat_le charge found.granted
    && not (list_any (is_standing name) found.standalones)

unfoldable pub stand_of : State → ℕ → ℕ → ℕ → Outcome
stand_of world client charge name = do
  found ← live_at world client
  may ← allow (may_stand found charge name)
  Ok (
    replies.Ok,
    with_client world client (record found {
      granted = found.granted - charge;
      standalones = found.standalones ++ record { name = name; charge = charge } ∷ [];
    }),
  )

unfoldable pub fall_of : State → ℕ → ℕ → Outcome
fall_of world client name = do
  found ← live_at world client
  gone ← ok_or (find (is_standing name) found.standalones) NotAllowed
  Ok (
    replies.Ok,
    with_client world client (record found {
      freed = found.freed + gone.charge;
      standalones = dropped (is_standing name) found.standalones;
    }),
  )

-- What the ledgers tell.

-- a client that is live is told a number, and nothing changes
abbrev pub told : State → ℕ → ℕ → Outcome
told world client number = do
  found ← live_at world client
  Ok (replies.Count number, world)

unfoldable pub usage_told : State → ℕ → Outcome
usage_told world client = told world client (usage_of world)

unfoldable pub occupancy_told : State → ℕ → Outcome
occupancy_told world client = told world client (occupancy_of world)

unfoldable pub standing_told : State → ℕ → Outcome
standing_told world client = told world client (standing_in world)

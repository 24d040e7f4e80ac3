-- The events on the ledgers keep a world lawful: enter, quit, slots, charge, settle, waive, stand,
-- fall.
use Rattle.std.proofs.Common.{◌≡◌, ℕ, ◌+◌, ◌-◌, min, ◌<◌, ◌≤◌, ◌==◌, Bool, true, false, cond}
use Rattle.std.proofs.Common.{nat_le, nat_lt, Some, slice_get, refl, arith, ◌++◌, [], ◌∷◌, not}
use Rattle.std.specs.List.{find, list_any}
use Rattle.std.proofs.lemmas.Bool.{and_parts, leb-true, ltb-true, eqb-true, false≢true}
use Rattle.hcc_core.specs.declared.limits.TheConstants.{MOST_USAGE}
use Rattle.hcc_core.specs.declared.client.Client.{Client}
use Rattle.hcc_core.specs.declared.client.Standalone.{Standalone}
use Rattle.hcc_core.specs.declared.setup.Setup.{Setup}
use Rattle.hcc_core.specs.declared.client.Place.{Place}
use Rattle.hcc_core.specs.declared.client.Place.TheVariants as places
use Rattle.hcc_core.specs.Sums.{when}
use Rattle.hcc_core.specs.World.{State, charged_to, is_placed, is_granted, occupied_by, usage_of}
use Rattle.hcc_core.specs.World.{occupancy_of, limit_of, is_absent}
use Rattle.hcc_core.specs.Outcomes.{with_client, dropped}
use Rattle.hcc_core.specs.Ledgers.{place_granted, grant_of, may_charge, may_settle, is_standing}
use Rattle.hcc_core.specs.Ledgers.{may_stand}
use Rattle.hcc_core.specs.Lawful.{Lawful, Ledgers, taken_by, taken_in, real_to, real_in}
use Rattle.hcc_core.proofs.SumLemmas.{total-set, total-le, total-append}
use Rattle.hcc_core.proofs.DroppedLemmas.{dropped-total}
use Rattle.hcc_core.proofs.LawfulParts.{ledgers_client}
use Rattle.hcc_core.proofs.LawfulQuiet.{in_ledgers}

absent_place : (place : Place) → is_absent place ≡ true
    → (when (is_placed place) 1 ≡ 0) × (when (is_granted place) 1 ≡ 0)
absent_place places.Absent h = (refl, refl)
absent_place places.Open h = absurd (false≢true h)
absent_place places.Granted h = absurd (false≢true h)

granted_is_placed : (place : Place) → when (is_granted place) 1 ≤ when (is_placed place) 1
granted_is_placed places.Absent = omega arith
granted_is_placed places.Open = omega arith
granted_is_placed places.Granted = omega arith

-- the places taken are within the occupancy
taken-le-occupied : (w : State) → taken_in w.slots w.clients ≤ occupancy_of w
taken-le-occupied w =
    let each = total-le taken_by occupied_by w.clients
    (λ i c h. let one = granted_is_placed c.place in taken_here c one) in
    omega arith
  where
    taken_here : (c : Client) → when (is_granted c.place) 1 ≤ when (is_placed c.place) 1
        → taken_by c ≤ occupied_by c
    taken_here c one = omega arith

-- the place that an enter gets
place_of : Bool → Place
place_of room = cond room places.Granted places.Open

enter_ledgers : (w : State) (client : ℕ) (found : Client) (room : Bool) → Ledgers w
    → slice_get w.clients client ≡ Some found
    → is_absent found.place ≡ true → nat_lt (occupancy_of w) (limit_of w.setup) ≡ room
    → Ledgers (with_client w client (record found { place = cond room places.Granted places.Open }))
enter_ledgers w client found true l at_client absent e =
    let new : Client = record found { place = places.Granted } in
    let before = absent_place found.place absent in
    let ungranted = before.1 in
    let below : occupancy_of w < limit_of w.setup =
    ltb-true (occupancy_of w) (limit_of w.setup) e in
    let within = taken-le-occupied w in
    record {
      real = λ strict. let before = l.real strict in
          let change = total-set real_to w.clients client found new at_client in omega arith;
      usage = let u = l.usage in
          let change = total-set charged_to w.clients client found new at_client in omega arith;
      places = let change = total-set taken_by w.clients client found new at_client in omega arith;
    }
enter_ledgers w client found false l at_client absent e =
    ledgers_client w client found (record found { place = places.Open })
    l at_client (omega arith) (omega arith) (omega arith)

pub lawful_enter : (w : State) (client : ℕ) (found : Client) → Lawful w
    → slice_get w.clients client ≡ Some found
    → is_absent found.place ≡ true
    → Lawful
    (with_client w client
    (record found
    { place = cond (nat_lt (occupancy_of w) (limit_of w.setup)) places.Granted places.Open }))
lawful_enter w client found l at_client absent =
    in_ledgers w client found _ l at_client refl refl refl refl refl
    (enter_ledgers w client found (nat_lt (occupancy_of w) (limit_of w.setup))
    l.ledgers at_client absent refl)

-- an open place takes one of the slots that were freed
granted_by_slots : (place : Place) (freed : ℕ) → nat_lt 0 freed ≡ true
    → when (is_granted (place_granted place)) 1 + 0 ≤ when (is_granted place) 1 + freed
granted_by_slots places.Absent freed some = omega arith
granted_by_slots places.Open freed some = let one : 0 < freed = ltb-true 0 freed some in omega arith
granted_by_slots places.Granted freed some = omega arith

pub lawful_slots : (w : State) (client : ℕ) (found : Client) → Lawful w
    → slice_get w.clients client ≡ Some found
    → nat_lt 0 found.freed_slots ≡ true
    → Lawful
    (with_client w client (record found { freed_slots = 0; place = place_granted found.place }))
lawful_slots w client found l at_client some =
    let new : Client = record found { freed_slots = 0; place = place_granted found.place } in
    in_ledgers w client found new l at_client refl refl refl refl refl
    (ledgers_client w client found new l.ledgers at_client (omega arith)
    (omega arith) (granted_by_slots found.place found.freed_slots some))

-- what is granted at once is no more than what is asked
pub grant-le : (setup : Setup) (usage charge : ℕ) → grant_of setup usage charge ≤ charge
grant-le setup usage charge = by setup.strict
  where
    by : (strict : Bool)
        → cond strict (min charge (setup.capacity - min usage setup.capacity)) charge ≤ charge
    by true = omega arith
    by false = omega arith

-- under strict no more is granted than the usage leaves of the capacity
grant-strict : (setup : Setup) (usage charge : ℕ) → setup.strict ≡ true
    → grant_of setup usage charge ≤ setup.capacity - min usage setup.capacity
grant-strict setup usage charge strict = rw strict (omega arith)

-- the real charge is part of the usage
real-le-usage : (w : State) → real_in w.slots w.clients ≤ usage_of w
real-le-usage w = let each = total-le real_to charged_to w.clients (λ i c h. within c) in
    omega arith
  where
    within : (c : Client) → real_to c ≤ charged_to c
    within c = omega arith

-- what the test of a charge says
pub record MayCharge (w : State) (found : Client) (charge : ℕ) : Type 0 where
  pub nothing_granted : found.granted ≡ 0
  pub nothing_needed : found.needed ≡ 0
  pub room : usage_of w + charge ≤ MOST_USAGE

pub may_charge_parts : (w : State) (found : Client) (charge : ℕ)
    → may_charge found (usage_of w) charge ≡ true → MayCharge w found charge
may_charge_parts w found charge h =
    let a = and_parts _ (nat_le (usage_of w + charge) MOST_USAGE) h in
    let b = and_parts (found.granted == 0) (found.needed == 0) a.0 in
    record {
      nothing_granted = eqb-true found.granted 0 b.0;
      nothing_needed = eqb-true found.needed 0 b.1;
      room = leb-true (usage_of w + charge) MOST_USAGE a.1;
    }

pub lawful_charge : (w : State) (client charge : ℕ) (found : Client) → Lawful w
    → slice_get w.clients client ≡ Some found
    → may_charge found (usage_of w) charge ≡ true
    → Lawful (with_client w client (record found {
      granted = grant_of w.setup (usage_of w) charge;
      needed = charge - grant_of w.setup (usage_of w) charge;
    }))
lawful_charge w client charge found l at_client may =
    let granted : ℕ = grant_of w.setup (usage_of w) charge in
    let new : Client = record found { granted = granted; needed = charge - granted } in
    let parts = may_charge_parts w found charge may in
    let within : granted ≤ charge = grant-le w.setup (usage_of w) charge in
    in_ledgers w client found new l at_client refl refl refl refl refl (record {
      usage =
          let change = total-set charged_to w.clients client found new at_client in
          let room = parts.room in
          let none = parts.nothing_granted in
          let no_need = parts.nothing_needed in
          omega arith;
      real = λ strict.
          let before = l.ledgers.real strict in
          let change = total-set real_to w.clients client found new at_client in
          let none = parts.nothing_granted in
          let less = real-le-usage w in
          let capped : granted ≤ w.setup.capacity - min (usage_of w) w.setup.capacity =
          grant-strict w.setup (usage_of w) charge strict in
          omega arith;
      places =
          let before = l.ledgers.places in
          let change = total-set taken_by w.clients client found new at_client in
          omega arith;
    })

pub lawful_settle : (w : State) (client : ℕ) (found : Client) → Lawful w
    → slice_get w.clients client ≡ Some found
    → may_settle found ≡ true
    → Lawful
    (with_client w client
    (record found { granted = found.granted + found.needed; needed = 0; freed = 0 }))
lawful_settle w client found l at_client may =
    let new : Client =
    record found { granted = found.granted + found.needed; needed = 0; freed = 0 } in
    let covered : found.needed ≤ found.freed =
    leb-true found.needed found.freed
    (and_parts (nat_lt 0 found.freed) (nat_le found.needed found.freed) may).1 in
    in_ledgers w client found new l at_client refl refl refl refl refl
    (ledgers_client w client found new l.ledgers at_client (omega arith)
    (omega arith) (omega arith))

pub lawful_waive : (w : State) (client : ℕ) (found : Client) → Lawful w
    → slice_get w.clients client ≡ Some found
    → Lawful (with_client w client (record found { granted = 0; needed = 0; freed = 0 }))
lawful_waive w client found l at_client =
    let new : Client = record found { granted = 0; needed = 0; freed = 0 } in
    in_ledgers w client found new l at_client refl refl refl refl refl
    (ledgers_client w client found new l.ledgers at_client (omega arith)
    (omega arith) (omega arith))

pub lawful_quit : (w : State) (client : ℕ) (found : Client) → Lawful w
    → slice_get w.clients client ≡ Some found
    → Lawful (with_client w client (record found { place = places.Absent; freed_slots = 0 }))
lawful_quit w client found l at_client =
    let new : Client = record found { place = places.Absent; freed_slots = 0 } in
    in_ledgers w client found new l at_client refl refl refl refl refl
    (ledgers_client w client found new l.ledgers at_client (omega arith)
    (omega arith) (omega arith))

-- what the test of a stand says of the charge
pub may_stand_charge : (found : Client) (charge name : ℕ) → may_stand found charge name ≡ true
    → charge ≤ found.granted
may_stand_charge found charge name h =
    let a = and_parts _ (not (list_any (is_standing name) found.standalones)) h in
    let b = and_parts (is_absent found.place) (nat_le charge found.granted) a.0 in
    leb-true charge found.granted b.1

pub lawful_stand : (w : State) (client charge name : ℕ) (found : Client) → Lawful w
    → slice_get w.clients client ≡ Some found
    → may_stand found charge name ≡ true
    → Lawful (with_client w client (record found {
      granted = found.granted - charge;
      standalones = found.standalones ++ record { name = name; charge = charge } ∷ [];
    }))
lawful_stand w client charge name found l at_client may =
    let one : Standalone = record { name = name; charge = charge } in
    let new : Client =
    record found {
      granted = found.granted - charge;
      standalones = found.standalones ++ one ∷ [];
    } in
    let enough = may_stand_charge found charge name may in
    let sum = total-append (λ (s : Standalone). s.charge) found.standalones (one ∷ []) in
    in_ledgers w client found new l at_client refl refl refl refl refl
    (ledgers_client w client found new l.ledgers at_client (omega arith)
    (omega arith) (omega arith))

pub lawful_fall : (w : State) (client name : ℕ) (found : Client) (gone : Standalone) → Lawful w
    → slice_get w.clients client ≡ Some found
    → find (is_standing name) found.standalones ≡ Some gone
    → Lawful (with_client w client (record found {
      freed = found.freed + gone.charge;
      standalones = dropped (is_standing name) found.standalones;
    }))
lawful_fall w client name found gone l at_client there =
    let new : Client =
    record found {
      freed = found.freed + gone.charge;
      standalones = dropped (is_standing name) found.standalones;
    } in
    let sum = dropped-total (is_standing name) (λ (s : Standalone). s.charge)
    found.standalones gone there in
    in_ledgers w client found new l at_client refl refl refl refl refl
    (ledgers_client w client found new l.ledgers at_client (omega arith)
    (omega arith) (omega arith))

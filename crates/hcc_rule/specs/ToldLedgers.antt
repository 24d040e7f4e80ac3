-- What each step on a ledger word or the hand tells its seat, by the word that it found.
use Rattle.std.specs.Prelude.{◌≡◌, ℕ, ◌+◌, ◌-◌, ◌*◌, ◌^◌, ◌<◌, ◌≤◌, true, nat_lt, [], ◌∷◌, ◌++◌, length, if◌then◌else◌, Option, Some}
use Rattle.atomic_table.specs.Table.{Step}
use Rattle.hcc_core.specs.declared.setup.Setup.{Setup}
use Rattle.hcc_core.specs.declared.client.Place.{Place}
use Rattle.hcc_core.specs.declared.client.Place.TheVariants as places
use Rattle.hcc_core.specs.declared.client.Client.{Client}
use Rattle.hcc_core.specs.Lawful.{real_to}
use Rattle.hcc_core.specs.World.{charged_to, occupied_by, standing_of, limit_of}
use Rattle.hcc_core.specs.Outcomes.{dropped}
use Rattle.hcc_core.specs.Ledgers.{grant_of, place_granted, is_standing}
use Rattle.hcc_rule.specs.declared.view.Record.{Record}
use Rattle.hcc_rule.specs.declared.view.Done.{Done}
use Rattle.hcc_rule.specs.declared.view.View.{View}
use Rattle.hcc_rule.specs.Views.{charge_made, Each}
use Rattle.hcc_rule.specs.Records.{charge_held, different}
use Rattle.hcc_rule.specs.Told.{Held}
use Rattle.hcc_rule.specs.Events.{charge_done, enter_done, fall_done, occupancy_done, quit_done, settle_done, slots_done, stand_done, standing_done, turn_done, usage_done, waive_done}

-- what of a charge is not granted at once
abbrev pub needed_of : Setup → (usage charge : ℕ) → ℕ
needed_of setup usage charge = charge - grant_of setup usage charge

-- the place that an enter gets, by the occupancy that it found
abbrev pub place_at : Setup → (occupancy : ℕ) → Place
place_at setup occupancy =
    if nat_lt occupancy (limit_of setup) then places.Granted else places.Open

-- all that a client may take back from the usage
abbrev pub waived : Client → ℕ
waived client = client.granted + client.needed + client.freed

module _ {T : Type 0} where
  -- Loads: the client's own part is in the answer. In the usage and in the occupancy the entries
  -- that it holds are, too, each once.
  abbrev pub after_usage : (word : ℕ) → View T → View T
  after_usage word v = record v { seen = v.seen ++ word ∷ [] }

  pub record Charged (setup : Setup) (v : View T) (word : ℕ) : Type 0 where
    pub entries : charged_to v.work + charge_held v.records ≤ word
    pub held : Each (λ (r : Record). charged_to v.work + r.entry.charge ≤ word) v.records
    pub low : word < 2 ^ 60
    -- under strict the client's real charge, with the entries that it holds, is within the capacity
    pub real : setup.strict ≡ true → real_to v.work + charge_held v.records ≤ setup.capacity
    -- and the word is above it by what clients still need, less than 2^32 each
    pub most : setup.strict ≡ true
        → word ≤ setup.capacity + v.work.needed + 2 ^ 32 * (setup.clients - 1)
    -- a client that is alone made all entries: the word is at most their charges, with what it has
    -- in hand
    pub alone : setup.clients ≡ 1 → word ≤ charged_to v.work + charge_made v

  abbrev pub usages : Setup → Step (Unit {0}) → Held T → ℕ → Held T → Option Done → Type 0
  usages setup step me word after act =
      (after.1 ≡ me.1) × (after.0 ≡ after_usage word me.0) × Charged setup me.0 word
      × (act ≡ Some (usage_done word me.0))

  -- A client that is alone made all entries, and took those that are gone.
  pub record Occupied (setup : Setup) (v : View T) (word : ℕ) : Type 0 where
    pub entries : occupied_by v.work + length (different v.records) ≤ word
    pub low : word ≤ limit_of setup + setup.clients
    pub alone : setup.clients ≡ 1 → word + v.takings ≡ length v.made + occupied_by v.work

  abbrev pub occupancies : Setup → Step (Unit {0}) → Held T → ℕ → Held T → Option Done → Type 0
  occupancies setup step me word after act =
      (after.1 ≡ me.1) × (after.0 ≡ me.0) × Occupied setup me.0 word
      × (act ≡ Some (occupancy_done word me.0))

  abbrev pub standings : Setup → Step (Unit {0}) → Held T → ℕ → Held T → Option Done → Type 0
  standings setup step me word after act =
      (after.1 ≡ me.1) × (after.0 ≡ me.0) × (standing_of me.0.work ≤ word) × (word < 2 ^ 60)
      × (setup.clients ≡ 1 → word ≡ standing_of me.0.work)
      × (setup.strict ≡ true
      → word + me.0.work.granted + me.0.work.freed + charge_held me.0.records ≤ setup.capacity)
      × (act ≡ Some (standing_done word me.0))

  -- A turn of the hand.
  abbrev pub after_turn : View T → View T
  after_turn v = record v { turns = v.turns + 1 }

  abbrev pub turns : Step (Unit {0}) → Held T → ℕ → Held T → Option Done → Type 0
  turns step me word after act = (after.1 ≡ me.1) × (after.0 ≡ after_turn me.0)
      × (act ≡ Some (turn_done word me.0))

  -- Add to the usage: what is granted at once, and what is needed beside.
  abbrev pub after_charge : Setup → (charge word : ℕ) → View T → View T
  after_charge setup charge word v = record v {
    work = record v.work {
      granted = grant_of setup word charge;
      needed = needed_of setup word charge;
    };
    tight = (if nat_lt 0 (needed_of setup word charge) then v.tight ++ charge ∷ [] else v.tight);
  }

  abbrev pub charges : Setup → Step (Unit {0}) → Held T → ℕ → Held T → Option Done → Type 0
  charges setup step me word after act =
      (after.1 ≡ me.1) × (after.0 ≡ after_charge setup step.first word me.0)
      × Charged setup me.0 word
      × (act ≡ Some (charge_done setup step.first word me.0))

  -- Take from the usage.
  abbrev pub after_settle : View T → View T
  after_settle v = record v {
    work = record v.work { granted = v.work.granted + v.work.needed; needed = 0; freed = 0 };
  }

  abbrev pub settles : Step (Unit {0}) → Held T → ℕ → Held T → Option Done → Type 0
  settles step me word after act = (after.1 ≡ me.1) × (after.0 ≡ after_settle me.0)
      × (act ≡ Some (settle_done me.0))

  abbrev pub after_waive : View T → View T
  after_waive v = record v { work = record v.work { granted = 0; needed = 0; freed = 0 } }

  abbrev pub waives : Step (Unit {0}) → Held T → ℕ → Held T → Option Done → Type 0
  waives step me word after act = (after.1 ≡ me.1) × (after.0 ≡ after_waive me.0)
      × (act ≡ Some (waive_done me.0))

  -- Add to the occupancy.
  abbrev pub after_enter : Setup → (word : ℕ) → View T → View T
  after_enter setup word v = record v {
    work = record v.work { place = place_at setup word };
    open_places = (if nat_lt word (limit_of setup) then v.open_places else v.open_places + 1);
  }

  abbrev pub enters : Setup → Step (Unit {0}) → Held T → ℕ → Held T → Option Done → Type 0
  enters setup step me word after act =
      (after.1 ≡ me.1) × (after.0 ≡ after_enter setup word me.0)
      × Occupied setup me.0 word × (word < limit_of setup + setup.clients)
      × (act ≡ Some (enter_done setup word me.0))

  -- Take from the occupancy.
  abbrev pub after_slots : View T → View T
  after_slots v = record v {
    work = record v.work { freed_slots = 0; place = place_granted v.work.place };
  }

  abbrev pub gives_slots : Step (Unit {0}) → Held T → ℕ → Held T → Option Done → Type 0
  gives_slots step me word after act = (after.1 ≡ me.1) × (after.0 ≡ after_slots me.0)
      × (act ≡ Some (slots_done me.0))

  abbrev pub after_quit : View T → View T
  after_quit v = record v { work = record v.work { place = places.Absent; freed_slots = 0 } }

  abbrev pub quits : Step (Unit {0}) → Held T → ℕ → Held T → Option Done → Type 0
  quits step me word after act = (after.1 ≡ me.1) × (after.0 ≡ after_quit me.0)
      × (act ≡ Some (quit_done me.0))

  -- Add to what stands, and take from it.
  abbrev pub after_stand : (name charge : ℕ) → View T → View T
  after_stand name charge v = record v {
    work = record v.work {
      granted = v.work.granted - charge;
      standalones = v.work.standalones ++ record { name = name; charge = charge } ∷ [];
    };
  }

  abbrev pub stands : (name : ℕ) → Step (Unit {0}) → Held T → ℕ → Held T → Option Done → Type 0
  stands name step me word after act =
      (after.1 ≡ me.1) × (after.0 ≡ after_stand name step.first me.0)
      × (act ≡ Some (stand_done name step.first me.0))

  abbrev pub after_fall : (name charge : ℕ) → View T → View T
  after_fall name charge v = record v {
    work = record v.work {
      freed = v.work.freed + charge;
      standalones = dropped (is_standing name) v.work.standalones;
    };
  }

  abbrev pub falls : (name : ℕ) → Step (Unit {0}) → Held T → ℕ → Held T → Option Done → Type 0
  falls name step me word after act =
      (after.1 ≡ me.1) × (after.0 ≡ after_fall name step.first me.0)
      × (act ≡ Some (fall_done name me.0))

-- What an insertion needs, and what it leaves of a view.
use Rattle.std.specs.Prelude.{◌≡◌, ℕ, ◌+◌, ◌*◌, ◌<◌, ◌≤◌, ◌||◌, Bool, true, nat_le, List, [], ◌∷◌, ◌++◌, Option, Some, None, Result, Ok, Err}
use Rattle.std.specs.List.{list_any}
use Rattle.hcc_core.specs.declared.client.Owned.TheVariants as owned
use Rattle.hcc_core.specs.declared.client.Place.TheVariants as places
use Rattle.hcc_core.specs.declared.client.Standalone.{Standalone}
use Rattle.hcc_core.specs.declared.limits.TheConstants.{MOST_COUNTDOWN}
use Rattle.hcc_core.specs.Sums.{when}
use Rattle.hcc_rule.specs.declared.key.Key.{Key}
use Rattle.hcc_rule.specs.declared.rule.Plan.{Plan}
use Rattle.hcc_rule.specs.declared.steps.shows.Draft.{Draft}
use Rattle.hcc_rule.specs.declared.view.Made.{Made}
use Rattle.hcc_rule.specs.declared.view.Record.{Record}
use Rattle.hcc_rule.specs.declared.view.View.{View}
use Rattle.hcc_rule.specs.Gone.{Takes}
use Rattle.hcc_rule.specs.Rule.{IsRight}
use Rattle.hcc_rule.specs.ToldOwners.{first_records, made_of, shown_entry}
use Rattle.hcc_table.specs.Inserted.{IsPlaced, Tried}
use Rattle.hcc_table.specs.Searched.{Grows, is_key}
use Rattle.hcc_charge.specs.declared.reserving.Refused.{Refused}
use Rattle.hcc_charge.specs.declared.reserving.Refused.TheVariants.{TooLarge, CapacityFull, OccupancyFull}
use Rattle.hcc_charge.specs.Evicted.{asking, reserving}
use Rattle.hcc_charge.specs.Reserved.{Shortage, loaded, needed_by, short_of, still_needed, sweeping_between}
use Rattle.hcc_shard.specs.declared.inserting.Inserted.{Inserted}
use Rattle.hcc_shard.specs.declared.inserting.Inserted.TheVariants as inserted
use Rattle.hcc_shard.specs.declared.inserting.Pinned.{Pinned}
use Rattle.hcc_shard.specs.declared.inserting.Pinned.TheVariants as pinned
use Rattle.hcc_shard.specs.Seated.{IsNext}

-- the most atomic steps of an insertion, whatever it frees: the reservation, the search for a slot,
-- and what gives back or keeps what was reserved; where so many loads put an entry on the list
abbrev pub inserting_listed : (slots room loads : ℕ) → ℕ
inserting_listed slots room loads = reserving slots loads + 8 * slots + room + 3

abbrev pub inserting : (slots room : ℕ) → ℕ
inserting slots room = inserting_listed slots room 0

-- the most of its steps, beside 7 for each probe, by what the view counts as turned and taken
abbrev pub listed_between : {T : Type 0} → (slots room loads : ℕ) → View T → View T → ℕ
listed_between slots room loads v w =
    sweeping_between (slots + loads) v w + slots + room + asking + 3

abbrev pub inserting_between : {T : Type 0} → (slots room : ℕ) → View T → View T → ℕ
inserting_between slots room v w = listed_between slots room 0 v w

-- What a client has that may insert an entry: a value that is right for the key, a charge that
-- isn't 0, a countdown of 1 to 3, and a serial above those before.
pub record IsInsertable {T : Type 0} (fits : T → Key → List ℕ → Type 0) (p : Plan T) (draft : Draft)
    (value : List ℕ) (v : View T) : Type 0 where
  pub right : IsRight fits p.tag p.geometry.room (made_of draft value)
  pub paid : 0 < draft.charge
  pub some : 1 ≤ draft.countdown
  pub few : draft.countdown ≤ MOST_COUNTDOWN
  pub next : IsNext draft.serial v

-- Why an entry isn't placed: the shard was full, the key was met, or as many slots as there are
-- were tried.
abbrev pub has_reason : (slots : ℕ) → (full : Bool) → (tries : ℕ) → Key → List Key → Bool
has_reason slots full tries key met = full || list_any (is_key key) met || nat_le slots tries

-- the standalone entries with that of a draft
abbrev pub with_draft : Draft → List Standalone → List Standalone
with_draft draft standalones =
    standalones ++ record { name = draft.serial; charge = draft.charge } ∷ []

module _ {T : Type 0} where
  -- An entry that was reserved for wasn't placed: its key was met, or all slots were tried.
  pub record IsUnplaced (slots : ℕ) (key : Key) (v w : View T) : Type 0 where
    pub tried : Tried v w
    pub met : List Key
    pub met_is : w.met ≡ v.met ++ met
    pub tries : ℕ
    pub saw_is : w.saw ≡ v.saw + tries
    pub why : (list_any (is_key key) met || nat_le slots tries) ≡ true

  -- The view after an entry that was reserved for was put into the table, by the slot.
  abbrev pub PutBy : (slots : ℕ) → Draft → List ℕ → Option ℕ → View T → View T → Type 0
  PutBy slots draft value (Some slot) v w = (i : ℕ) × IsPlaced slots slot i draft value v w
  PutBy slots draft value None v w = IsUnplaced slots draft.key v w

  -- An insertion was tried, and the client has nothing in hand again. These are its count of
  -- stamps, its standalone entries, its records and its made entries. It counts what its
  -- reservation found and evicted, which keys it met and how many slots it tried that weren't
  -- empty. None of the entries that it took was Shown with uses left. All else stays.
  pub record Tries (had has : Bool) (slots capacity : ℕ) (strict : Bool) (charge stamps : ℕ)
      (standalones : List Standalone) (records : List Record) (made : List Made)
      (v w : View T) : Type 0 where
    pub shortage : Shortage had has slots capacity strict charge
    pub met : List Key
    pub tries : ℕ
    pub same : w ≡ record v {
      work = record v.work {
        looked = w.work.looked;
        owned = owned.Nothing;
        trail = [];
        place = places.Absent;
        granted = 0;
        needed = 0;
        freed = 0;
        freed_slots = 0;
        standalones = standalones;
        stamps = stamps;
        dead = w.work.dead;
      };
      records = records;
      written = w.written;
      made = made;
      takings = v.takings + shortage.swept.slots;
      gone = w.gone;
      open_places = v.open_places + when shortage.full 1;
      saw = v.saw + tries;
      turns = v.turns + shortage.swept.turns;
      met = v.met ++ met;
      seen = v.seen ++ loaded strict shortage.used;
      tight = v.tight ++ short_of (needed_by strict capacity shortage.used charge) charge;
      glimpse = w.glimpse;
    }
    pub dead : Grows v.work.dead w.work.dead
    -- which entries its reservation evicted
    pub taken : Takes shortage.swept.slots shortage.swept.charge v w

  module _ (had has : Bool) (slots capacity : ℕ) (strict : Bool) (draft : Draft) where
    -- The newest entry that the client made is this, on a slot of the shard, and it keeps a
    -- reference on it where the draft has a name.
    pub record Shows (value : List ℕ) (slot : ℕ) (v w : View T) : Type 0 where
      pub within : slot < slots
      pub tries : Tries had has slots capacity strict draft.charge (v.work.stamps + 1)
          v.work.standalones
          (v.records ++ first_records slot draft.name (shown_entry v (made_of draft value)))
          (v.made ++ made_of draft value ∷ []) v w

    -- No entry was made, and these standalone entries stand.
    abbrev pub MakesNoEntry : List Standalone → View T → View T → Type 0
    MakesNoEntry standalones v w =
        Tries had has slots capacity strict draft.charge v.work.stamps standalones v.records v.made
        v w

    -- nothing was placed, for one of the reasons
    pub record IsUnshown (standalones : List Standalone) (v w : View T) : Type 0 where
      pub tries : MakesNoEntry standalones v w
      pub reason : has_reason slots tries.shortage.full tries.tries draft.key tries.met ≡ true

    -- The view after a refused insertion.
    abbrev pub RefusedBy : Refused → View T → View T → Type 0
    RefusedBy TooLarge v w = (strict ≡ true) × (capacity < draft.charge) × (w ≡ v)
    RefusedBy CapacityFull v w =
        (m : MakesNoEntry v.work.standalones v w) × (strict ≡ true)
        × (w.tight ≡ v.tight ++ draft.charge ∷ [])
        × (m.shortage.swept.charge < still_needed capacity m.shortage.used draft.charge)
    RefusedBy OccupancyFull v w =
        MakesNoEntry v.work.standalones v w × (strict ≡ true)
        × (v.open_places < w.open_places) × (w.takings ≡ v.takings) × (w.tight ≡ v.tight)

    -- The view after an insertion, by its answer.
    abbrev pub InsertedBy : List ℕ → Result Inserted Refused → View T → View T → Type 0
    InsertedBy value (Ok inserted.Placed) v w = (slot : ℕ) × Shows value slot v w
    InsertedBy value (Ok inserted.Dropped) v w = IsUnshown v.work.standalones v w
    InsertedBy value (Err why) v w = RefusedBy why v w

    -- The view after one that keeps a reference: a record more, or a standalone entry.
    abbrev pub PinnedBy : List ℕ → Result Pinned Refused → View T → View T → Type 0
    PinnedBy value (Ok (pinned.Placed pin)) v w =
        Shows value pin.slot v w × (pin.name ≡ draft.serial) × (pin.counting ≡ true)
    PinnedBy value (Ok pinned.Standalone) v w =
        IsUnshown (with_draft draft v.work.standalones) v w
    PinnedBy value (Err why) v w = RefusedBy why v w

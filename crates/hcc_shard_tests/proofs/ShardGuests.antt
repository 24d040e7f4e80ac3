-- The pins and the standalone entries of the clients of `hcc_shard` after a call.
use Rattle.std.proofs.Common.{◌≡◌, ℕ, suc, ◌+◌, ◌<◌, ◌≤◌, ◌==◌, ◌++◌, cond, Bool, true, false, List, [], ◌∷◌, map, Option, Some, None, is_some, Result, Ok, Err, IfSome, IsSomeAnd, get_or, length, remove, position, slice_index, sym, subst, refl, ap, ◌∙◌, append-nil, arith, eqb-true}
use Rattle.std.specs.List.{find}
use Rattle.hcc_core.specs.declared.client.Standalone.{Standalone}
use Rattle.hcc_core.specs.Ledgers.{is_standing}
use Rattle.hcc_core.specs.Outcomes.{dropped}
use Rattle.hcc_core.specs.Sums.{total, when}
use Rattle.hcc_core.proofs.DroppedLemmas.{remove_at}
use Rattle.hcc_rule.specs.declared.geometry.Geometry.{Geometry}
use Rattle.hcc_rule.specs.declared.image.ImageEntry.{ImageEntry}
use Rattle.hcc_rule.specs.declared.key.Key.{Key}
use Rattle.hcc_rule.specs.declared.rule.Plan.{Plan}
use Rattle.hcc_rule.specs.declared.steps.shows.Draft.{Draft}
use Rattle.hcc_rule.specs.declared.view.Other.{Other}
use Rattle.hcc_rule.specs.declared.view.Record.{Record}
use Rattle.hcc_rule.specs.declared.view.View.{View}
use Rattle.hcc_rule.specs.Callers.{clients_of}
use Rattle.hcc_rule.specs.Images.{made_from, maker_of}
use Rattle.hcc_rule.specs.Opening.{unstarted}
use Rattle.hcc_rule.specs.Rule.{IsAbove}
use Rattle.hcc_rule.specs.Seats.{view}
use Rattle.hcc_rule.specs.Views.{Each, is_called, named_by}
use Rattle.hcc_rule.specs.Records.{record_in}
use Rattle.hcc_rule.proofs.Images.Fillings.{made_length}
use Rattle.hcc_table.specs.declared.pins.Pin.{Pin}
use Rattle.hcc_table.specs.Pins.{IsOf, IsPinned}
use Rattle.hcc_table.specs.Searched.{IsFound, IsMissed, Searched}
use Rattle.hcc_rule.specs.ToldOwners.{first_records, made_of, shown_entry}
use Rattle.hcc_charge.specs.Settled.{fallen}
use Rattle.hcc_charge.specs.declared.reserving.Refused.{Refused}
use Rattle.hcc_charge.specs.declared.reserving.Refused.TheVariants.{TooLarge, CapacityFull, OccupancyFull}
use Rattle.hcc_shard.specs.declared.seat.ShardSeat.{ShardSeat}
use Rattle.hcc_shard.specs.declared.shard.Shard.{Shard}
use Rattle.hcc_shard_tests.specs.ShardGuests.{AreHome, FitsAny, IsCounted, IsDrafted, IsGuest, is_pin, pin_of}
use Rattle.hcc_shard.specs.Closed.{AreBack, HoldsNothing}
use Rattle.hcc_shard.specs.Inserted.{InsertedBy, IsInsertable, IsUnshown, RefusedBy, Shows, Tries, with_draft}
use Rattle.hcc_shard.specs.Referred.{IsReleased}
use Rattle.hcc_shard.specs.Seated.{AreBegun, AreNew, IsBegun, IsKept, IsNew, Rests}
use Rattle.hcc_shard.specs.declared.inserting.Inserted.{Inserted}
use Rattle.hcc_shard.specs.declared.inserting.Inserted.TheVariants as inserted
use Rattle.hcc_shard.proofs.Names.{above_later, above_made, above_more, each_as, each_left, each_more, found_if, length_more}
use Rattle.hcc_shard_tests.proofs.Bytes.{each_from}

-- The pin of a name is that of the record of this name.
found_pin : (geometry : Geometry) (name : ℕ) (pin : Pin) (rs : List Record)
    → Each (IsKept geometry) rs → find (is_pin name) (map pin_of rs) ≡ Some pin
    → (pin.slot < geometry.slots) × (pin.name ≡ name) × IsSomeAnd (record_in name rs) (IsOf pin)
found_pin geometry name pin [] kept some = cc
found_pin geometry name pin (r ∷ rs) kept some =
    by (r.name == name) refl (found_pin geometry name pin rs kept.1) some
  where
    by : (b : Bool) → (r.name == name) ≡ b
        → (find (is_pin name) (map pin_of rs) ≡ Some pin
        → (pin.slot < geometry.slots) × (pin.name ≡ name)
        × IsSomeAnd (record_in name rs) (IsOf pin))
        → cond b (Some (pin_of r)) (find (is_pin name) (map pin_of rs)) ≡ Some pin
        → (pin.slot < geometry.slots) × (pin.name ≡ name)
        × IsSomeAnd (cond b (Some r) (record_in name rs)) (IsOf pin)
    by true is later some =
        let same : pin_of r ≡ pin = cc in
        subst (λ (p : Pin). (p.slot < geometry.slots) × (p.name ≡ name) × IsOf p r) same
        (kept.0.on, eqb-true r.name name is, (refl, kept.0.single, refl))
    by false is later some = later some

-- One goes with the other.
dropped_pins : (name : ℕ) (rs : List Record)
    → dropped (is_pin name) (map pin_of rs) ≡ map pin_of (dropped (is_called name) rs)
dropped_pins name [] = refl
dropped_pins name (r ∷ rs) = by (r.name == name) (dropped_pins name rs)
  where
    by : (b : Bool)
        → dropped (is_pin name) (map pin_of rs) ≡ map pin_of (dropped (is_called name) rs)
        → cond b (map pin_of rs) (pin_of r ∷ dropped (is_pin name) (map pin_of rs))
        ≡ map pin_of (cond b rs (r ∷ dropped (is_called name) rs))
    by true rest = refl
    by false rest = ap (λ ps. pin_of r ∷ ps) rest

-- One more.
more_pins : (rs : List Record) (r : Record)
    → map pin_of rs ++ pin_of r ∷ [] ≡ map pin_of (rs ++ r ∷ [])
more_pins [] r = refl
more_pins (q ∷ qs) r = ap (λ ps. pin_of q ∷ ps) (more_pins qs r)

-- The standalone entry that is found has the name.
found_standing : (name : ℕ) (alone : Standalone) (ss : List Standalone)
    → find (is_standing name) ss ≡ Some alone → alone.name ≡ name
found_standing name alone [] some = cc
found_standing name alone (s ∷ ss) some =
    by (s.name == name) refl (found_standing name alone ss) some
  where
    by : (b : Bool) → (s.name == name) ≡ b
        → (find (is_standing name) ss ≡ Some alone → alone.name ≡ name)
        → cond b (Some s) (find (is_standing name) ss) ≡ Some alone
        → alone.name ≡ name
    by true is later some =
        let same : s ≡ alone = cc in
        subst (λ (x : Standalone). x.name ≡ name) same (eqb-true s.name name is)
    by false is later some = later some

records_up : (n m : ℕ) → n ≤ m → (rs : List Record) → Each (λ (r : Record). r.name < n) rs
    → Each (λ (r : Record). r.name < m) rs
records_up n m up =
    each_as (λ (r : Record). r.name < n) (λ (r : Record). r.name < m) (λ r low. (omega arith))

standing_up : (n m : ℕ) → n ≤ m → (ss : List Standalone)
    → Each (λ (s : Standalone). s.name < n) ss
    → Each (λ (s : Standalone). s.name < m) ss
standing_up n m up =
    each_as (λ (s : Standalone). s.name < n) (λ (s : Standalone). s.name < m)
    (λ s low. (omega arith))

-- So many calls more were counted.
counted_up : {T : Type 0} (n m : ℕ) (v : View T) → n ≤ m → IsCounted n v → IsCounted m v
counted_up n m v up c = record {
  records = records_up n m up v.records c.records;
  standalones = standing_up n m up v.work.standalones c.standalones;
  made = let made = c.made in omega arith;
  above = above_later n m v.made up c.above;
}

-- what tests look at stays
pub record IsAlike {T : Type 0} (v w : View T) : Type 0 where
  pub others : w.others ≡ v.others
  pub records : w.records ≡ v.records
  pub standalones : w.work.standalones ≡ v.work.standalones
  pub made : w.made ≡ v.made

module _ {T A : Type 0} (shard : Shard T A) (old : ShardSeat T) (pins : List Pin)
    (standing : List Standalone) (next : ℕ) (g : IsGuest shard old pins standing next) where
  abbrev v : View T
  v = view old.seat

  -- The client holds the reference of a pin that is found.
  pub guest_pin : (name : ℕ) (pin : Pin) → find (is_pin name) pins ≡ Some pin
      → (pin.slot < shard.table.geometry.slots) × (pin.name ≡ name) × IsPinned pin v
  guest_pin name pin found =
      let told = found_pin shard.table.geometry name pin v.records g.rests.quiet.kept
      (rw g.holds at found) in (
        told.0,
        told.1,
        subst (λ n. IsSomeAnd (record_in n v.records) (IsOf pin)) (sym told.1) told.2,
      )

  -- The standalone entry that is found stands.
  pub guest_alone : (name : ℕ) (alone : Standalone)
      → find (is_standing name) standing ≡ Some alone
      → find (is_standing name) v.work.standalones
      ≡ Some (record { name = name; charge = alone.charge })
  guest_alone name alone found =
      let called = found_standing name alone standing found in
      rw g.stands at found ∙ ap (λ n. Some (record { name = n; charge = alone.charge })) called

  module _ (new : ShardSeat T) (rests : Rests shard new) where
    abbrev w : View T
    w = view new.seat

    -- nothing came or went
    pub guest_same : (m : ℕ) → next ≤ m → IsAlike v w → IsGuest shard new pins standing m
    guest_same m up same = record {
      rests = rests;
      single = same.others ∙ g.single;
      holds = g.holds ∙ ap (map pin_of) (sym same.records);
      stands = g.stands ∙ sym same.standalones;
      counted = record {
        records = rw same.records (records_up next m up v.records g.counted.records);
        standalones =
            rw same.standalones
            (standing_up next m up v.work.standalones g.counted.standalones);
        made = let made = g.counted.made in rw same.made (omega arith);
        above = rw same.made (above_later next m v.made up g.counted.above);
      };
    }

    -- one reference came
    pub guest_more : (r : Record) (pin : Pin) → w.others ≡ v.others
        → w.work.standalones ≡ v.work.standalones → length w.made ≤ next + 1
        → IsAbove (next + 1) w.made → w.records ≡ v.records ++ r ∷ [] → r.name ≡ next
        → pin ≡ pin_of r
        → IsGuest shard new (pins ++ pin ∷ []) standing (next + 1)
    guest_more r pin others standalones made above more called is = record {
      rests = rests;
      single = others ∙ g.single;
      holds = rw is (ap (λ ps. ps ++ pin_of r ∷ []) g.holds ∙ (more_pins v.records r
          ∙ ap (map pin_of) (sym more)));
      stands = g.stands ∙ sym standalones;
      counted = record {
        records = rw more
            (each_more (λ (q : Record). q.name < next + 1) v.records r
            (records_up next (next + 1) (omega arith) v.records g.counted.records)
            (omega arith));
        standalones =
            rw standalones
            (standing_up next (next + 1) (omega arith) v.work.standalones g.counted.standalones);
        made = made;
        above = above;
      };
    }

    -- one went
    pub guest_less : (name : ℕ) (left : List Pin) → left ≡ dropped (is_pin name) pins
        → w.others ≡ v.others → w.work.standalones ≡ v.work.standalones → w.made ≡ v.made
        → w.records ≡ dropped (is_called name) v.records
        → IsGuest shard new left standing next
    guest_less name left is others standalones made less = record {
      rests = rests;
      single = others ∙ g.single;
      holds = is ∙ (ap (dropped (is_pin name)) g.holds ∙ (dropped_pins name v.records
          ∙ ap (map pin_of) (sym less)));
      stands = g.stands ∙ sym standalones;
      counted = record {
        records = rw less
            (each_left (λ (q : Record). q.name < next) (is_called name) v.records
            g.counted.records);
        standalones = rw standalones g.counted.standalones;
        made = rw made g.counted.made;
        above = rw made g.counted.above;
      };
    }

    -- a standalone entry came
    pub guest_stands : (s : Standalone) → w.others ≡ v.others → w.records ≡ v.records
        → w.made ≡ v.made → w.work.standalones ≡ v.work.standalones ++ s ∷ [] → s.name ≡ next
        → IsGuest shard new pins (standing ++ s ∷ []) (next + 1)
    guest_stands s others records made more called = record {
      rests = rests;
      single = others ∙ g.single;
      holds = g.holds ∙ ap (map pin_of) (sym records);
      stands = ap (λ ss. ss ++ s ∷ []) g.stands ∙ sym more;
      counted = record {
        records =
            rw records
            (records_up next (next + 1) (omega arith) v.records g.counted.records);
        standalones = rw more
            (each_more (λ (q : Standalone). q.name < next + 1) v.work.standalones s
            (standing_up next (next + 1) (omega arith) v.work.standalones
            g.counted.standalones) (omega arith));
        made = let before = g.counted.made in rw made (omega arith);
        above = rw made (above_later next (next + 1) v.made (omega arith) g.counted.above);
      };
    }

    -- one fell
    pub guest_falls : (name : ℕ) (left : List Standalone)
        → left ≡ dropped (is_standing name) standing → w ≡ fallen name v
        → IsGuest shard new pins left next
    guest_falls name left is fell =
        let standalones : w.work.standalones ≡ dropped (is_standing name) v.work.standalones =
        ap (λ (z : View T). z.work.standalones) fell in
        let records : w.records ≡ v.records = ap (λ (z : View T). z.records) fell in
        let made : w.made ≡ v.made = ap (λ (z : View T). z.made) fell in record {
          rests = rests;
          single = ap (λ (z : View T). z.others) fell ∙ g.single;
          holds = g.holds ∙ ap (map pin_of) (sym records);
          stands = is ∙ (ap (dropped (is_standing name)) g.stands ∙ sym standalones);
          counted = record {
            records = rw records g.counted.records;
            standalones =
                rw standalones
                (each_left (λ (q : Standalone). q.name < next) (is_standing name)
                v.work.standalones g.counted.standalones);
            made = rw made g.counted.made;
            above = rw made g.counted.above;
          };
        }

    -- what a search left
    searched_alike : Searched v w → w.records ≡ v.records → IsAlike v w
    searched_alike s records = record {
      others = ap (λ (z : View T). z.others) s.same;
      records = records;
      standalones = ap (λ (z : View T). z.work.standalones) s.same;
      made = ap (λ (z : View T). z.made) s.same;
    }

    -- a reference by a search
    searched_more : (r : Record) (pin : Pin) → Searched v w → w.records ≡ v.records ++ r ∷ []
        → IsOf pin r → r.name ≡ next → pin.name ≡ next
        → IsGuest shard new (pins ++ pin ∷ []) standing (next + 1)
    searched_more r pin s more of called named =
        guest_more r pin (ap (λ (z : View T). z.others) s.same)
        (ap (λ (z : View T). z.work.standalones) s.same)
        (let before = g.counted.made in
        let made : w.made ≡ v.made = ap (λ (z : View T). z.made) s.same in
        rw made (omega arith))
        (rw (ap (λ (z : View T). z.made) s.same)
        (above_later next (next + 1) v.made (omega arith) g.counted.above))
        more called
        (λ k. record {
          name = (named ∙ sym called) k;
          slot = sym of.0 k;
          counting = sym of.2 k;
        })

    pub again_guest : (r : Record) (pin : Pin) → Searched v w → w.records ≡ v.records ++ r ∷ []
        → IsOf pin r → r.name ≡ next → pin.name ≡ next
        → IsGuest shard new (pins ++ pin ∷ []) standing (next + 1)
    again_guest = searched_more

    -- the answer of a look-up
    pub found_guest : {fits : T → Key → List ℕ → Type 0} {room slot : ℕ} {key : Key} (r : Record)
        (pin : Pin) → IsFound fits room slot next key v w r → IsOf pin r → pin.name ≡ next
        → IsGuest shard new (pins ++ pin ∷ []) standing (next + 1)
    found_guest r pin f of named = searched_more r pin f.searched f.records of f.called named

    pub missed_guest : {key : Key} → IsMissed key v w → IsGuest shard new pins standing (next + 1)
    missed_guest m =
        guest_same (next + 1) (omega arith) (searched_alike m.sought.searched m.sought.records)

    -- a release
    pub released_guest : (name place : ℕ) (pin : Pin) (left : List Pin) (erase freed : Bool)
        → left ≡ remove pins place → position (is_pin name) pins ≡ Some place → pin.name ≡ name
        → IsReleased pin.name erase freed v w → IsGuest shard new left standing next
    released_guest name place pin left erase freed is at named r =
        guest_less name left (is ∙ remove_at (is_pin name) pins place at)
        (ap (λ (z : View T). z.others) r.same)
        (ap (λ (z : View T). z.work.standalones) r.same)
        (ap (λ (z : View T). z.made) r.same)
        (ap (λ (z : View T). z.records) r.same
        ∙ ap (λ n. dropped (is_called n) v.records) named)

    pub fallen_guest : (name place : ℕ) (left : List Standalone) → left ≡ remove standing place
        → position (is_standing name) standing ≡ Some place → w ≡ fallen name v
        → IsGuest shard new pins left next
    fallen_guest name place left is at fell =
        guest_falls name left (is ∙ remove_at (is_standing name) standing place at) fell

    -- an insertion that showed no entry
    unmade : {slots capacity : ℕ} {strict : Bool} {charge stamps : ℕ}
        {standalones : List Standalone}
        → Tries true true slots capacity strict charge stamps standalones v.records v.made v w
        → standalones ≡ v.work.standalones → IsAlike v w
    unmade t same = record {
      others = ap (λ (z : View T). z.others) t.same;
      records = ap (λ (z : View T). z.records) t.same;
      standalones = ap (λ (z : View T). z.work.standalones) t.same ∙ same;
      made = ap (λ (z : View T). z.made) t.same;
    }

    module _ (slots capacity : ℕ) (strict : Bool) (draft : Draft) where
      pub refused_guest : (why : Refused) → RefusedBy true true slots capacity strict draft why v w
          → IsGuest shard new pins standing (next + 1)
      refused_guest TooLarge h = guest_same (next + 1) (omega arith) (record {
        others = ap (λ (z : View T). z.others) h.2;
        records = ap (λ (z : View T). z.records) h.2;
        standalones = ap (λ (z : View T). z.work.standalones) h.2;
        made = ap (λ (z : View T). z.made) h.2;
      })
      refused_guest CapacityFull h = guest_same (next + 1) (omega arith) (unmade h.0 refl)
      refused_guest OccupancyFull h = guest_same (next + 1) (omega arith) (unmade h.0 refl)

      -- an entry was shown under the next serial
      shown_above : (value : List ℕ) (slot : ℕ) → draft.serial ≡ next
          → Shows true true slots capacity strict draft value slot v w → IsAbove (next + 1) w.made
      shown_above value slot serial h =
          rw (ap (λ (z : View T). z.made) h.tries.same)
          (above_more next v.made (made_of draft value) serial g.counted.above)

      -- an entry was shown, and no reference on it is kept
      shown_guest : (value : List ℕ) (slot : ℕ) → draft.name ≡ None → draft.serial ≡ next
          → Shows true true slots capacity strict draft value slot v w
          → IsGuest shard new pins standing (next + 1)
      shown_guest value slot none serial h = record {
        rests = rests;
        single = ap (λ (z : View T). z.others) h.tries.same ∙ g.single;
        holds = g.holds ∙ ap (map pin_of) (sym records);
        stands = g.stands ∙ sym (ap (λ (z : View T). z.work.standalones) h.tries.same);
        counted = record {
          records = rw records
              (records_up next (next + 1) (omega arith) v.records g.counted.records);
          standalones =
              rw (ap (λ (z : View T). z.work.standalones) h.tries.same)
              (standing_up next (next + 1) (omega arith) v.work.standalones
              g.counted.standalones);
          made =
              let before = g.counted.made in
              let longer = length_more v.made (made_of draft value) in
              rw (ap (λ (z : View T). z.made) h.tries.same) (omega arith);
          above = shown_above value slot serial h;
        };
      }
        where
          records : w.records ≡ v.records
          records = ap (λ (z : View T). z.records) h.tries.same
              ∙ (ap (λ n. v.records
              ++ first_records slot n (shown_entry v (made_of draft value))) none
              ∙ append-nil v.records)

      pub inserted_guest : (value : List ℕ) (answer : Result Inserted Refused) → draft.name ≡ None
          → draft.serial ≡ next → InsertedBy true true slots capacity strict draft value answer v w
          → IsGuest shard new pins standing (next + 1)
      inserted_guest value (Ok inserted.Placed) none serial h =
          shown_guest value h.0 none serial h.1
      inserted_guest value (Ok inserted.Dropped) none serial h =
          guest_same (next + 1) (omega arith) (unmade h.tries refl)
      inserted_guest value (Err why) none serial h = refused_guest why h

      -- one that keeps a reference
      pub pinned_guest : (value : List ℕ) (pin : Pin) → draft.name ≡ Some draft.serial
          → draft.serial ≡ next
          → Shows true true slots capacity strict draft value pin.slot v w → pin.name ≡ draft.serial
          → pin.counting ≡ true → IsGuest shard new (pins ++ pin ∷ []) standing (next + 1)
      pinned_guest value pin named serial h called counts =
          guest_more (record {
            slot = pin.slot;
            name = draft.serial;
            weight = 1;
            counting = true;
            shown = false;
            entry = shown_entry v (made_of draft value);
          }) pin
          (ap (λ (z : View T). z.others) h.tries.same)
          (ap (λ (z : View T). z.work.standalones) h.tries.same)
          (let before = g.counted.made in
          let longer = length_more v.made (made_of draft value) in
          rw (ap (λ (z : View T). z.made) h.tries.same) (omega arith))
          (shown_above value pin.slot serial h)
          (ap (λ (z : View T). z.records) h.tries.same
          ∙ ap (λ n. v.records
          ++ first_records pin.slot n (shown_entry v (made_of draft value))) named)
          serial
          (λ k. record { name = called k; slot = pin.slot; counting = counts k })

      pub standing_guest : draft.serial ≡ next
          → IsUnshown true true slots capacity strict draft (with_draft draft v.work.standalones) v
          w
          → IsGuest shard new pins
          (standing ++ record { name = draft.serial; charge = draft.charge } ∷ []) (next + 1)
      standing_guest serial h =
          guest_stands (record { name = draft.serial; charge = draft.charge })
          (ap (λ (z : View T). z.others) h.tries.same)
          (ap (λ (z : View T). z.records) h.tries.same)
          (ap (λ (z : View T). z.made) h.tries.same)
          (ap (λ (z : View T). z.work.standalones) h.tries.same) serial

-- A value that is held fits a short buffer.
pub short_in : (geometry : Geometry) (name : ℕ) (rs : List Record) → Each (IsKept geometry) rs
    → geometry.room ≤ 2 → IfSome (record_in name rs) (λ r. length r.entry.value ≤ 16)
short_in geometry name rs kept few =
    found_if (IsKept geometry) (λ (r : Record). length r.entry.value ≤ 16)
    (λ r k. (let short = k.readable.short in omega arith)) (is_called name) rs kept

-- What was drafted may be inserted, by any name of a reference or none.
pub may_insert : {T : Type 0} (p : Plan T) (draft : Draft) (name : Option ℕ) (value : List ℕ)
    (v : View T) → IsDrafted p.geometry.room draft (length value) v
    → ((k : ℕ) → slice_index value k < 256)
    → IsInsertable FitsAny p (record draft { name = name }) value v
may_insert p draft name value v d bytes = record {
  right = record {
    fitting = tt;
    short = d.short;
    bytes = each_from value bytes;
    numbered = d.next.low;
    paid = d.paid;
    small = d.small;
  };
  paid = d.paid;
  some = d.some;
  few = d.few;
  next = d.next;
}

-- The last of new seats.
pub last_new : {T A : Type 0} (shard : Shard T A) (first : ℕ) (xs : List (ShardSeat T))
    (seat : ShardSeat T) → AreNew shard first (xs ++ seat ∷ [])
    → AreNew shard first xs × IsNew shard (first + length xs) seat
last_new shard first [] seat h =
    let none : first ≡ first + 0 = omega arith in
    (tt, rw (← none) h.0)
last_new shard first (x ∷ xs) seat h =
    let later = last_new shard (first + 1) xs seat h.1 in
    let same : first + 1 + length xs ≡ first + length (x ∷ xs) = omega arith in
    ((h.0, later.0), rw (← same) later.1)

-- The seat of a client that only made something is a guest's that holds nothing.
pub guest_begun : {T A : Type 0} (shard : Shard T A) (o : Other) (next : ℕ) (seat : ShardSeat T)
    → IsBegun shard o seat → length o.made ≤ next → IsAbove next o.made
    → IsGuest shard seat [] [] next
guest_begun shard o next seat n past above = record {
  rests = n.rests;
  single = ap (λ (z : View _). z.others) n.fresh;
  holds = sym (ap (λ (z : View _). map pin_of z.records) n.fresh);
  stands = sym (ap (λ (z : View _). z.work.standalones) n.fresh);
  counted = rw n.fresh (record { records = tt; standalones = tt; made = past; above = above });
}

-- A new seat is.
pub guest_new : {T A : Type 0} (shard : Shard T A) (client : ℕ) (seat : ShardSeat T)
    → IsNew shard client seat → IsGuest shard seat [] [] 0
guest_new shard client seat n = guest_begun shard (unstarted client) 0 seat n (omega arith) tt

-- So is that of the client that made the entries of an image.
pub guest_maker : {T A : Type 0} (shard : Shard T A) (es : List ImageEntry)
    (xs : List (ShardSeat T)) (seat : ShardSeat T) → AreBegun shard es xs → 0 < length xs
    → seat ≡ get_or xs 0 seat → IsGuest shard seat [] [] (length es)
guest_maker shard es [] seat all some is = absurd (omega arith)
guest_maker shard es (x ∷ xs) seat all some is =
    let few : length (made_from 0 es) ≤ length es =
    let same = made_length 0 es in omega arith in
    let same : seat ≡ x = is in
    rw same
    (guest_begun shard (maker_of es) (length es) x all.0 few
    (above_made 0 (length es) es (omega arith)))

-- any value is right for the tag of the tests
pub all_fit : (es : List ImageEntry) → Each (λ (e : ImageEntry). Unit {0}) es
all_fit [] = tt
all_fit (e ∷ es) = (tt, all_fit es)

no_records : (rs : List Record) (pins : List Pin) → pins ≡ map pin_of rs → length pins ≡ 0
    → rs ≡ []
no_records [] pins same none = refl
no_records (r ∷ rs) pins same none =
    absurd (let long : length pins ≡ suc (length (map pin_of rs)) = ap length same in omega arith)

no_standing : (ss standing : List Standalone) → standing ≡ ss → length standing ≡ 0 → ss ≡ []
no_standing [] standing same none = refl
no_standing (s ∷ ss) standing same none =
    absurd (let long : length standing ≡ suc (length ss) = ap length same in omega arith)

-- A guest that lets go of all joins those that are home.
pub home_more : {T A : Type 0} (shard : Shard T A) (seat : ShardSeat T) (pins : List Pin)
    (standing : List Standalone) (next : ℕ) (home : List (ShardSeat T))
    → IsGuest shard seat pins standing next → length pins ≡ 0 → length standing ≡ 0
    → AreHome shard home → AreHome shard (home ++ seat ∷ [])
home_more shard seat pins standing next home g no_pins none h =
    each_more (λ s. HoldsNothing shard s × (named_by (view s.seat) ≡ 1)) home seat h (
      record {
        rests = g.rests;
        records = no_records (view seat.seat).records pins g.holds no_pins;
        standalones = no_standing (view seat.seat).work.standalones standing g.stands none;
      },
      named,
    )
  where
    named : named_by (view seat.seat) ≡ 1
    named =
        let one : when (is_some (view seat.seat).tag) 1 ≡ 1 =
        ap (λ o. when (is_some o) 1) g.rests.at.tagged in
        let no_others : length (view seat.seat).others ≡ 0 = ap length g.single in
        omega arith

named_each : {T A : Type 0} (shard : Shard T A) (home : List (ShardSeat T)) → AreHome shard home
    → total (λ (s : ShardSeat T). named_by (view s.seat)) home ≡ length home
named_each shard [] h = refl
named_each shard (s ∷ ss) h =
    let one = h.0.1 in
    let rest = named_each shard ss h.1 in
    omega arith

-- All of them are back.
pub all_home : {T A : Type 0} (shard : Shard T A) (home : List (ShardSeat T)) → AreHome shard home
    → length home ≡ clients_of shard.table → AreBack shard home
all_home shard home h all = record {
  each = each_as (λ s. HoldsNothing shard s × (named_by (view s.seat) ≡ 1)) (HoldsNothing shard)
      (λ s both. both.0) home h;
  all = named_each shard home h ∙ all;
}

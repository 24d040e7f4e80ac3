-- What an insertion leaves of a view, put together.
use Rattle.std.proofs.Common.{◌≡◌, ℕ, ◌+◌, ◌-◌, ◌<◌, ◌++◌, ◌||◌, ◌&&◌, ◌==◌, append_assoc, IfSome, nat_le, Bool, true, false, List, [], ◌∷◌, Err, length, sym, subst, refl, ap, ◌∙◌, arith}
use Rattle.std.specs.List.{list_any}
use Rattle.std.proofs.lemmas.Bool.{le-leb, eq-eqb}
use Rattle.hcc_core.specs.declared.client.Owned.TheVariants as owned
use Rattle.hcc_core.specs.declared.client.Place.TheVariants as places
use Rattle.hcc_core.specs.declared.limits.TheConstants.{MOST_CLIENTS}
use Rattle.hcc_core.specs.declared.slot.Stamp.{Stamp}
use Rattle.hcc_core.specs.Lawful.{is_in}
use Rattle.hcc_core.specs.Ledgers.{is_standing}
use Rattle.hcc_core.specs.Sums.{when}
use Rattle.hcc_rule.specs.declared.geometry.Geometry.{Geometry}
use Rattle.hcc_rule.specs.declared.key.Key.{Key}
use Rattle.hcc_rule.specs.declared.rule.Plan.{Plan}
use Rattle.hcc_rule.specs.declared.steps.shows.Draft.{Draft}
use Rattle.hcc_rule.specs.declared.view.View.{View}
use Rattle.hcc_rule.specs.ToldOwners.{after_show, first_records, made_of, shown_entry}
use Rattle.hcc_rule.specs.Records.{record_in}
use Rattle.hcc_rule.specs.Gone.{Takes}
use Rattle.hcc_rule.proofs.Gone.{takes_alike}
use Rattle.hcc_table.specs.Inserted.{MayInsert, Meets, Tried}
use Rattle.hcc_table.specs.Searched.{is_key}
use Rattle.hcc_charge.specs.declared.reserving.Refused.{Refused}
use Rattle.hcc_charge.specs.declared.reserving.Refused.TheVariants.{TooLarge, CapacityFull, OccupancyFull}
use Rattle.hcc_charge.specs.Reserved.{Reserves, ReservedBy, loaded, needed_by, short_of}
use Rattle.hcc_charge.specs.Settled.{stood, without_place}
use Rattle.hcc_shard.specs.Inserted.{IsInsertable, IsUnplaced, IsUnshown, RefusedBy, Tries, with_draft}
use Rattle.hcc_shard.specs.Seated.{IsQuiet}
use Rattle.hcc_shard.proofs.Names.{load_is, not_held}

none_more : {A : Type 0} (xs : List A) → xs ≡ xs ++ []
none_more [] = refl
none_more (x ∷ xs) = ap (λ z. x ∷ z) (none_more xs)

no_added : (n : ℕ) → n ≡ n + 0
no_added n = omega arith

or_later : (a b : Bool) → b ≡ true → (a || b) ≡ true
or_later true b is = refl
or_later false b is = is

or_first : (a b : Bool) → a ≡ true → (a || b) ≡ true
or_first a b is = ap (λ z. z || b) is

or_last : (a b c : Bool) → (b || c) ≡ true → (a || b || c) ≡ true
or_last true b c is = refl
or_last false b c is = is

-- the last key of a list is in it
any_last : (key : Key) (keys : List Key) → list_any (is_key key) (keys ++ key ∷ []) ≡ true
any_last key [] =
    ap (λ b. (b && (key.w1 == key.w1)) || false) (eq-eqb key.w0 key.w0 refl)
    ∙ ap (λ b. b || false) (eq-eqb key.w1 key.w1 refl)
any_last key (k ∷ ks) =
    or_later (is_key key k) (list_any (is_key key) (ks ++ key ∷ [])) (any_last key ks)

module _ {T : Type 0} where
  -- An entry wasn't placed: its key was met,
  pub unplaced_met : (slots : ℕ) (key : Key) (v w : View T) → Tried v w → Meets key v w
      → IsUnplaced slots key v w
  unplaced_met slots key v w t met = record {
    tried = t;
    met = met.0 ++ key ∷ [];
    met_is = met.1 ∙ append_assoc v.met met.0 (key ∷ []);
    tries = w.saw - v.saw;
    saw_is = let more = t.saw in omega arith;
    why = or_first _ (nat_le slots (w.saw - v.saw)) (any_last key met.0);
  }

  -- or all slots were tried.
  pub unplaced_all : (slots : ℕ) (key : Key) (v w : View T) → Tried v w → w.saw ≡ v.saw + slots
      → IsUnplaced slots key v w
  unplaced_all slots key v w t all = record {
    tried = t;
    met = t.met.0;
    met_is = t.met.1;
    tries = slots;
    saw_is = all;
    why = or_later (list_any (is_key key) t.met.0) _ (le-leb slots slots (omega arith));
  }

  -- Nothing was reserved.
  pub tries_none : (had has : Bool) (slots capacity : ℕ) (strict : Bool) (charge : ℕ) (v w : View T)
      → Reserves had has slots capacity strict charge places.Absent 0 v w
      → Tries had has slots capacity strict charge v.work.stamps v.work.standalones v.records v.made
      v w
  tries_none had has slots capacity strict charge v w r = record {
    shortage = r.shortage;
    met = [];
    tries = 0;
    same = r.same ∙ (λ k. record v {
      work = record v.work {
        looked = w.work.looked;
        owned = owned.Nothing;
        trail = [];
        place = places.Absent;
        granted = 0;
        needed = 0;
        freed = 0;
        freed_slots = 0;
        dead = w.work.dead;
      };
      written = w.written;
      takings = v.takings + r.shortage.swept.slots;
      gone = w.gone;
      open_places = v.open_places + when r.shortage.full 1;
      saw = no_added v.saw k;
      turns = v.turns + r.shortage.swept.turns;
      met = none_more v.met k;
      seen = v.seen ++ loaded strict r.shortage.used;
      tight = v.tight ++ short_of (needed_by strict capacity r.shortage.used charge) charge;
      glimpse = sym (ap (λ (z : View T). z.glimpse) r.same) k;
    });
    dead = r.dead;
    taken = r.taken;
  }

  -- Nothing was reserved, and the entry stands alone.
  pub tries_alone : (had has : Bool) (slots capacity : ℕ) (strict : Bool) (charge name : ℕ) (v a w :
      View T)
      → Reserves had has slots capacity strict charge places.Absent 0 v a → w ≡ stood name charge a
      → Tries had has slots capacity strict charge v.work.stamps
      (v.work.standalones ++ record { name = name; charge = charge } ∷ []) v.records v.made v w
  tries_alone had has slots capacity strict charge name v a w r stands = record {
    shortage = r.shortage;
    met = [];
    tries = 0;
    same = stands ∙ (ap (stood name charge) r.same ∙ (λ k. record v {
      work = record v.work {
        looked = sym (ap (λ (z : View T). z.work.looked) stands) k;
        owned = owned.Nothing;
        trail = [];
        place = places.Absent;
        granted = 0;
        needed = 0;
        freed = 0;
        freed_slots = 0;
        standalones = v.work.standalones ++ record { name = name; charge = charge } ∷ [];
        dead = sym (ap (λ (z : View T). z.work.dead) stands) k;
      };
      written = sym (ap (λ (z : View T). z.written) stands) k;
      takings = v.takings + r.shortage.swept.slots;
      gone = sym (ap (λ (z : View T). z.gone) stands) k;
      open_places = v.open_places + when r.shortage.full 1;
      saw = no_added v.saw k;
      turns = v.turns + r.shortage.swept.turns;
      met = none_more v.met k;
      seen = v.seen ++ loaded strict r.shortage.used;
      tight = v.tight ++ short_of (needed_by strict capacity r.shortage.used charge) charge;
      glimpse =
          (sym (ap (λ (z : View T). z.glimpse) r.same)
          ∙ sym (ap (λ (z : View T). z.glimpse) stands)) k;
    }));
    dead = λ stamp h. subst (λ d. is_in stamp d ≡ true)
        (sym (ap (λ (z : View T). z.work.dead) stands)) (r.dead stamp h);
    taken = takes_alike r.taken refl (ap (λ (z : View T). z.gone) stands);
  }

  module _ (had has : Bool) (slots capacity : ℕ) (strict : Bool) (charge : ℕ) (v a : View T)
      (r : Reserves had has slots capacity strict charge places.Granted charge v a) where
    -- The entry was placed.
    pub tries_placed : (slot : ℕ) (draft : Draft) (value : List ℕ) (w : View T)
        → draft.charge ≡ charge → Tried (after_show slot draft.name (made_of draft value) a) w
        → Tries had has slots capacity strict charge (v.work.stamps + 1) v.work.standalones
        (v.records ++ first_records slot draft.name (shown_entry v (made_of draft value)))
        (v.made ++ made_of draft value ∷ []) v w
    tries_placed slot draft value w paid t = record {
      shortage = r.shortage;
      met = t.met.0;
      tries = w.saw - v.saw;
      same =
          t.same
          ∙ (ap (λ (z : View T). record (after_show slot draft.name (made_of draft value) z) {
            work = record (after_show slot draft.name (made_of draft value) z).work {
              looked = w.work.looked;
              dead = w.work.dead;
            };
            met = w.met;
            glimpse = w.glimpse;
            saw = w.saw;
          }) r.same ∙ (λ k. record v {
            work = record v.work {
              looked = w.work.looked;
              owned = owned.Nothing;
              trail = [];
              place = places.Absent;
              granted = spent k;
              needed = 0;
              freed = 0;
              freed_slots = 0;
              stamps = v.work.stamps + 1;
              dead = w.work.dead;
            };
            records =
                v.records ++ first_records slot draft.name (shown_entry v (made_of draft value));
            written = sym (ap (λ (z : View T). z.written) t.same) k;
            made = v.made ++ made_of draft value ∷ [];
            takings = v.takings + r.shortage.swept.slots;
            gone = sym (ap (λ (z : View T). z.gone) t.same) k;
            open_places = v.open_places + when r.shortage.full 1;
            saw = saw_is k;
            turns = v.turns + r.shortage.swept.turns;
            met = met_is k;
            seen = v.seen ++ loaded strict r.shortage.used;
            tight = v.tight ++ short_of (needed_by strict capacity r.shortage.used charge) charge;
            glimpse = w.glimpse;
          }));
      dead = λ stamp h. t.dead stamp (r.dead stamp h);
      taken = takes_alike r.taken refl (ap (λ (z : View T). z.gone) t.same);
    }
      where
        spent : charge - draft.charge ≡ 0
        spent = omega arith

        saw_is : w.saw ≡ v.saw + (w.saw - v.saw)
        saw_is =
            let more = t.saw in
            let was : a.saw ≡ v.saw = ap (λ (z : View T). z.saw) r.same in
            omega arith

        met_is : w.met ≡ v.met ++ t.met.0
        met_is = t.met.1 ∙ ap (λ (z : View T). z.met ++ t.met.0) r.same

    -- It wasn't, and the place was given up: this much is granted still.
    module _ (key : Key) (b w : View T) (granted : ℕ) (u : IsUnplaced slots key a b)
        (left : w ≡ without_place granted b) where
      saw_more : w.saw ≡ v.saw + u.tries
      saw_more =
          let more = u.saw_is in
          let was : a.saw ≡ v.saw = ap (λ (z : View T). z.saw) r.same in
          let now : w.saw ≡ b.saw = ap (λ (z : View T). z.saw) left in
          omega arith

      met_more : w.met ≡ v.met ++ u.met
      met_more =
          ap (λ (z : View T). z.met) left
          ∙ (u.met_is ∙ ap (λ (z : View T). z.met ++ u.met) r.same)

      pub left_over : w ≡ record v {
        work = record v.work {
          looked = w.work.looked;
          owned = owned.Nothing;
          trail = [];
          place = places.Absent;
          granted = granted;
          needed = 0;
          freed = 0;
          freed_slots = 0;
          dead = w.work.dead;
        };
        written = w.written;
        takings = v.takings + r.shortage.swept.slots;
        gone = w.gone;
        open_places = v.open_places + when r.shortage.full 1;
        saw = v.saw + u.tries;
        turns = v.turns + r.shortage.swept.turns;
        met = v.met ++ u.met;
        seen = v.seen ++ loaded strict r.shortage.used;
        tight = v.tight ++ short_of (needed_by strict capacity r.shortage.used charge) charge;
        glimpse = w.glimpse;
      }
      left_over =
          left ∙ (ap (without_place granted) u.tried.same
          ∙ (ap (λ (z : View T). without_place granted (record z {
            work = record z.work { looked = b.work.looked; dead = b.work.dead };
            met = b.met;
            glimpse = b.glimpse;
            saw = b.saw;
          })) r.same ∙ (λ k. record v {
            work = record v.work {
              looked = sym (ap (λ (z : View T). z.work.looked) left) k;
              owned = owned.Nothing;
              trail = [];
              place = places.Absent;
              granted = granted;
              needed = 0;
              freed = 0;
              freed_slots = 0;
              dead = sym (ap (λ (z : View T). z.work.dead) left) k;
            };
            written =
                (sym (ap (λ (z : View T). z.written) u.tried.same)
                ∙ sym (ap (λ (z : View T). z.written) left)) k;
            takings = v.takings + r.shortage.swept.slots;
            gone =
                (sym (ap (λ (z : View T). z.gone) u.tried.same)
                ∙ sym (ap (λ (z : View T). z.gone) left)) k;
            open_places = v.open_places + when r.shortage.full 1;
            saw = (sym (ap (λ (z : View T). z.saw) left) ∙ saw_more) k;
            turns = v.turns + r.shortage.swept.turns;
            met = (sym (ap (λ (z : View T). z.met) left) ∙ met_more) k;
            seen = v.seen ++ loaded strict r.shortage.used;
            tight = v.tight ++ short_of (needed_by strict capacity r.shortage.used charge) charge;
            glimpse = sym (ap (λ (z : View T). z.glimpse) left) k;
          })))

      pub dead_more : (stamp : Stamp) → is_in stamp v.work.dead ≡ true
          → is_in stamp w.work.dead ≡ true
      dead_more stamp h =
          subst (λ d. is_in stamp d ≡ true) (sym (ap (λ (z : View T). z.work.dead) left))
          (u.tried.dead stamp (r.dead stamp h))

      pub took_same : Takes r.shortage.swept.slots r.shortage.swept.charge v w
      took_same =
          takes_alike r.taken refl
          (ap (λ (z : View T). z.gone) left ∙ ap (λ (z : View T). z.gone) u.tried.same)

    -- All was given up.
    pub tries_dropped : (key : Key) (b w : View T) (u : IsUnplaced slots key a b)
        → w ≡ without_place 0 b
        → Tries had has slots capacity strict charge v.work.stamps v.work.standalones v.records
        v.made v w
    tries_dropped key b w u left = record {
      shortage = r.shortage;
      met = u.met;
      tries = u.tries;
      same = left_over key b w 0 u left;
      dead = dead_more key b w 0 u left;
      taken = took_same key b w 0 u left;
    }

    -- The charge was kept, and is a standalone entry's.
    pub tries_stood : (key : Key) (name : ℕ) (b w : View T) (u : IsUnplaced slots key a b)
        → w ≡ stood name charge (without_place charge b)
        → Tries had has slots capacity strict charge v.work.stamps
        (v.work.standalones ++ record { name = name; charge = charge } ∷ []) v.records v.made v w
    tries_stood key name b w u stands = record {
      shortage = r.shortage;
      met = u.met;
      tries = u.tries;
      same =
          stands ∙ (ap (stood name charge) (left_over key b (without_place charge b) charge u refl)
          ∙ (λ k. record v {
            work = record v.work {
              looked = sym (ap (λ (z : View T). z.work.looked) stands) k;
              owned = owned.Nothing;
              trail = [];
              place = places.Absent;
              granted = 0;
              needed = 0;
              freed = 0;
              freed_slots = 0;
              standalones = v.work.standalones ++ record { name = name; charge = charge } ∷ [];
              dead = sym (ap (λ (z : View T). z.work.dead) stands) k;
            };
            written = sym (ap (λ (z : View T). z.written) stands) k;
            takings = v.takings + r.shortage.swept.slots;
            gone = sym (ap (λ (z : View T). z.gone) stands) k;
            open_places = v.open_places + when r.shortage.full 1;
            saw = v.saw + u.tries;
            turns = v.turns + r.shortage.swept.turns;
            met = v.met ++ u.met;
            seen = v.seen ++ loaded strict r.shortage.used;
            tight = v.tight ++ short_of (needed_by strict capacity r.shortage.used charge) charge;
            glimpse = sym (ap (λ (z : View T). z.glimpse) stands) k;
          }));
      dead = λ stamp h. subst (λ d. is_in stamp d ≡ true)
          (sym (ap (λ (z : View T). z.work.dead) stands))
          (dead_more key b (without_place charge b) charge u refl stamp h);
      taken = takes_alike (took_same key b (without_place charge b) charge u refl) refl
          (ap (λ (z : View T). z.gone) stands);
    }

  module _ (had has : Bool) (slots capacity : ℕ) (strict : Bool) (draft : Draft) where
    -- A refusal.
    pub refused_by : (why : Refused) (v w : View T)
        → ReservedBy had has slots capacity strict draft.charge (Err why) v w
        → RefusedBy had has slots capacity strict draft why v w
    unfolding tries_none
    refused_by TooLarge v w told = told
    refused_by CapacityFull v w told = (
      tries_none had has slots capacity strict draft.charge v w told.0,
      told.1,
      told.2,
      told.3,
    )
    refused_by OccupancyFull v w told = (
      tries_none had has slots capacity strict draft.charge v w told.0,
      told.1,
      told.2,
      told.3,
      told.4,
    )

    -- The shard was full:
    module _ (v a : View T)
        (r : Reserves had has slots capacity strict draft.charge places.Absent 0 v a)
        (more : v.open_places < a.open_places) where
      was_full : r.shortage.full ≡ true
      was_full = by r.shortage.full (ap (λ (z : View T). z.open_places) r.same)
        where
          by : (full : Bool) → a.open_places ≡ v.open_places + when full 1 → full ≡ true
          by true now = refl
          by false now = absurd (omega arith)

      -- the entry is dropped, or stands alone.
      pub left_none : IsUnshown had has slots capacity strict draft v.work.standalones v a
      unfolding tries_none
      left_none = record {
        tries = tries_none had has slots capacity strict draft.charge v a r;
        reason = or_first _ _ (or_first r.shortage.full _ was_full);
      }

      pub left_alone : (w : View T) → w ≡ stood draft.serial draft.charge a
          → IsUnshown had has slots capacity strict draft (with_draft draft v.work.standalones) v w
      unfolding tries_alone
      left_alone w stands = record {
        tries =
            tries_alone had has slots capacity strict draft.charge draft.serial v a w r stands;
        reason = or_first _ _ (or_first r.shortage.full _ was_full);
      }

    -- A place and the charge were granted:
    module _ (v a b : View T)
        (r : Reserves had has slots capacity strict draft.charge places.Granted draft.charge v a)
        (u : IsUnplaced slots draft.key a b) where
      -- the entry is dropped, or stands alone.
      pub left_dropped : (w : View T) → w ≡ without_place 0 b
          → IsUnshown had has slots capacity strict draft v.work.standalones v w
      unfolding tries_dropped
      left_dropped w left = record {
        tries = tries_dropped had has slots capacity strict draft.charge v a r draft.key b w u left;
        reason = or_last r.shortage.full _ _ u.why;
      }

      pub left_stood : (w : View T)
          → w ≡ stood draft.serial draft.charge (without_place draft.charge b)
          → IsUnshown had has slots capacity strict draft (with_draft draft v.work.standalones) v w
      unfolding tries_stood
      left_stood w stands = record {
        tries =
            tries_stood had has slots capacity strict draft.charge v a r draft.key draft.serial b w
            u
            stands;
        reason = or_last r.shortage.full _ _ u.why;
      }

      -- What wasn't placed may stand alone.
      pub still_fresh : list_any (is_standing draft.serial) v.work.standalones ≡ false
          → list_any (is_standing draft.serial) b.work.standalones ≡ false
      still_fresh fresh =
          ap (λ (z : View T). list_any (is_standing draft.serial) z.work.standalones) u.tried.same
          ∙ (ap (λ (z : View T). list_any (is_standing draft.serial) z.work.standalones) r.same
          ∙ fresh)

    -- A client that reserved may insert.
    pub may_insert : (fits : T → Key → List ℕ → Type 0) (p : Plan T) (geometry : Geometry)
        (value : List ℕ) (client : ℕ) (v a : View T)
        → v.client ≡ client → client < MOST_CLIENTS → IsInsertable fits p draft value v
        → IsQuiet geometry v → IfSome draft.name (λ x. x ≡ draft.serial)
        → Reserves had has slots capacity strict draft.charge places.Granted draft.charge v a
        → MayInsert fits p draft value client draft.serial a
    may_insert fits p geometry value client v a own known may quiet called r = record {
      own = sym own ∙ sym (ap (λ (z : View T). z.client) r.same);
      known = known;
      idle = ap (λ (z : View T). z.work.owned) r.same;
      place = ap (λ (z : View T). z.work.place) r.same;
      needed = ap (λ (z : View T). z.work.needed) r.same;
      paid =
          let got : a.work.granted ≡ draft.charge = ap (λ (z : View T). z.work.granted) r.same in
          omega arith;
      right = may.right;
      some = may.some;
      few = may.few;
      fresh = ap (λ (z : View T). record_in draft.serial z.records) r.same
          ∙ not_held draft.serial draft.serial (omega arith) v.records may.next.records;
      called = called;
      room = rw (ap (λ (z : View T). z.records) r.same)
          (let load = load_is geometry v.records quiet.kept in
          let few = quiet.few in
          omega arith);
      stamps =
          let same : length a.made ≡ length v.made = ap (λ (z : View T). length z.made) r.same in
          let made = may.next.made in
          let low = may.next.low in
          omega arith;
      above = rw (ap (λ (z : View T). z.made) r.same) may.next.above;
    }

-- What a reservation leaves of a view, step by step.
use Rattle.std.proofs.Common.{◌≡◌, ℕ, ◌+◌, ◌-◌, ◌<◌, min, max, ◌&&◌, ◌++◌, nat_lt, cond, Bool, true, false, List, [], ◌∷◌, sym, subst, refl, ap, ◌∙◌, arith}
use Rattle.std.proofs.lemmas.Bool.{lt-ltb}
use Rattle.hcc_core.specs.declared.client.Client.{Client}
use Rattle.hcc_core.specs.declared.client.Owned.TheVariants as owned
use Rattle.hcc_core.specs.declared.client.Place.{Place}
use Rattle.hcc_core.specs.declared.client.Place.TheVariants as places
use Rattle.hcc_core.specs.declared.setup.Setup.{Setup}
use Rattle.hcc_core.specs.Lawful.{is_in}
use Rattle.hcc_core.specs.Ledgers.{grant_of}
use Rattle.hcc_core.specs.Sums.{when}
use Rattle.hcc_rule.specs.declared.view.View.{View}
use Rattle.hcc_rule.specs.Between.{IsBetweenCalls}
use Rattle.hcc_rule.specs.ToldLedgers.{after_charge, after_quit, after_usage, needed_of}
use Rattle.hcc_rule.proofs.Gone.{takes_alike}
use Rattle.hcc_charge.specs.declared.swept.Swept.{Swept}
use Rattle.hcc_charge.specs.Evicted.{IsSweptFor, Sweeps}
use Rattle.hcc_charge.specs.Reserved.{Reserves, ask_of, asked, entered, has_cause, loaded, needed_by, presses, settled_as, short_of, still_needed, surplus}
use Rattle.hcc_charge.specs.Settled.{left_place, paid, placed_anew, settled}

-- nothing is added
pub none_more : {A : Type 0} (xs : List A) → xs ≡ xs ++ []
none_more [] = refl
none_more (x ∷ xs) = ap (λ z. x ∷ z) (none_more xs)

-- at least 1 is above 0
at_least : (n : ℕ) → nat_lt 0 (max n 1) ≡ true
at_least n = lt-ltb 0 (max n 1) (omega arith)

-- the place that is asked for
abbrev place_of : Bool → Place
place_of full = cond full places.Open places.Granted

-- Without strict capacity something is asked for just where there is a cause,
pub lax_cause : (capacity charge used : ℕ) (full : Bool) → 0 < charge
    → nat_lt 0 (asked false capacity charge full used) ≡ has_cause false capacity charge full used
lax_cause capacity charge used true some = at_least (ask_of capacity used charge)
lax_cause capacity charge used false some = by (presses capacity charge used)
  where
    more : ℕ
    more = surplus capacity used charge

    by : (b : Bool) → nat_lt 0 (cond b (charge + more) 0) ≡ b
    by true = lt-ltb 0 (charge + more) (omega arith)
    by false = refl

-- and so it is under it.
pub strict_cause : (capacity charge used : ℕ) (full : Bool)
    → nat_lt 0 (asked true capacity charge full used) ≡ has_cause true capacity charge full used
strict_cause capacity charge used true = at_least (still_needed capacity used charge)
strict_cause capacity charge used false = refl

-- A place is granted where none has to be freed, or one was.
left_granted : (slots : ℕ) (full : Bool) → (full ≡ true → 0 < slots)
    → left_place slots (place_of full) ≡ places.Granted
left_granted slots true freed =
    ap (λ b. cond b places.Granted places.Open) (lt-ltb 0 slots (freed refl))
left_granted slots false freed = by (nat_lt 0 slots)
  where
    by : (b : Bool) → cond b places.Granted places.Granted ≡ places.Granted
    by true = refl
    by false = refl

full_some : (full : Bool) → full ≡ true → 0 < when full 1
full_some full is = rw is (let one : 0 < 1 = omega arith in one)

-- What the code needs under strict capacity is what the step needed.
pub needed_same : (setup : Setup) (capacity used charge : ℕ) → setup.strict ≡ true
    → setup.capacity ≡ capacity → needed_of setup used charge ≡ still_needed capacity used charge
needed_same setup capacity used charge strict same =
    ap (λ s. charge - cond s (min charge (setup.capacity - min used setup.capacity)) charge) strict
    ∙ ap (λ n. still_needed n used charge) same

module _ {T : Type 0} where
  -- A client asked: it has a place and amounts in hand, and more was counted.
  pub record Asked (strict : Bool) (capacity charge : ℕ) (v a : View T) : Type 0 where
    pub full : Bool
    pub used : ℕ
    pub got : ℕ
    pub same : a ≡ record v {
      work = record v.work {
        place = place_of full;
        granted = got;
        needed = needed_by strict capacity used charge;
      };
      open_places = v.open_places + when full 1;
      seen = v.seen ++ loaded strict used;
      tight = v.tight ++ short_of (needed_by strict capacity used charge) charge;
    }

  -- Without strict capacity it loaded the usage,
  abbrev pub asks_lax : (full : Bool) (capacity used charge : ℕ) (v u a : View T)
      → IsBetweenCalls v.work → u ≡ entered full v → a ≡ after_usage used u
      → Asked false capacity charge v a
  asks_lax full capacity used charge v u a idle enters loads = record {
    full = full;
    used = used;
    got = 0;
    same = loads ∙ (ap (after_usage used) enters ∙ (λ k. record v {
      work = record v.work {
        place = place_of full;
        granted = ap (λ (c : Client). c.granted) idle k;
        needed = ap (λ (c : Client). c.needed) idle k;
      };
      open_places = v.open_places + when full 1;
      seen = v.seen ++ used ∷ [];
      tight = none_more v.tight k;
    }));
  }

  -- and under it it added the charge.
  abbrev pub asks_strict : (setup : Setup) (full : Bool) (capacity used charge : ℕ)
      (v u a : View T) → setup.strict ≡ true → setup.capacity ≡ capacity → u ≡ entered full v
      → a ≡ after_charge setup charge used u → Asked true capacity charge v a
  asks_strict setup full capacity used charge v u a strict within enters charges = record {
    full = full;
    used = used;
    got = grant_of setup used charge;
    same = charges ∙ (ap (after_charge setup charge used) enters ∙ (λ k. record v {
      work = record v.work {
        place = place_of full;
        granted = grant_of setup used charge;
        needed = needs k;
      };
      open_places = v.open_places + when full 1;
      seen = none_more v.seen k;
      tight =
          (joins (nat_lt 0 (needed_of setup used charge))
          ∙ ap (λ n. v.tight ++ short_of n charge) needs) k;
    }));
  }
    where
      needs : needed_of setup used charge ≡ still_needed capacity used charge
      needs = needed_same setup capacity used charge strict within

      joins : (b : Bool)
          → cond b (v.tight ++ charge ∷ []) v.tight ≡ v.tight ++ cond b (charge ∷ []) []
      joins true = refl
      joins false = none_more v.tight

  -- It asked, and then turns of the hand took entries.
  module _ {strict : Bool} {capacity charge : ℕ} (swept : Swept) {v a b : View T}
      (idle : IsBetweenCalls v.work) (ask : Asked strict capacity charge v a)
      (s : Sweeps swept.turns swept.slots swept.charge a b) where
    abbrev need : ℕ
    need = needed_by strict capacity ask.used charge

    got_is : b.work.granted ≡ ask.got
    got_is =
        ap (λ (z : View T). z.work.granted) s.same ∙ ap (λ (z : View T). z.work.granted) ask.same

    need_is : b.work.needed ≡ need
    need_is =
        ap (λ (z : View T). z.work.needed) s.same ∙ ap (λ (z : View T). z.work.needed) ask.same

    place_is : b.work.place ≡ place_of ask.full
    place_is =
        ap (λ (z : View T). z.work.place) s.same ∙ ap (λ (z : View T). z.work.place) ask.same

    freed_is : b.work.freed ≡ swept.charge
    freed_is =
        let was : a.work.freed ≡ 0 =
        ap (λ (z : View T). z.work.freed) ask.same ∙ ap (λ (c : Client). c.freed) idle in
        let now : b.work.freed ≡ a.work.freed + swept.charge =
        ap (λ (z : View T). z.work.freed) s.same in
        omega arith

    freed_slots_is : b.work.freed_slots ≡ swept.slots
    freed_slots_is =
        let was : a.work.freed_slots ≡ 0 =
        ap (λ (z : View T). z.work.freed_slots) ask.same
        ∙ ap (λ (c : Client). c.freed_slots) idle in
        let now : b.work.freed_slots ≡ a.work.freed_slots + swept.slots =
        ap (λ (z : View T). z.work.freed_slots) s.same in
        omega arith

    -- a place is granted where none has to be freed, or one was
    granted_is : (ask.full ≡ true → 0 < swept.slots)
        → left_place b.work.freed_slots b.work.place ≡ places.Granted
    granted_is placed =
        (λ k. left_place (freed_slots_is k) (place_is k))
        ∙ left_granted swept.slots ask.full placed

    -- It was settled then.
    module _ (slots : ℕ) (place : Place) (granted : ℕ) (w : View T)
        (left : w ≡ settled_as place granted b) where
      -- more places are open where the shard was full
      pub opened_more : ask.full ≡ true → v.open_places < w.open_places
      opened_more is =
          let now : w.open_places ≡ v.open_places + when ask.full 1 =
          ap (λ (z : View T). z.open_places) left ∙ (ap (λ (z : View T). z.open_places) s.same
          ∙ ap (λ (z : View T). z.open_places) ask.same) in
          let some = full_some ask.full is in
          omega arith

      -- no taking was made where no slot was freed
      pub untaken : swept.slots ≡ 0 → w.takings ≡ v.takings
      untaken none =
          let now : w.takings ≡ v.takings + swept.slots =
          ap (λ (z : View T). z.takings) left ∙ (ap (λ (z : View T). z.takings) s.same
          ∙ ap (λ (z : View T). z.takings + swept.slots) ask.same) in
          omega arith

      pub tight_is : w.tight ≡ v.tight ++ short_of need charge
      tight_is =
          ap (λ (z : View T). z.tight) left ∙ (ap (λ (z : View T). z.tight) s.same
          ∙ ap (λ (z : View T). z.tight) ask.same)

      abbrev pub reserves : {had has : Bool}
          → nat_lt 0 swept.turns ≡ (had && has_cause strict capacity charge ask.full ask.used)
          → IsSweptFor had has slots (asked strict capacity charge ask.full ask.used) swept
          → Reserves had has slots capacity strict charge place granted v w
      reserves cause evicts = record {
        shortage = record {
          full = ask.full;
          used = ask.used;
          swept = swept;
          cause = cause;
          evicts = evicts;
        };
        same =
            left ∙ (ap (settled_as place granted) s.same ∙ (ap (λ (z : View T). record z {
              work = record z.work {
                looked = b.work.looked;
                owned = owned.Nothing;
                trail = [];
                place = place;
                granted = granted;
                needed = 0;
                freed = 0;
                freed_slots = 0;
                dead = b.work.dead;
              };
              written = b.written;
              takings = z.takings + swept.slots;
              gone = b.gone;
              turns = z.turns + swept.turns;
            }) ask.same ∙ (λ k. record v {
              work = record v.work {
                looked = sym (ap (λ (z : View T). z.work.looked) left) k;
                owned = owned.Nothing;
                trail = [];
                place = place;
                granted = granted;
                needed = 0;
                freed = 0;
                freed_slots = 0;
                dead = sym (ap (λ (z : View T). z.work.dead) left) k;
              };
              written = sym (ap (λ (z : View T). z.written) left) k;
              takings = v.takings + swept.slots;
              gone = sym (ap (λ (z : View T). z.gone) left) k;
              open_places = v.open_places + when ask.full 1;
              turns = v.turns + swept.turns;
              seen = v.seen ++ loaded strict ask.used;
              tight = v.tight ++ short_of need charge;
            })));
        dead = λ stamp h.
            subst (λ d. is_in stamp d ≡ true) (sym (ap (λ (z : View T). z.work.dead) left))
            (s.dead stamp
            (subst (λ d. is_in stamp d ≡ true)
            (sym (ap (λ (z : View T). z.work.dead) ask.same)) h));
        taken =
            takes_alike s.taken (sym (ap (λ (z : View T). z.gone) ask.same))
            (ap (λ (z : View T). z.gone) left);
      }

    -- Nothing was freed, and the place was given back.
    pub quits_as : swept.charge ≡ 0 → ask.got ≡ 0 → need ≡ 0 → (w : View T) → w ≡ after_quit b
        → w ≡ settled_as places.Absent 0 b
    quits_as none nothing no_need w same =
        same ∙ (λ k. record b {
          work = record b.work {
            place = places.Absent;
            granted = (got_is ∙ nothing) k;
            needed = (need_is ∙ no_need) k;
            freed = (freed_is ∙ none) k;
            freed_slots = 0;
          };
        })

    -- Without strict capacity all of the charge is granted, once a place is.
    pub charges_as : (setup : Setup) (found : ℕ) (c d w : View T) → setup.strict ≡ false
        → (ask.full ≡ true → 0 < swept.slots) → c ≡ placed_anew b
        → d ≡ after_charge setup charge found c → w ≡ paid d
        → w ≡ settled_as places.Granted charge b
    charges_as setup found c d w lax placed places_anew charges pays =
        pays ∙ (ap paid charges
        ∙ (ap (λ (z : View T). paid (after_charge setup charge found z)) places_anew
        ∙ (λ k. record b {
          work = record b.work {
            place = granted_is placed k;
            granted = all k;
            needed = 0;
            freed = 0;
            freed_slots = 0;
          };
          tight = ap (λ n. cond (nat_lt 0 n) (b.tight ++ charge ∷ []) b.tight) none_needed k;
        })))
      where
        grants : grant_of setup found charge ≡ charge
        grants =
            ap (λ s. cond s (min charge (setup.capacity - min found setup.capacity)) charge) lax

        none_needed : needed_of setup found charge ≡ 0
        none_needed = let g = grants in omega arith

        all : grant_of setup found charge + needed_of setup found charge ≡ charge
        all = let g = grants in let n = none_needed in omega arith

    -- Under it what was needed is granted once it was freed.
    pub settles_as : (w : View T) → ask.got + need ≡ charge
        → (ask.full ≡ true → 0 < swept.slots) → w ≡ settled b
        → w ≡ settled_as places.Granted charge b
    settles_as w whole placed same =
        same ∙ (λ k. record b {
          work = record b.work {
            place = granted_is placed k;
            granted = all k;
            needed = 0;
            freed = 0;
            freed_slots = 0;
          };
        })
      where
        all : b.work.granted + b.work.needed ≡ charge
        all = let g = got_is in let n = need_is in omega arith

-- What an insertion reserved and evicted, and its steps.
use Rattle.std.proofs.Common.{◌≡◌, ℕ, ◌+◌, ◌-◌, ◌*◌, ◌<◌, ◌≤◌, Bool, true, false, List, [], ◌∷◌, ◌++◌, Ok, Err, sym, subst, refl, ap, ◌∙◌, arith}
use Rattle.std.proofs.Math.Nat.{mul-le-mul_left}
use Rattle.std.proofs.lemmas.List.{append_assoc}
use Rattle.hcc_core.specs.declared.client.Standalone.{Standalone}
use Rattle.hcc_core.specs.declared.client.Place.{Place}
use Rattle.hcc_core.specs.Sums.{when}
use Rattle.hcc_core.specs.Lawful.{is_in}
use Rattle.hcc_rule.specs.declared.key.Key.{Key}
use Rattle.hcc_rule.specs.declared.steps.shows.Draft.{Draft}
use Rattle.hcc_rule.specs.declared.view.Atomic.{Atomic}
use Rattle.hcc_rule.specs.declared.view.Made.{Made}
use Rattle.hcc_rule.specs.declared.view.Record.{Record}
use Rattle.hcc_rule.specs.declared.view.View.{View}
use Rattle.hcc_rule.specs.Callers.{plan_of, slots_of}
use Rattle.hcc_rule.specs.Addresses.{address_of_meta}
use Rattle.hcc_rule.specs.Events.{charge_done, quit_done, stand_done, waive_done}
use Rattle.hcc_rule.specs.Rule.{setup_of}
use Rattle.hcc_rule.specs.Seats.{SeatOf, atomic, made, steps, view}
use Rattle.hcc_rule.specs.ToldOwners.{after_show, first_word, made_of}
use Rattle.hcc_rule.specs.Views.{Each}
use Rattle.hcc_rule.specs.Words.{key_of}
use Rattle.hcc_table.specs.declared.efforts.Effort.{Effort}
use Rattle.hcc_table.specs.declared.inserting.Insertion.{Insertion}
use Rattle.hcc_table.specs.declared.inserting.Insertion.TheVariants.{Placed}
use Rattle.hcc_table.specs.Efforts.{Lost}
use Rattle.hcc_table.specs.Rises.{Rose}
use Rattle.hcc_table.specs.Inserted.{IsPlaced, Meets, Tried}
use Rattle.hcc_table.specs.Searched.{Buried}
use Rattle.hcc_table.proofs.Logs.{adds_none, adds_then, ends_adds}
use Rattle.hcc_table.proofs.Seeking.{goes_event, goes_none, goes_then}
use Rattle.hcc_table.specs.Steps.{Adds, Among, Ends, MakesAtMost, MakesFor}
use Rattle.hcc_table.specs.Seeking.{GoesOnBy, is_booking}
use Rattle.hcc_table.specs.Tries.{Inserts}
use Rattle.hcc_charge.specs.declared.reserving.Refused.{Refused}
use Rattle.hcc_charge.specs.declared.reserving.Refused.TheVariants.{TooLarge, CapacityFull, OccupancyFull}
use Rattle.hcc_charge.specs.declared.reserving.Reservation.{Reservation}
use Rattle.hcc_charge.specs.declared.reserving.Reservation.TheVariants.{Reserved, NoPlace}
use Rattle.hcc_charge.specs.Asked.{EvictsBy, EvictsNothing}
use Rattle.hcc_charge.specs.Evicted.{asking, evicting, most_turns, sweeping}
use Rattle.hcc_charge.specs.Reserved.{Reserves, sweeping_between}
use Rattle.hcc_charge.proofs.Askings.{between_is, keeps_by, keeps_then}
use Rattle.hcc_shard.specs.declared.seat.ShardSeat.{ShardSeat}
use Rattle.hcc_shard.specs.declared.shard.Shard.{Shard}
use Rattle.hcc_shard.specs.Inserted.{RefusedBy, Tries, inserting_listed, listed_between}
use Rattle.hcc_shard.specs.Reserving.{CountsSlots, EndsBy, IsLeftFor, LeavesOut, PutsIn, Refuses, TriesEach, TriesFrom, left_out}

-- Turns and what they took are within what an eviction may do.
sweeping_within : (slots loads turns freed : ℕ) → turns ≤ most_turns slots → freed ≤ 4 * turns
    → sweeping (slots + loads) turns freed ≤ evicting slots loads
sweeping_within slots loads turns freed few modest =
    let most = mul-le-mul_left {m = freed} {n = 4 * most_turns slots} (slots + loads + 4)
    (omega arith) in
    omega arith

module _ {T : Type 0} where
  -- A step among others comes behind what was made before.
  pub among_adds : (one : Atomic) (a b : SeatOf T) → Among one a b → Adds a b
  among_adds one a b h = (
    (h.0 ++ one ∷ []) ++ h.1,
    h.2 ∙ (ap (λ xs. xs ++ h.1) (append_assoc (steps a) h.0 (one ∷ []))
        ∙ append_assoc (steps a) (h.0 ++ one ∷ []) h.1),
  )

  -- What was met last of all was so from an earlier view to a later one.
  pub meets_from : (key : Key) (v a b w : View T) → a.met ≡ v.met → w.met ≡ b.met
      → Meets key a b → Meets key v w
  meets_from key v a b w before behind h =
      (h.0, behind ∙ (h.1 ∙ ap (λ xs. xs ++ h.0 ++ key ∷ []) before))

  -- So it is with what the client held.
  pub buried_from : (key : Key) (P : ℕ → Type 0) (v a w : View T) → a.records ≡ v.records
      → Buried key P a w → Buried key P v w
  buried_from key P v a w same h =
      subst (λ rs. Each (λ (r : Record). key_of r.entry ≡ key → P r.slot
      → is_in r.entry.stamp w.work.dead ≡ true) rs) same h

  -- No entry is evicted by what puts one in a slot, or in none.
  pub idle_placed : (slot : ℕ) (draft : Draft) (value : List ℕ) (v w : View T)
      → Tried (after_show slot draft.name (made_of draft value) v) w → EvictsNothing v w
  idle_placed slot draft value v w t = keeps_by _ w v t.same refl refl refl refl

  pub idle_tried : (v w : View T) → Tried v w → EvictsNothing v w
  idle_tried v w t = keeps_by _ w v t.same refl refl refl refl

  -- An insertion's turns are few.
  pub tries_within : {had has : Bool} {slots capacity : ℕ} {strict : Bool} {charge stamps : ℕ}
      {standalones : List Standalone} {records : List Record} {mades : List Made} {v w : View T}
      → Tries had has slots capacity strict charge stamps standalones records mades v w
      → (loads : ℕ) → sweeping_between (slots + loads) v w ≤ evicting slots loads
  tries_within {slots = slots} {v = v} {w = w} t loads =
      rw (between_is (slots + loads) t.shortage.swept.turns t.shortage.swept.slots v w
      (ap (λ (z : View T). z.turns) t.same) (ap (λ (z : View T). z.takings) t.same))
      (sweeping_within slots loads t.shortage.swept.turns t.shortage.swept.slots
      t.shortage.evicts.few t.shortage.evicts.modest.slots)

  pub refused_within : (had has : Bool) (slots capacity : ℕ) (strict : Bool) (draft : Draft)
      (why : Refused) (v w : View T) → RefusedBy had has slots capacity strict draft why v w
      → (loads : ℕ) → sweeping_between (slots + loads) v w ≤ evicting slots loads
  refused_within had has slots capacity strict draft TooLarge v w told loads =
      rw (between_is (slots + loads) 0 0 v w (ap (λ (z : View T). z.turns) told.2 ∙ (omega arith))
      (ap (λ (z : View T). z.takings) told.2 ∙ (omega arith))) (omega arith)
  refused_within had has slots capacity strict draft CapacityFull v w told loads =
      tries_within told.0 loads
  refused_within had has slots capacity strict draft OccupancyFull v w told loads =
      tries_within told.0 loads

  -- The steps of an insertion: the reservation's, at most 7 for each slot that was visited, and
  -- what came behind them.
  pub frees_by : (slots room loads visited : ℕ) (v a w : SeatOf T) (old new : Effort)
      → visited ≤ slots → Rose visited visited old.probes new.probes
      → MakesAtMost (asking + sweeping_between (slots + loads) (view v) (view a)) v a
      → MakesAtMost (7 * visited + (slots + room + 3)) a w → EvictsNothing (view a) (view w)
      → MakesFor 7 (listed_between slots room loads (view v) (view w)) slots old new v w
  frees_by slots room loads visited v a w old new within counted first behind idle = record {
    visited = visited;
    within = within;
    counted = counted;
    steps =
        subst (λ n. made w ≤ made v + 7 * visited + (n + slots + room + asking + 3)) (sym same)
        (omega arith);
  }
    where
      same : sweeping_between (slots + loads) (view v) (view w)
          ≡ sweeping_between (slots + loads) (view v) (view a)
      same = λ k. sweeping (slots + loads) (idle.turns k - (view v).turns)
          (idle.takings k - (view v).takings)

  -- They are within what an insertion may make, whatever it frees.
  pub few_by : (slots room loads : ℕ) (v w : SeatOf T) (old new : Effort)
      → MakesFor 7 (listed_between slots room loads (view v) (view w)) slots old new v w
      → sweeping_between (slots + loads) (view v) (view w) ≤ evicting slots loads
      → MakesAtMost (inserting_listed slots room loads) v w
  few_by slots room loads v w old new h few =
      let visited = h.within in
      let steps = h.steps in
      omega arith

-- nothing was counted
pub rose_same : (old new : ℕ) → new ≡ old → Rose 0 0 old new
rose_same old new same = (omega arith, λ low. omega arith, omega arith)

-- The slots that were visited are those of the whole call.
slots_from : {T : Type 0} (answer : Insertion) (old mid between new : ShardSeat T)
    → (view mid.seat).saw ≡ (view old.seat).saw → mid.effort.probes ≡ old.effort.probes
    → (view new.seat).saw ≡ (view between.seat).saw → new.effort ≡ between.effort
    → CountsSlots answer mid between → CountsSlots answer old new
slots_from answer old mid between new saw probes last same h =
    let later : new.effort.probes ≡ between.effort.probes = ap (λ (e : Effort). e.probes) same in
    let low = h.2.0 in
    let exact = h.2.1 in
    let high = h.2.2 in
    (h.0, omega arith, (omega arith, λ end. omega arith, omega arith))

module _ {T A : Type 0} (shard : Shard T A) (draft : Draft) where
  -- Why an entry is in no slot is told of the whole call, too.
  pub left_from : (matched : Bool) (old mid between new : ShardSeat T)
      → (view mid.seat).met ≡ (view old.seat).met → (view mid.seat).saw ≡ (view old.seat).saw
      → (view new.seat).met ≡ (view between.seat).met
      → (view new.seat).saw ≡ (view between.seat).saw
      → IsLeftFor shard draft Reserved matched mid between
      → IsLeftFor shard draft Reserved matched old new
  left_from true old mid between new met saw later last why =
      meets_from draft.key (view old.seat) (view mid.seat) (view between.seat) (view new.seat)
      met later why
  left_from false old mid between new met saw later last why = omega arith

  -- What comes behind the tries keeps what was reserved, or gives it back.
  pub ends_book : (keeps : Bool) (told : Reservation) (a b : SeatOf T)
      → EndsBy shard draft keeps told a b → GoesOnBy shard.table is_booking a b
  ends_book false Reserved a b h =
      goes_then shard.table is_booking a h.0 b
      (goes_event shard.table is_booking (quit_done (view a)) a h.0 h.1 refl)
      (goes_event shard.table is_booking (waive_done (view h.0)) h.0 b h.2 refl)
  ends_book false NoPlace a b h = goes_none shard.table is_booking a b h
  ends_book true Reserved a b h =
      goes_then shard.table is_booking a h.0 b
      (goes_event shard.table is_booking (quit_done (view a)) a h.0 h.1 refl)
      (goes_event shard.table is_booking (stand_done draft.serial draft.charge (view h.0)) h.0 b
      h.2 refl)
  ends_book true NoPlace a b h =
      goes_then shard.table is_booking a h.1 b
      (goes_event shard.table is_booking
      (charge_done (setup_of (plan_of shard.table)) draft.charge h.0 (view a)) a h.1 h.2 refl)
      (goes_event shard.table is_booking (stand_done draft.serial draft.charge (view h.1)) h.1 b
      h.3 refl)

  module _ (fits : T → Key → List ℕ → Type 0) (had has : Bool) where
    -- A refusal by the reservation.
    pub refuses : (why : Refused) (old new : ShardSeat T)
        → EvictsBy fits shard.table draft.charge had has (Err why) old.tally new.tally
        old.effort new.effort old.seat new.seat
        → new.effort.probes ≡ old.effort.probes → new.boosts ≡ old.boosts
        → Refuses fits shard draft had has why old new
    refuses why old new evicts probes boosts = record {
      reserves = record {
        reserved = new.seat;
        counted = new.effort;
        evicts = evicts;
        idle = record { turns = refl; takings = refl; gone = refl; opened = refl };
        rest = λ less. adds_none new.seat new.seat refl;
      };
      ends = refl;
      counts = refl;
      probes = probes;
      boosts = boosts;
    }

    -- What was tried from where the reservation ended.
    tries_from : (answer : Insertion) (mid between new : ShardSeat T)
        → TriesEach fits shard draft answer mid between → new.effort ≡ between.effort
        → Adds between.seat new.seat
        → TriesFrom fits shard draft mid.seat mid.effort answer new
    tries_from answer mid between new tries same behind = record {
      done = between.seat;
      inserts =
          subst (λ e. Inserts fits shard.table draft.key draft.serial draft.countdown answer
          mid.effort e mid.seat between.seat) (sym same) tries.inserts;
      adds = behind;
    }

    -- The entry was put in a slot that was reserved for it.
    pub puts_in : {slots capacity : ℕ} {strict : Bool} {charge granted i : ℕ} {place : Place}
        (slot : ℕ) (value : List ℕ) (old mid new : ShardSeat T)
        → Reserves had has slots capacity strict charge place granted (view old.seat) (view
        mid.seat)
        → Lost 0 (4 * most_turns (slots_of shard.table)) old.effort mid.effort
        → new.tally ≡ mid.tally
        → EvictsBy fits shard.table draft.charge had has (Ok Reserved) old.tally mid.tally
        old.effort mid.effort old.seat mid.seat
        → IsPlaced (slots_of shard.table) slot i draft value (view mid.seat) (view new.seat)
        → Ends (atomic (address_of_meta shard.table slot) (first_word draft) 0 (first_word draft))
        mid.seat new.seat
        → TriesEach fits shard draft (Placed slot) mid new
        → new.boosts ≡ old.boosts → PutsIn fits shard draft had has slot old new
    unfolding tries_from
    puts_in {i = i} slot value old mid new r lost counts evicts told last tries boosts = record {
      reserves = record {
        reserved = mid.seat;
        counted = mid.effort;
        evicts =
            subst (λ t. EvictsBy fits shard.table draft.charge had has (Ok Reserved) old.tally t
            old.effort mid.effort old.seat mid.seat) (sym counts) evicts;
        idle = idle_placed slot draft value (view mid.seat) (view new.seat) told.tried;
        rest = λ less. ends_adds _ mid.seat new.seat last;
      };
      i = i;
      probe = told.probe;
      saw = told.saw ∙ ap (λ (z : View T). z.saw + i) r.same;
      dead =
          buried_from draft.key _ (view old.seat) (view mid.seat) (view new.seat)
          (ap (λ (z : View T). z.records) r.same) told.dead;
      last = last;
      tries =
          tries_from (Placed slot) mid new new tries refl (adds_none new.seat new.seat refl);
      ends = refl;
      probes =
          slots_from (Placed slot) old mid new new (ap (λ (z : View T). z.saw) r.same) lost.0
          refl refl tries.counts;
      boosts = boosts;
    }

    -- It was put in none, though a place was reserved,
    pub leaves_reserved : {slots capacity : ℕ} {strict : Bool} {charge granted : ℕ} {place : Place}
        (matched keeps : Bool) (old mid between new : ShardSeat T)
        → Reserves had has slots capacity strict charge place granted (view old.seat) (view
        mid.seat)
        → Lost 0 (4 * most_turns (slots_of shard.table)) old.effort mid.effort
        → new.tally ≡ mid.tally
        → EvictsBy fits shard.table draft.charge had has (Ok Reserved) old.tally mid.tally
        old.effort mid.effort old.seat mid.seat
        → Tried (view mid.seat) (view between.seat)
        → ((view between.seat).saw < (view mid.seat).saw + slots_of shard.table
        → Adds mid.seat between.seat)
        → IsLeftFor shard draft Reserved matched mid between
        → EvictsNothing (view between.seat) (view new.seat)
        → (view new.seat).met ≡ (view between.seat).met
        → (view new.seat).saw ≡ (view between.seat).saw → Adds between.seat new.seat
        → EndsBy shard draft keeps Reserved between.seat new.seat
        → Rose (when matched 1) (when matched 1) old.boosts new.boosts
        → TriesEach fits shard draft (left_out matched) mid between → new.effort ≡ between.effort
        → LeavesOut fits shard draft had has keeps old new
    unfolding tries_from
    leaves_reserved matched keeps old mid between new r lost counts evicts tried adds why idle met
        saw behind ends boosts tries same = record {
          told = Reserved;
          matched = matched;
          reserves = record {
            reserved = mid.seat;
            counted = mid.effort;
            evicts =
                subst (λ t. EvictsBy fits shard.table draft.charge had has (Ok Reserved) old.tally t
                old.effort mid.effort old.seat mid.seat) (sym counts) evicts;
            idle =
                keeps_then (view mid.seat) (view between.seat) (view new.seat)
                (idle_tried (view mid.seat) (view between.seat) tried) idle;
            rest = λ less.
                let was = first in
                adds_then mid.seat between.seat new.seat (adds (omega arith)) behind;
          };
          why =
              left_from matched old mid between new (ap (λ (z : View T). z.met) r.same) first met
              saw why;
          tries =
              tries_from (left_out matched) mid between new tries same behind;
          ends = ends;
          probes =
              slots_from (left_out matched) old mid between new first lost.0 saw same
              tries.counts;
          boosts = boosts;
        }
      where
        first : (view mid.seat).saw ≡ (view old.seat).saw
        first = ap (λ (z : View T). z.saw) r.same

    -- or no place was.
    pub leaves_unreserved : {slots capacity : ℕ} {strict : Bool} {charge granted : ℕ}
        {place : Place} (keeps : Bool) (old new : ShardSeat T) (a : SeatOf T)
        → Reserves had has slots capacity strict charge place granted (view old.seat) (view a)
        → EvictsBy fits shard.table draft.charge had has (Ok NoPlace) old.tally new.tally
        old.effort new.effort old.seat a
        → EvictsNothing (view a) (view new.seat) → (view new.seat).saw ≡ (view a).saw
        → Adds a new.seat → EndsBy shard draft keeps NoPlace a new.seat
        → new.effort.probes ≡ old.effort.probes → new.boosts ≡ old.boosts
        → LeavesOut fits shard draft had has keeps old new
    leaves_unreserved keeps old new a r evicts idle saw behind ends probes boosts = record {
      told = NoPlace;
      matched = false;
      reserves = record {
        reserved = a;
        counted = new.effort;
        evicts = evicts;
        idle = idle;
        rest = λ less. behind;
      };
      why = (refl, saw ∙ ap (λ (z : View T). z.saw) r.same, probes);
      tries = refl;
      ends = ends;
      probes = (
        0,
        (let before = ap (λ (z : View T). z.saw) r.same in omega arith),
        rose_same old.effort.probes new.effort.probes probes,
      );
      boosts = rose_same old.boosts new.boosts boosts;
    }

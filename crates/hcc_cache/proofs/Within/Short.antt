-- Where an insertion found no room.
use Rattle.std.proofs.Common.{◌≡◌, ◌⊎◌, inl, inr, ℕ, ◌+◌, ◌-◌, min, ◌<◌, ◌≤◌, ◌&&◌, Bool, true, false, nat_le, nat_lt, List, ◌++◌, Result, Ok, Err, cond, refl, sym, ap, subst, ◌∙◌, arith}
use Rattle.std.specs.Prelude.{if◌then◌else◌}
use Rattle.std.proofs.lemmas.Bool.{cases_lt, le-ltb, leb-true, ltb-false, ltb-true}
use Rattle.std.specs.declared.alloc.Global.{Global}
use Rattle.hcc_core.specs.declared.event.Event.TheVariants as events
use Rattle.hcc_core.specs.declared.event.Reply.TheVariants as replies
use Rattle.hcc_core.specs.declared.setup.Setup.{Setup}
use Rattle.hcc_core.specs.Ledgers.{charge_by, enter_of, grant_of, may_charge}
use Rattle.hcc_core.specs.Outcomes.{allow, live_at}
use Rattle.hcc_core.specs.Steps.{outcome_of}
use Rattle.hcc_core.specs.World.{State, is_absent, limit_of, occupancy_of, usage_of}
use Rattle.hcc_rule.specs.declared.key.Key.{Key}
use Rattle.hcc_rule.specs.declared.steps.shows.Draft.{Draft}
use Rattle.hcc_rule.specs.declared.table.RuleTable.{RuleTable}
use Rattle.hcc_rule.specs.declared.view.Done.{Done}
use Rattle.hcc_rule.specs.Acts.{events_of, past, world_of}
use Rattle.hcc_rule.specs.Callers.{IsEvent, capacity_of, is_strict, plan_of, world_at}
use Rattle.hcc_rule.specs.Events.{charge_done, enter_done, entered, usage_done}
use Rattle.hcc_rule.specs.Opening.{begun_world}
use Rattle.hcc_rule.specs.Rule.{setup_of}
use Rattle.hcc_rule.specs.Seats.{SeatOf, view}
use Rattle.hcc_table.specs.declared.efforts.Effort.{Effort}
use Rattle.hcc_table.proofs.Alone.{usage_tells}
use Rattle.hcc_table.proofs.Setups.{setup_stays}
use Rattle.hcc_table.proofs.Shown.{bound, ruled, same_outcome}
use Rattle.hcc_charge.specs.declared.reserving.Refused.{Refused}
use Rattle.hcc_charge.specs.declared.reserving.Refused.TheVariants as refused
use Rattle.hcc_charge.specs.declared.reserving.Reservation.{Reservation}
use Rattle.hcc_charge.specs.declared.reserving.Reservation.TheVariants.{Reserved, NoPlace}
use Rattle.hcc_charge.specs.declared.tally.Tally.{Tally}
use Rattle.hcc_charge.specs.Asked.{EvictsAsAsked, FindsBy, is_full}
use Rattle.hcc_charge.specs.Reserved.{ask_of, asked, needed_by, still_needed, surplus}
use Rattle.hcc_shard.specs.declared.inserting.Inserted.{Inserted as Stored}
use Rattle.hcc_shard.specs.declared.inserting.Inserted.TheVariants as stored
use Rattle.hcc_shard.specs.declared.inserting.Pinned.{Pinned}
use Rattle.hcc_shard.specs.declared.inserting.Pinned.TheVariants as pinned
use Rattle.hcc_shard.specs.declared.seat.ShardSeat.{ShardSeat}
use Rattle.hcc_shard.specs.declared.shard.Shard.{Shard}
use Rattle.hcc_shard.specs.Reserving.{InsertedAs, PinnedAs, ReservedAs}
use Rattle.hcc_cache.specs.declared.seeded.Seeded.{Seeded}
use Rattle.hcc_cache.specs.Keys.{fits_seeded}
use Rattle.hcc_cache.specs.Met.{FoundFull, FoundTight, IsShort, ReservedShort, ShortAs, ShortPinnedAs, finding}
use Rattle.hcc_cache.specs.Room.{TurnsNone}
use Rattle.hcc_cache.proofs.Within.Hidden.{leads_from}

-- where no place was left none is granted
entered_full : (w next : State) (setup : Setup) (client taken : ℕ) → w.setup ≡ setup
    → outcome_of w (events.Enter client) ≡ Ok (entered setup taken, next)
    → nat_le (limit_of setup) taken ≡ true → limit_of setup ≤ occupancy_of w
unfolding enter_of
entered_full w next setup client taken same is full =
    let first = bound (live_at w client) _ _ (ruled w (events.Enter client) _ is) in
    let second = bound (allow (is_absent first.0.place)) _ _ first.2 in
    subst (λ s. limit_of s ≤ occupancy_of w) same
    (by (nat_lt (occupancy_of w) (limit_of w.setup)) refl
    (ap (λ z. z.0) (same_outcome _ _ second.2)
    ∙ ap (λ b. if b then replies.Granted else replies.Open)
    (le-ltb taken (limit_of setup) (leb-true (limit_of setup) taken full))))
  where
    by : (b : Bool) → nat_lt (occupancy_of w) (limit_of w.setup) ≡ b
        → (if b then replies.Granted else replies.Open) ≡ replies.Open
        → limit_of w.setup ≤ occupancy_of w
    by true less reply = cc
    by false less reply = ltb-false (occupancy_of w) (limit_of w.setup) less

same_split : (m n k l : ℕ) → replies.Split m n ≡ replies.Split k l → m ≡ k
same_split m n k l is = cc

-- a charge is granted by the usage of the world
granted_by : (w next : State) (client charge granted needed : ℕ)
    → outcome_of w (events.Charge client charge) ≡ Ok (replies.Split granted needed, next)
    → grant_of w.setup (usage_of w) charge ≡ granted
unfolding charge_by
granted_by w next client charge granted needed is =
    let first = bound (live_at w client) _ _ (ruled w (events.Charge client charge) _ is) in
    let second = bound (allow (may_charge first.0 (usage_of w) charge)) _ _ first.2 in
    same_split _ _ _ _ (ap (λ z. z.0) (same_outcome _ _ second.2))

-- under strict capacity not all of it is, where it doesn't fit beside a usage with that grant
strict_tight : (setup : Setup) (capacity charge used usage : ℕ) → setup.strict ≡ true
    → setup.capacity ≡ capacity → grant_of setup usage charge ≡ grant_of setup used charge
    → 0 < still_needed capacity used charge → capacity < usage + charge
strict_tight setup capacity charge used usage strict within same some =
    let grants : (n : ℕ) → grant_of setup n charge ≡ min charge (capacity - min n capacity) =
    λ n. ap (λ s. cond s (min charge (setup.capacity - min n setup.capacity)) charge) strict
    ∙ ap (λ c. min charge (c - min n c)) within in
    let whole = grants usage in
    let found = grants used in
    omega arith

-- without it eviction is asked for something, where the charge doesn't fit beside the usage
lax_tight : (capacity charge used : ℕ) → 0 < ask_of capacity used charge
    → capacity < used + charge
lax_tight capacity charge used some =
    by (nat_le charge used) (nat_lt capacity (used + charge)) refl some
  where
    by : (b c : Bool) → nat_lt capacity (used + charge) ≡ c
        → 0 < (if b && c then charge + surplus capacity used charge else 0)
        → capacity < used + charge
    by true true less some = ltb-true capacity (used + charge) less
    by true false less some = absurd (omega arith)
    by false c less some = absurd (omega arith)

-- what is lacked eviction is asked for
pub lacks_ask : (strict : Bool) (capacity charge used : ℕ)
    → 0 < needed_by strict capacity used charge → 0 < asked strict capacity charge false used
lacks_ask true capacity charge used some = some
lacks_ask false capacity charge used some = absurd (omega arith)

module _ {T A : Type 0} (table : RuleTable T A) where
  setup_after : (history : List Done)
      → (world_of (plan_of table) history).setup ≡ setup_of (plan_of table)
  setup_after history = setup_stays (events_of history) (begun_world (plan_of table))

  pub found_full : (taken : ℕ) {old asked : SeatOf T}
      → IsEvent table (enter_done (setup_of (plan_of table)) taken (view old)) old asked
      → is_full table taken ≡ true → FoundFull table old asked
  found_full taken {old} {asked} event full =
      let done = enter_done (setup_of (plan_of table)) taken (view old) in
      record {
        others = event.0.others;
        done = done;
        is = refl;
        goes_on = event.0.past;
        holds =
            entered_full (world_of (plan_of table) (past old ++ event.0.others))
            (world_at table asked) (setup_of (plan_of table)) (view old).client taken
            (setup_after (past old ++ event.0.others)) (leads_from table done old asked event) full;
      }

  module _ (charge used : ℕ) {a b : SeatOf T} where
    tight_by : (strict : Bool) → is_strict table ≡ strict
        → FindsBy table strict charge used a b
        → 0 < asked strict (capacity_of table) charge false used → FoundTight table charge a b
    tight_by true kind event some =
        let done = charge_done (setup_of (plan_of table)) charge used (view a) in
        let world = world_of (plan_of table) (past a ++ event.0.others) in
        record {
          others = event.0.others;
          done = done;
          is = ap (λ s. finding s (view a).client charge) (sym kind);
          goes_on = event.0.past;
          holds =
              strict_tight (setup_of (plan_of table)) (capacity_of table) charge used
              (usage_of world) (table.planned.2 ∙ kind) table.planned.1
              (ap (λ s. grant_of s (usage_of world) charge)
              (sym (setup_after (past a ++ event.0.others)))
              ∙ granted_by world (world_at table b) (view a).client charge _ _
              (leads_from table done a b event)) some;
        }
    tight_by false kind event some =
        let done = usage_done used (view a) in
        let world = world_of (plan_of table) (past a ++ event.0.others) in
        let told = usage_tells world (world_at table b) (view a).client used
        (leads_from table done a b event) in
        let above = lax_tight (capacity_of table) charge used some in
        record {
          others = event.0.others;
          done = done;
          is = ap (λ s. finding s (view a).client charge) (sym kind);
          goes_on = event.0.past;
          holds = omega arith;
        }

    pub found_tight : FindsBy table (is_strict table) charge used a b
        → 0 < asked (is_strict table) (capacity_of table) charge false used
        → FoundTight table charge a b
    found_tight event some = tight_by (is_strict table) refl event some

module _ {T : Type 0} (fits : T → Key → List ℕ → Type 0) (shard : Shard (Seeded T) Global)
    (draft : Draft) (had has : Bool) where
  -- An eviction that made a turn was for what its reservation found short.
  turned_short : {before after : Tally} {effort counted : Effort} {a d : SeatOf (Seeded T)}
      (e : EvictsAsAsked (fits_seeded fits) shard.table draft.charge had has before after effort
      counted a d)
      → ((view d).turns ≡ (view a).turns) ⊎ IsShort fits shard draft had has e
  turned_short {a = a} {d = d} e = by (is_full shard.table e.taken) refl
    where
      ask : Bool → ℕ
      ask full = asked (is_strict shard.table) (capacity_of shard.table) draft.charge full e.used

      by : (full : Bool) → is_full shard.table e.taken ≡ full
          → ((view d).turns ≡ (view a).turns) ⊎ IsShort fits shard draft had has e
      by true full = inr (inl (found_full shard.table e.taken e.enters_by full))
      by false free = elim (cases_lt 0 (ask false)) [
        | inl some ↦ inr (inr (found_tight shard.table draft.charge e.used e.finds_by some))
        | inr none ↦
            let asks : ask (is_full shard.table e.taken) ≡ 0 = ap ask free ∙ omega arith in
            let still = ap (λ s. s.turns) (e.evicts.none asks).0 in
            let all = e.turns in
            inl (omega arith)
      ]

  module _ (old new : ShardSeat (Seeded T)) where
    reserved_short : (answer : Result Reservation Refused)
        (r : ReservedAs (fits_seeded fits) shard draft had has answer old new)
        → TurnsNone old new ⊎ ReservedShort fits shard draft had has answer old new r
    reserved_short (Ok Reserved) r = by r (turned_short r.evicts.0)
      where
        by : (r : ReservedAs (fits_seeded fits) shard draft had has (Ok Reserved) old new)
            → ((view r.reserved).turns ≡ (view old.seat).turns)
            ⊎ IsShort fits shard draft had has r.evicts.0
            → TurnsNone old new ⊎ IsShort fits shard draft had has r.evicts.0
        by r (inl same) = inl (r.idle.turns ∙ same)
        by r (inr short) = inr short
    reserved_short (Ok NoPlace) r =
        inr (inl (found_full shard.table r.evicts.0.taken r.evicts.0.enters_by r.evicts.1))
    reserved_short (Err refused.TooLarge) r =
        inl (r.idle.turns ∙ ap (λ z. (view z).turns) r.evicts.2)
    reserved_short (Err refused.CapacityFull) r =
        let e = r.evicts.0 in
        let freed = r.evicts.1 in
        inr (inr (found_tight shard.table draft.charge e.used e.finds_by
        (lacks_ask (is_strict shard.table) (capacity_of shard.table) draft.charge e.used
        (omega arith))))
    reserved_short (Err refused.OccupancyFull) r =
        inr (inl (found_full shard.table r.evicts.0.taken r.evicts.0.enters_by r.evicts.1))

    pub short_as : (answer : Result Stored Refused)
        (did : InsertedAs (fits_seeded fits) shard draft had has answer old new)
        → TurnsNone old new ⊎ ShortAs fits shard draft had has answer old new did
    short_as (Ok stored.Placed) did = reserved_short (Ok Reserved) did.1.reserves
    short_as (Ok stored.Dropped) did = reserved_short (Ok did.told) did.reserves
    short_as (Err why) did = reserved_short (Err why) did.reserves

    pub short_pinned : (answer : Result Pinned Refused)
        (did : PinnedAs (fits_seeded fits) shard draft had has answer old new)
        → TurnsNone old new ⊎ ShortPinnedAs fits shard draft had has answer old new did
    short_pinned (Ok (pinned.Placed pin)) did = reserved_short (Ok Reserved) did.reserves
    short_pinned (Ok pinned.Standalone) did = reserved_short (Ok did.told) did.reserves
    short_pinned (Err why) did = reserved_short (Err why) did.reserves

-- What a reservation leaves of what a shard shows, and what it finds where there is room.
use Rattle.std.proofs.Common.{◌≡◌, ℕ, zero, suc, ◌+◌, ◌-◌, min, ◌<◌, ◌≤◌, Bool, true, false, ◌&&◌, nat_le, nat_lt, List, Some, length, Result, Ok, Err, cond, slice_get, sym, subst, refl, ap, ◌∙◌, arith}
use Rattle.std.specs.Prelude.{if◌then◌else◌}
use Rattle.std.proofs.lemmas.Bool.{lt-leb, lt-ltb, ltb-true}
use Rattle.hcc_core.specs.declared.client.Client.{Client}
use Rattle.hcc_core.specs.declared.client.Place.{Place}
use Rattle.hcc_core.specs.declared.event.Event.TheVariants as events
use Rattle.hcc_core.specs.declared.event.Reply.TheVariants as replies
use Rattle.hcc_core.specs.declared.setup.Setup.{Setup}
use Rattle.hcc_core.specs.Ledgers.{charge_by, enter_of, grant_of, may_charge}
use Rattle.hcc_core.specs.Outcomes.{allow, live_at, with_client}
use Rattle.hcc_core.specs.Steps.{outcome_of}
use Rattle.hcc_core.specs.Sums.{when}
use Rattle.hcc_core.specs.World.{State, charged_to, is_absent, limit_of, occupancy_of, standing_of, usage_of}
use Rattle.hcc_core.proofs.Keeps.{live_ok}
use Rattle.hcc_core.proofs.SumLemmas.{total-set}
use Rattle.hcc_rule.specs.declared.key.Key.{Key}
use Rattle.hcc_rule.specs.declared.table.RuleTable.{RuleTable}
use Rattle.hcc_rule.specs.Acts.{events_of, past}
use Rattle.hcc_rule.specs.Callers.{capacity_of, clients_of, is_strict, plan_of, world_at}
use Rattle.hcc_rule.specs.Events.{charge_done, enter_done, entered, usage_done}
use Rattle.hcc_rule.specs.Opening.{begun_world}
use Rattle.hcc_rule.specs.Rule.{setup_of}
use Rattle.hcc_rule.specs.Seats.{SeatOf, view}
use Rattle.hcc_rule.specs.Views.{charge_made}
use Rattle.hcc_table.specs.declared.efforts.Effort.{Effort}
use Rattle.hcc_table.specs.Still.{GoesOnStill, is_still}
use Rattle.hcc_table.proofs.Alone.{event_alone, usage_tells}
use Rattle.hcc_table.proofs.Still.{booked_still}
use Rattle.hcc_table.proofs.Seeking.{goes_event, goes_none, goes_then}
use Rattle.hcc_table.proofs.Setups.{setup_stays}
use Rattle.hcc_table.proofs.Shown.{bound, ruled, same_outcome}
use Rattle.hcc_charge.specs.declared.reserving.Refused.{Refused}
use Rattle.hcc_charge.specs.declared.reserving.Refused.TheVariants.{TooLarge, CapacityFull, OccupancyFull}
use Rattle.hcc_charge.specs.declared.reserving.Reservation.{Reservation}
use Rattle.hcc_charge.specs.declared.reserving.Reservation.TheVariants.{Reserved, NoPlace}
use Rattle.hcc_charge.specs.declared.tally.Tally.{Tally}
use Rattle.hcc_charge.specs.Swept.{nothing_swept}
use Rattle.hcc_charge.specs.Asked.{is_full, lacked, EvictsAsAsked, EvictsBy, EvictsNothing, FindsBy}
use Rattle.hcc_charge.specs.Reserved.{asked, needed_by, still_needed, surplus}
use Rattle.hcc_charge.proofs.Askings.{none_taken}

-- Nothing is asked for where no turn was made.
asks_none : (turns ask : ℕ) → turns ≡ 0 → nat_lt 0 turns ≡ nat_lt 0 ask → ask ≡ 0
asks_none turns zero none same = refl
asks_none turns (suc n) none same =
    absurd (let more = ltb-true 0 turns (same ∙ lt-ltb 0 (suc n) (omega arith)) in omega arith)

-- Where nothing is asked for a place was left, and all of the charge is granted.
lacks_none : (strict : Bool) (capacity charge used : ℕ) (full : Bool)
    → asked strict capacity charge full used ≡ 0
    → (full ≡ false) × (needed_by strict capacity used charge ≡ 0)
lacks_none true capacity charge used true none = absurd (omega arith)
lacks_none true capacity charge used false none = (refl, none)
lacks_none false capacity charge used true none = absurd (omega arith)
lacks_none false capacity charge used false none = (refl, refl)

-- What a reservation found is no change of what is shown.
pub finds_still : {T A : Type 0} (table : RuleTable T A) (strict : Bool) (charge used : ℕ)
    (a b : SeatOf T) → FindsBy table strict charge used a b → GoesOnStill table a b
finds_still table true charge used a b event =
    goes_event table is_still (charge_done (setup_of (plan_of table)) charge used (view a)) a b
    event refl
finds_still table false charge used a b event =
    goes_event table is_still (usage_done used (view a)) a b event refl

module _ {T A : Type 0} (fits : T → Key → List ℕ → Type 0) (table : RuleTable T A) (charge : ℕ)
    {had has : Bool} {before after : Tally} {effort counted : Effort} {a d : SeatOf T} where
  -- what this reservation asked for
  abbrev pub asked_by : EvictsAsAsked fits table charge had has before after effort counted a d → ℕ
  asked_by e =
      asked (is_strict table) (capacity_of table) charge (is_full table e.taken) e.used

  -- Where its eviction did nothing all that is shown stays.
  pub idle_still : (e : EvictsAsAsked fits table charge had has before after effort counted a d)
      → e.c ≡ e.b → GoesOnStill table a d
  idle_still e none =
      goes_then table is_still a e.u d
      (goes_event table is_still (enter_done (setup_of (plan_of table)) e.taken (view a)) a e.u
      e.enters_by refl)
      (goes_then table is_still e.u e.b d
      (finds_still table (is_strict table) charge e.used e.u e.b e.finds_by)
      (subst (λ z. GoesOnStill table z d) none (booked_still table e.c d e.behind)))

  -- So it is where no turn was made:
  module _ (e : EvictsAsAsked fits table charge had has before after effort counted a d)
      (same : (view d).turns ≡ (view a).turns) where
    asks_nothing : had ≡ true → asked_by e ≡ 0
    asks_nothing room =
        asks_none e.swept.turns (asked_by e) (let all = e.turns in omega arith)
        (e.within.made ∙ ap (λ b. b && nat_lt 0 (asked_by e)) room)

    nothing_done : (e.swept ≡ nothing_swept) × (e.c ≡ e.b)
    nothing_done = by had refl
      where
        by : (b : Bool) → had ≡ b → (e.swept ≡ nothing_swept) × (e.c ≡ e.b)
        by true room = e.evicts.none (asks_nothing room)
        by false none = e.evicts.full none

    turned_still : GoesOnStill table a d
    turned_still = idle_still e nothing_done.1

    -- a place was found then, and all of the charge, if the list had room,
    turned_found : had ≡ true
        → (is_full table e.taken ≡ false) × (lacked table charge e.used ≡ 0)
    turned_found room =
        lacks_none (is_strict table) (capacity_of table) charge e.used (is_full table e.taken)
        (asks_nothing room)

    -- and nothing was evicted.
    turned_idle : had ≡ true → EvictsNothing (view a) (view d)
    turned_idle room = record {
      turns = same;
      takings =
          let all = e.takings in
          let none = ap (λ s. s.slots) nothing_done.0 in
          omega arith;
      gone = none_taken (ap (λ s. s.slots) nothing_done.0) e.gone;
      opened =
          e.opened ∙ (let none = ap (λ f. when f 1) (turned_found room).0 in omega arith);
    }

-- A reservation that turned the hand no further leaves all that is shown.
pub unturned_still : {T A : Type 0} (fits : T → Key → List ℕ → Type 0) (table : RuleTable T A)
    (charge : ℕ) (had has : Bool) (answer : Result Reservation Refused) (before after : Tally)
    (effort counted : Effort) (a d : SeatOf T)
    → EvictsBy fits table charge had has answer before after effort counted a d
    → (view d).turns ≡ (view a).turns → GoesOnStill table a d
unturned_still fits table charge had has (Ok Reserved) before after effort counted a d h same =
    turned_still fits table charge h.0 same
unturned_still fits table charge had has (Ok NoPlace) before after effort counted a d h same =
    turned_still fits table charge h.0 same
unturned_still fits table charge had has (Err TooLarge) before after effort counted a d h same =
    goes_none table is_still a d h.2
unturned_still fits table charge had has (Err CapacityFull) before after effort counted a d h same =
    turned_still fits table charge h.0 same
unturned_still fits table charge had has (Err OccupancyFull) before after effort counted a d h same
    =
    turned_still fits table charge h.0 same

-- what one may answer that turned the hand no further
abbrev pub MayAnswer : Result Reservation Refused → Type 0
MayAnswer (Ok Reserved) = Unit {0}
MayAnswer (Ok NoPlace) = ⊥
MayAnswer (Err TooLarge) = Unit {0}
MayAnswer (Err CapacityFull) = ⊥
MayAnswer (Err OccupancyFull) = ⊥

-- It evicted nothing, and answers so, where the list had room for a turn.
pub unturned : {T A : Type 0} (fits : T → Key → List ℕ → Type 0) (table : RuleTable T A)
    (charge : ℕ) (had has : Bool) (answer : Result Reservation Refused) (before after : Tally)
    (effort counted : Effort) (a d : SeatOf T)
    → EvictsBy fits table charge had has answer before after effort counted a d
    → had ≡ true → (view d).turns ≡ (view a).turns
    → MayAnswer answer × EvictsNothing (view a) (view d)
unturned fits table charge had has (Ok Reserved) before after effort counted a d h room same =
    let idle = turned_idle fits table charge h.0 same room in (tt, idle)
unturned fits table charge had has (Ok NoPlace) before after effort counted a d h room same =
    let full = h.1 in
    let free = (turned_found fits table charge h.0 same room).0 in
    absurd (let never : ⊥ = cc in never)
unturned fits table charge had has (Err TooLarge) before after effort counted a d h room same = (
  tt,
  record {
    turns = ap (λ z. (view z).turns) h.2;
    takings = ap (λ z. (view z).takings) h.2;
    gone = ap (λ z. (view z).gone) h.2;
    opened = ap (λ z. (view z).open_places) h.2;
  },
)
unturned fits table charge had has (Err CapacityFull) before after effort counted a d h room same =
    let short = h.1 in
    let none = (turned_found fits table charge h.0 same room).1 in
    absurd (omega arith)
unturned fits table charge had has (Err OccupancyFull) before after effort counted a d h room same =
    let full = h.1 in
    let free = (turned_found fits table charge h.0 same room).0 in
    absurd (let never : ⊥ = cc in never)

-- What replies tell of the world.

same_place : (b c : Bool)
    → (if b then replies.Granted else replies.Open) ≡ (if c then replies.Granted else replies.Open)
    → b ≡ c
same_place true true is = refl
same_place true false is = cc
same_place false true is = cc
same_place false false is = refl

same_split : (m n k l : ℕ) → replies.Split m n ≡ replies.Split k l → m ≡ k
same_split m n k l is = cc

-- An enter tells whether the world has a place left, and leaves its usage.
enter_tells : (w next : State) (setup : Setup) (client taken : ℕ) → w.setup ≡ setup
    → outcome_of w (events.Enter client) ≡ Ok (entered setup taken, next)
    → (nat_lt (occupancy_of w) (limit_of setup) ≡ nat_lt taken (limit_of setup))
    × (usage_of next ≡ usage_of w)
unfolding enter_of
enter_tells w next setup client taken same is =
    let first = bound (live_at w client) _ _ (ruled w (events.Enter client) _ is) in
    let second = bound (allow (is_absent first.0.place)) _ _ first.2 in
    let told = same_outcome _ _ second.2 in
    by first.0 _ (live_ok w client first.0 first.1)
    (same_place _ _ (ap (λ s. if nat_lt (occupancy_of w) (limit_of s)
    then replies.Granted else replies.Open) (sym same) ∙ ap (λ z. z.0) told))
    (ap (λ z. z.1) told)
  where
    by : (found : Client) (place : Place) → slice_get w.clients client ≡ Some found
        → nat_lt (occupancy_of w) (limit_of setup) ≡ nat_lt taken (limit_of setup)
        → with_client w client (record found { place = place }) ≡ next
        → (nat_lt (occupancy_of w) (limit_of setup) ≡ nat_lt taken (limit_of setup))
        × (usage_of next ≡ usage_of w)
    by found place at room left = (
      room,
      ap usage_of (sym left)
          ∙ (let change =
          total-set charged_to w.clients client found (record found { place = place }) at in
          omega arith),
    )

-- A charge is granted by the usage of the world.
charge_tells : (w next : State) (client charge granted needed : ℕ)
    → outcome_of w (events.Charge client charge) ≡ Ok (replies.Split granted needed, next)
    → grant_of w.setup (usage_of w) charge ≡ granted
unfolding charge_by
charge_tells w next client charge granted needed is =
    let first = bound (live_at w client) _ _ (ruled w (events.Charge client charge) _ is) in
    let second = bound (allow (may_charge first.0 (usage_of w) charge)) _ _ first.2 in
    same_split _ _ _ _ (ap (λ z. z.0) (same_outcome _ _ second.2))

-- Where there is room nothing is asked for, and nothing is lacked.

-- without strict capacity
lax_fits : (capacity charge used : ℕ) → used + charge ≤ capacity
    → asked false capacity charge false used ≡ 0
lax_fits capacity charge used fits = by (nat_le charge used)
  where
    by : (b : Bool)
        → cond (b && nat_lt capacity (used + charge)) (charge + surplus capacity used charge) 0 ≡ 0
    by true =
        ap (λ c. cond c (charge + surplus capacity used charge) 0)
        (lt-leb (suc capacity) (used + charge) (omega arith))
    by false = refl

-- under strict capacity, where the usage gets the same grant as one beside which the charge fits
strict_fits : (setup : Setup) (capacity charge used usage : ℕ) → setup.strict ≡ true
    → setup.capacity ≡ capacity → usage + charge ≤ capacity
    → grant_of setup usage charge ≡ grant_of setup used charge
    → still_needed capacity used charge ≡ 0
strict_fits setup capacity charge used usage strict within fits same =
    let grants : (n : ℕ) → grant_of setup n charge ≡ min charge (capacity - min n capacity) =
    λ n. ap (λ s. cond s (min charge (setup.capacity - min n setup.capacity)) charge) strict
    ∙ ap (λ c. min charge (c - min n c)) within in
    let whole = grants usage in
    let found = grants used in
    omega arith

-- and of either kind, where the charge fits beside the usage that was found
room_lacks : (strict : Bool) (capacity charge used : ℕ) → used + charge ≤ capacity
    → (asked strict capacity charge false used ≡ 0) × (needed_by strict capacity used charge ≡ 0)
room_lacks true capacity charge used fits = (omega arith, omega arith)
room_lacks false capacity charge used fits = (lax_fits capacity charge used fits, refl)

module _ {T A : Type 0} (fits : T → Key → List ℕ → Type 0) (table : RuleTable T A) (charge : ℕ)
    {had has : Bool} {before after : Tally} {effort counted : Effort} {a d : SeatOf T} where
  -- A reservation found a place and all of the charge, and asked eviction for nothing.
  pub record FindsAll (e : EvictsAsAsked fits table charge had has before after effort counted a d)
      : Type 0 where
    pub free : is_full table e.taken ≡ false
    pub asks : asked_by fits table charge e ≡ 0
    pub lacks : lacked table charge e.used ≡ 0

  finds_all : (e : EvictsAsAsked fits table charge had has before after effort counted a d)
      → e.taken < limit_of (setup_of (plan_of table))
      → (asked (is_strict table) (capacity_of table) charge false e.used ≡ 0)
      × (needed_by (is_strict table) (capacity_of table) e.used charge ≡ 0) → FindsAll e
  finds_all e place found = record {
    free = free;
    asks = ap (λ f. asked (is_strict table) (capacity_of table) charge f e.used) free ∙ found.0;
    lacks = found.1;
  }
    where
      free : is_full table e.taken ≡ false
      free = lt-leb (limit_of (setup_of (plan_of table))) e.taken place

  -- It does where all that one client made leaves room.
  made_found : clients_of table ≡ 1
      → (e : EvictsAsAsked fits table charge had has before after effort counted a d)
      → length (view a).made - (view a).takings < limit_of (setup_of (plan_of table))
      → standing_of (view a).work + charge_made (view a) + charge ≤ capacity_of table → FindsAll e
  made_found one e place room =
      let taken = e.taken_alone one in
      let used = e.used_alone one in
      finds_all e (omega arith)
      (room_lacks (is_strict table) (capacity_of table) charge e.used (omega arith))

module _ {T A : Type 0} (fits : T → Key → List ℕ → Type 0) (table : RuleTable T A)
    (one : clients_of table ≡ 1) (charge : ℕ) where
  setup_at : (a : SeatOf T) → (world_at table a).setup ≡ setup_of (plan_of table)
  setup_at a = setup_stays (events_of (past a)) (begun_world (plan_of table))

  -- what is found of a usage beside which the charge fits
  finds_room : (strict : Bool) (used : ℕ) (u b : SeatOf T) → is_strict table ≡ strict
      → FindsBy table strict charge used u b
      → usage_of (world_at table u) + charge ≤ capacity_of table
      → (asked strict (capacity_of table) charge false used ≡ 0)
      × (needed_by strict (capacity_of table) used charge ≡ 0)
  finds_room false used u b lax event room =
      let is =
      usage_tells (world_at table u) (world_at table b) (view u).client used
      (event_alone table one (usage_done used (view u)) u b event) in
      room_lacks false (capacity_of table) charge used (omega arith)
  finds_room true used u b strict event room =
      let none =
      strict_fits (setup_of (plan_of table)) (capacity_of table) charge used
      (usage_of (world_at table u)) (table.planned.2 ∙ strict) table.planned.1 room
      (ap (λ s. grant_of s (usage_of (world_at table u)) charge) (sym (setup_at u))
      ∙ charge_tells (world_at table u) (world_at table b) (view u).client charge _ _
      (event_alone table one (charge_done (setup_of (plan_of table)) charge used (view u)) u b
      event)) in
      (none, none)

  module _ {had has : Bool} {before after : Tally} {effort counted : Effort} {a d : SeatOf T}
    where
      -- A reservation in a world with room finds all.
      room_found : (e : EvictsAsAsked fits table charge had has before after effort counted a d)
          → occupancy_of (world_at table a) < limit_of (setup_of (plan_of table))
          → usage_of (world_at table a) + charge ≤ capacity_of table → FindsAll fits table charge e
      room_found e place room =
          finds_all fits table charge e
          (ltb-true e.taken (limit_of (setup_of (plan_of table)))
          (sym told.0
          ∙ lt-ltb (occupancy_of (world_at table a)) (limit_of (setup_of (plan_of table)))
          place))
          (finds_room (is_strict table) e.used e.u e.b refl e.finds_by
          (let same = told.1 in omega arith))
        where
          told : (nat_lt (occupancy_of (world_at table a)) (limit_of (setup_of (plan_of table)))
              ≡ nat_lt e.taken (limit_of (setup_of (plan_of table))))
              × (usage_of (world_at table e.u) ≡ usage_of (world_at table a))
          told =
              enter_tells (world_at table a) (world_at table e.u) (setup_of (plan_of table))
              (view a).client e.taken (setup_at a)
              (event_alone table one (enter_done (setup_of (plan_of table)) e.taken (view a)) a e.u
              e.enters_by)

-- A reservation that finds all is granted, and turns the hand no further.
granted : {T A : Type 0} (fits : T → Key → List ℕ → Type 0) (table : RuleTable T A)
    (charge : ℕ) (had has : Bool) (answer : Result Reservation Refused) (before after : Tally)
    (effort counted : Effort) (a d : SeatOf T)
    → EvictsBy fits table charge had has answer before after effort counted a d
    → charge ≤ capacity_of table
    → ((e : EvictsAsAsked fits table charge had has before after effort counted a d)
    → FindsAll fits table charge e)
    → (answer ≡ Ok Reserved) × ((view d).turns ≡ (view a).turns)
granted fits table charge had has (Ok Reserved) before after effort counted a d h small found =
    let none = ap (λ s. s.turns) (h.0.evicts.none (found h.0).asks).0 in
    let all = h.0.turns in
    (refl, omega arith)
granted fits table charge had has (Ok NoPlace) before after effort counted a d h small found =
    let full = h.1 in
    let free = (found h.0).free in
    absurd (let never : ⊥ = cc in never)
granted fits table charge had has (Err TooLarge) before after effort counted a d h small found =
    absurd (let large = h.3 in omega arith)
granted fits table charge had has (Err CapacityFull) before after effort counted a d h small found =
    let short = h.1 in
    let none = (found h.0).lacks in
    absurd (omega arith)
granted fits table charge had has (Err OccupancyFull) before after effort counted a d h small found
    =
    let full = h.1 in
    let free = (found h.0).free in
    absurd (let never : ⊥ = cc in never)

module _ {T A : Type 0} (fits : T → Key → List ℕ → Type 0) (table : RuleTable T A) (charge : ℕ)
    (had has : Bool) (answer : Result Reservation Refused) (before after : Tally)
    (effort counted : Effort) (a d : SeatOf T) (one : clients_of table ≡ 1)
    (h : EvictsBy fits table charge had has answer before after effort counted a d) where
  -- So it is in a world with room,
  pub roomy : occupancy_of (world_at table a) < limit_of (setup_of (plan_of table))
      → usage_of (world_at table a) + charge ≤ capacity_of table
      → (answer ≡ Ok Reserved) × ((view d).turns ≡ (view a).turns)
  roomy place room =
      granted fits table charge had has answer before after effort counted a d h (omega arith)
      (λ e. room_found fits table one charge e place room)

  -- and where all that the one client made leaves room.
  pub roomy_beside : length (view a).made - (view a).takings < limit_of (setup_of (plan_of table))
      → standing_of (view a).work + charge_made (view a) + charge ≤ capacity_of table
      → (answer ≡ Ok Reserved) × ((view d).turns ≡ (view a).turns)
  roomy_beside place room =
      granted fits table charge had has answer before after effort counted a d h (omega arith)
      (λ e. made_found fits table charge one e place room)

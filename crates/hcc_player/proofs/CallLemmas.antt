-- What the calls of a trace leave of a client and its registers.
use Rattle.std.proofs.Common.{◌≡◌, ℕ, zero, suc, ◌<◌, ◌≤◌, true, false, List, Option, Some}
use Rattle.std.proofs.Common.{None, Result, Ok, Err, IsSome, inl, inr, refl, sym, ap, ◌∙◌}
use Rattle.std.proofs.Common.{subst, arith}
use Rattle.std.specs.Prelude.{◌↔◌, is_some}
use Rattle.std.proofs.lemmas.Bool.{cases_lt}
use Rattle.std.proofs.Math.Nat.{eq-or-lt_of_le}
use Rattle.hcc_rule.specs.declared.key.Key.{Key}
use Rattle.hcc_cache.specs.declared.cache.Cache.{Cache}
use Rattle.hcc_cache.specs.declared.client.Client.{Client}
use Rattle.hcc_cache.specs.declared.config.Config.{Config}
use Rattle.hcc_cache.specs.declared.errors.InsertError.{InsertError}
use Rattle.hcc_cache.specs.declared.errors.InsertError.TheVariants as errors
use Rattle.hcc_cache.specs.declared.errors.LookupError.{LookupError}
use Rattle.hcc_cache.specs.declared.errors.LookupError.TheVariants as lookups
use Rattle.hcc_cache.specs.declared.handle.Handle.{Handle}
use Rattle.hcc_cache.specs.declared.holding.Hold.{Hold}
use Rattle.hcc_cache.specs.declared.inserting.Inserted.{Inserted}
use Rattle.hcc_cache.specs.declared.inserting.Inserted.TheVariants as inserted
use Rattle.hcc_cache.specs.declared.priority.Priority.{Priority}
use Rattle.hcc_cache.specs.Calls.{Finds, Releases, Rerefs}
use Rattle.hcc_cache.specs.Clients.{Held, Insertion, held_by, held_entry, held_of, hold_of, Holds}
use Rattle.hcc_cache.specs.Inserts.{Inserts, InsertsWith, RefusesWith}
use Rattle.hcc_cache.specs.Known.{Knows}
use Rattle.hcc_player.specs.declared.run.answer.Answer.TheVariants as answers
use Rattle.hcc_player.specs.declared.run.call.Call.TheVariants as calls
use Rattle.hcc_player.specs.declared.run.registers.Filled.{Filled}
use Rattle.hcc_player.specs.Registers.{at, filled_with, filled_without, AreFilled, IsFilled}
use Rattle.hcc_player.specs.Registers.{IsLimited, IsOn}
use Rattle.hcc_player.specs.RunAnswers.{insert_answer, placed_answer, refusal_of, IsRight}
use Rattle.hcc_player.specs.RunStates.{IsRefused, MayHold, MayInsert, RefusesPin, State}
use Rattle.hcc_player.specs.RunStates.{with_emptied, with_filled, with_serial}
use Rattle.hcc_player.proofs.RegisterLemmas.{less_filled, more_filled, on_register}
use Rattle.hcc_player.proofs.RegisterLemmas.{serial_filled}
use Rattle.hcc_player.proofs.StandingNames.{standing_used}

-- no handle is in a register that a look finds empty
pub no_handle : (handles : List Filled) (r : ℕ) → is_some (at handles r) ≡ false
    → at handles r ≡ None
no_handle handles r none = by (at handles r) none
  where
    by : (x : Option Handle) → is_some x ≡ false → x ≡ None
    by None e = refl
    by (Some h) e = cc

module _ {T : Type 0} (fits : T → Key → List ℕ → Type 0) (cache : Cache T) where
  -- a handle that stands for something is held
  held_some : (client : Client T) (h : Handle) (held : Held) (x : Option Hold)
      → hold_of client h ≡ x → held_of cache client h ≡ Some held → Holds client h
  held_some client h held None e stands =
      let none : held_of cache client h ≡ None = rw e refl in
      let no : None ≡ Some held = sym none ∙ stands in cc
  held_some client h held (Some hold) e stands = rw e refl

  pub on_holds : (client : Client T) (h : Handle) (told : Option Insertion)
      → IsOn fits cache client h told → Holds client h
  on_holds client h told on = held_some client h on.held (hold_of client h) refl on.here

module _ {T : Type 0} (fits : T → Key → List ℕ → Type 0) (cache : Cache T) (config : Config) where
  -- Of registers.

  pub full_told : (s : State) (client : Client T) (handles : List Filled) (r : ℕ)
      (h : Handle) → at handles r ≡ Some h → AreFilled fits cache config s client handles
      → IsSome (s.registers r)
  full_told s client handles r h full filled =
      let on = on_register fits cache config s client handles r h full filled in
      rw on.inserted refl

  some_told : (s : State) (client : Client T) (handles : List Filled) (r : ℕ)
      (x : Option Handle) → at handles r ≡ x → is_some x ≡ true
      → AreFilled fits cache config s client handles → IsSome (s.registers r)
  some_told s client handles r None full told filled = cc
  some_told s client handles r (Some h) full told filled =
      full_told s client handles r h full filled

  pub busy_told : (s : State) (client : Client T) (handles : List Filled) (r : ℕ)
      → is_some (at handles r) ≡ true → AreFilled fits cache config s client handles
      → IsSome (s.registers r)
  busy_told s client handles r full filled =
      some_told s client handles r (at handles r) refl full filled

  pub empty_told : (s : State) (client : Client T) (handles : List Filled) (r : ℕ)
      → at handles r ≡ None → AreFilled fits cache config s client handles
      → s.registers r ≡ None
  empty_told s client handles r empty filled =
      subst (IsFilled fits cache client (s.registers r)) empty (filled.each r)

  -- nothing happened to the client
  pub stays : (s : State) (old new : Client T) (handles : List Filled) → new ≡ old
      → AreFilled fits cache config s old handles → AreFilled fits cache config s new handles
  stays s old new handles same filled = rw same filled

  -- Of limits.

  may_hold : (s : State) (client : Client T) → IsLimited fits cache config s client
      → held_by client < client.most → 0 < client.left → MayHold config s
  may_hold s client l room some =
      let full = l.full in
      let most = l.most in
      let serials = l.serials in (omega arith, omega arith)

  may_insert : (s : State) (client : Client T) (charge : ℕ) → IsLimited fits cache config s client
      → 0 < client.left → (cache.strict ≡ true → charge ≤ cache.capacity)
      → MayInsert config s charge
  may_insert s client charge l some small =
      let serials = l.serials in (
        omega arith,
        λ strict. subst (λ n. charge ≤ n) l.capacity (small (l.strict ∙ strict)),
      )

  -- a client with no serial left
  all_used : (s : State) (client : Client T) → IsLimited fits cache config s client
      → client.left ≡ 0 → config.serials ≤ s.used
  all_used s client l none = let serials = l.serials in omega arith

  -- or with some left, as it wasn't told that it has none
  some_left : (left : ℕ) → ¬ (left ≡ 0) → 0 < left
  some_left zero none = absurd (none refl)
  some_left (suc left) none = omega arith

  within_most : (held most : ℕ) → held ≤ most → ¬ (held ≡ most) → held < most
  within_most held most few other =
      elim (eq-or-lt_of_le few) [ inl same ↦ absurd (other same) | inr less ↦ less ]

  -- what is not too large
  small_enough : (charge capacity : ℕ) → (capacity < charge → ⊥) → charge ≤ capacity
  small_enough charge capacity never =
      elim (cases_lt capacity charge) [ inl over ↦ absurd (never over) | inr fine ↦ fine ]

  -- Of look-ups, and of more handles: by what was answered, and when that is refused.
  module _ {A : Type 0} (s : State) (client : Client T) (result : Result A LookupError) where
    pub may_look : (a : A) → result ≡ Ok a → Knows cache client
        → IsLimited fits cache config s client
        → ((result ≡ Err lookups.HandlesFull) ↔ (held_by client ≡ client.most))
        → ((result ≡ Err lookups.Spent)
        ↔ ((held_by client < client.most) × (client.left ≡ 0)))
        → MayHold config s
    may_look a is known l full spent =
        let room : held_by client < client.most =
        within_most (held_by client) client.most known.few
        (λ same. let no : Ok a ≡ Err lookups.HandlesFull = sym is ∙ full.1 same in cc) in
        may_hold s client l room
        (some_left client.left
        (λ none. let no : Ok a ≡ Err lookups.Spent = sym is ∙ spent.1 (room, none) in cc))

    pub look_refused : (error : LookupError) → result ≡ Err error
        → IsLimited fits cache config s client
        → ((result ≡ Err lookups.HandlesFull) ↔ (held_by client ≡ client.most))
        → ((result ≡ Err lookups.Spent)
        ↔ ((held_by client < client.most) × (client.left ≡ 0)))
        → IsRefused config (refusal_of error) s
    look_refused lookups.HandlesFull is l full spent =
        let same = full.0 is in
        let held = l.full in
        let most = l.most in omega arith
    look_refused lookups.Spent is l full spent =
        let due = spent.0 is in
        let room = due.0 in
        let held = l.full in
        let most = l.most in (omega arith, all_used s client l due.1)

  -- Insertions.

  insert_room : (s : State) (client : Client T) (charge : ℕ) (told : Result Inserted InsertError)
      → IsLimited fits cache config s client
      → ((told ≡ Err errors.Spent) ↔ (client.left ≡ 0))
      → ((told ≡ Err errors.TooLarge)
      ↔ ((0 < client.left) × (cache.strict ≡ true) × (cache.capacity < charge)))
      → ¬ (told ≡ Err errors.Spent) → ¬ (told ≡ Err errors.TooLarge)
      → MayInsert config s charge
  insert_room s client charge told l spent large unspent fine =
      let some : 0 < client.left = some_left client.left (λ none. unspent (spent.1 none)) in
      may_insert s client charge l some
      (λ strict. small_enough charge cache.capacity (λ over. fine (large.1 (some, strict, over))))

  pub insert_goes : (s : State) (old new : Client T) (handles : List Filled)
      (key : Key) (charge : ℕ) (priority : Priority) (value : List ℕ)
      (told : Result Inserted InsertError) → Knows cache new
      → ((told ≡ Err errors.Spent) ↔ (old.left ≡ 0))
      → ((told ≡ Err errors.TooLarge)
      ↔ ((0 < old.left) × (cache.strict ≡ true) × (cache.capacity < charge)))
      → Inserts cache key charge priority value told old new
      → AreFilled fits cache config s old handles
      → (next : State)
      × IsRight (fits cache.tag) config s (calls.Insert key charge priority value)
      (insert_answer told) next
      × AreFilled fits cache config next new handles
  unfolding IsRight
  insert_goes s old new handles k t q v (Ok inserted.Placed) known spent large i filled = (
    with_serial s,
    (
      insert_room s old t (Ok inserted.Placed) filled.limited spent large (λ e. cc) (λ e. cc),
      refl,
    ),
    serial_filled fits cache config s old new handles known i.works.self i.keeps filled,
  )
  insert_goes s old new handles k t q v (Ok inserted.Dropped) known spent large i filled = (
    with_serial s,
    (
      insert_room s old t (Ok inserted.Dropped) filled.limited spent large (λ e. cc) (λ e. cc),
      refl,
    ),
    serial_filled fits cache config s old new handles known i.works.self i.keeps filled,
  )
  insert_goes s old new handles k t q v (Ok inserted.Standalone) known spent large i filled =
      absurd i
  insert_goes s old new handles k t q v (Err errors.HandlesFull) known spent large i filled =
      absurd i
  insert_goes s old new handles k t q v (Err errors.Spent) known spent large i filled = (
    s,
    (all_used s old filled.limited (spent.0 refl), refl),
    stays s old new handles i filled,
  )
  insert_goes s old new handles k t q v (Err errors.TooLarge) known spent large i filled =
      let due = large.0 refl in
      let serials = filled.limited.serials in
      let some = due.0 in (
        s,
        (
          omega arith,
          sym filled.limited.strict ∙ due.1,
          subst (λ n. n < t) filled.limited.capacity due.2,
          refl,
        ),
        stays s old new handles i filled,
      )
  insert_goes s old new handles k t q v (Err errors.CapacityFull) known spent large i filled = (
    with_serial s,
    (
      insert_room s old t (Err errors.CapacityFull) filled.limited spent large (λ e. cc)
          (λ e. cc),
      sym filled.limited.strict ∙ i.told.1,
      refl,
    ),
    serial_filled fits cache config s old new handles known i.works.self i.keeps filled,
  )
  insert_goes s old new handles k t q v (Err errors.OccupancyFull) known spent large i filled = (
    with_serial s,
    (
      insert_room s old t (Err errors.OccupancyFull) filled.limited spent large (λ e. cc)
          (λ e. cc),
      sym filled.limited.strict ∙ i.told.1,
      refl,
    ),
    serial_filled fits cache config s old new handles known i.works.self i.keeps filled,
  )

  -- Insertions with a handle.

  pub pin_goes : (s : State) (old new : Client T) (handles : List Filled) (r : ℕ)
      (key : Key) (charge : ℕ) (priority : Priority) (value : List ℕ) (handle : Handle)
      (told : Inserted) → Knows cache new
      → ((held_by old < old.most) × (0 < old.left)
      × (cache.strict ≡ true → charge ≤ cache.capacity))
      → InsertsWith cache key charge priority value handle told old new → fits cache.tag key value
      → at handles r ≡ None → AreFilled fits cache config s old handles
      → (next : State)
      × IsRight (fits cache.tag) config s (calls.Pin r key charge priority value)
      (placed_answer told) next
      × AreFilled fits cache config next new (filled_with handles r handle)
  unfolding IsRight
  pin_goes s old new handles r k t q v handle inserted.Placed known may i right empty filled = (
    with_filled s r (record { key = k; value = v; charge = t }) false,
    (
      empty_told s old handles r empty filled,
      (
        (may_hold s old filled.limited may.0 may.1).0,
        may_insert s old t filled.limited may.1 may.2,
        refl,
      ),
    ),
    more_filled fits cache config s old new handles r handle _ known i.asks.works.self i.gains
        right empty (λ q k b name at on is same. cc) filled,
  )
  pin_goes s old new handles r k t q v handle inserted.Standalone known may i right empty filled = (
    with_filled s r (record { key = k; value = v; charge = t }) true,
    (
      empty_told s old handles r empty filled,
      (
        (may_hold s old filled.limited may.0 may.1).0,
        may_insert s old t filled.limited may.1 may.2,
        refl,
      ),
    ),
    more_filled fits cache config s old new handles r handle _ known i.asks.works.self i.gains
        right empty (λ q k b name at on is same.
        let low = standing_used cache old filled.known k b name on same in
        let used : old.used ≡ name = cc is in
        absurd (omega (arith, used))) filled,
  )
  pin_goes s old new handles r k t q v handle inserted.Dropped known may i right empty filled =
      absurd i

  -- When one is refused: what is told of each refusal.
  abbrev IsDue : InsertError → Client T → (charge : ℕ) → Type 0
  IsDue error client charge =
      ((error ≡ errors.HandlesFull) ↔ (held_by client ≡ client.most))
      × ((error ≡ errors.Spent) ↔ ((held_by client < client.most) × (client.left ≡ 0)))
      × ((error ≡ errors.TooLarge) ↔ ((held_by client < client.most) × (0 < client.left)
      × (cache.strict ≡ true) × (cache.capacity < charge)))

  -- one that was begun
  pin_room : (s : State) (client : Client T) (charge : ℕ) (error : InsertError)
      → Knows cache client → IsLimited fits cache config s client → IsDue error client charge
      → ¬ (error ≡ errors.HandlesFull) → ¬ (error ≡ errors.Spent) → ¬ (error ≡ errors.TooLarge)
      → (s.full < config.handles) × MayInsert config s charge
  pin_room s client charge error known l due free unspent fine =
      let room : held_by client < client.most =
      within_most (held_by client) client.most known.few (λ same. free (due.0.1 same)) in
      let some : 0 < client.left =
      some_left client.left (λ none. unspent (due.1.1 (room, none))) in (
        (may_hold s client l room some).0,
        may_insert s client charge l some (λ strict. small_enough charge cache.capacity
            (λ over. fine (due.2.1 (room, some, strict, over)))),
      )

  pub pin_refused : (s : State) (old new : Client T) (handles : List Filled)
      (key : Key) (charge : ℕ) (priority : Priority) (value : List ℕ) (error : InsertError)
      → Knows cache new → IsDue error old charge
      → RefusesWith cache key charge priority value error old new
      → AreFilled fits cache config s old handles
      → (next : State) × RefusesPin config charge error s next
      × AreFilled fits cache config next new handles
  pin_refused s old new handles k t q v errors.HandlesFull known due i filled =
      let same = due.0.0 refl in
      let held = filled.limited.full in
      let most = filled.limited.most in
      (s, (omega arith, refl), stays s old new handles i filled)
  pin_refused s old new handles k t q v errors.Spent known due i filled =
      let told = due.1.0 refl in
      let room = told.0 in
      let held = filled.limited.full in
      let most = filled.limited.most in (
        s,
        (omega arith, (all_used s old filled.limited told.1, refl)),
        stays s old new handles i filled,
      )
  pin_refused s old new handles k t q v errors.TooLarge known due i filled =
      let told = due.2.0 refl in
      let may = may_hold s old filled.limited told.0 told.1 in
      let over = subst (λ n. n < t) filled.limited.capacity told.3 in (
        s,
        (may.0, (may.1, sym filled.limited.strict ∙ told.2, over, refl)),
        stays s old new handles i filled,
      )
  pin_refused s old new handles k t q v errors.CapacityFull known due i filled =
      let room = pin_room s old t errors.CapacityFull filled.known filled.limited due (λ e. cc)
      (λ e. cc) (λ e. cc) in (
        with_serial s,
        (room.0, (room.1, sym filled.limited.strict ∙ i.asks.told.1, refl)),
        serial_filled fits cache config s old new handles known i.asks.works.self i.keeps filled,
      )
  pin_refused s old new handles k t q v errors.OccupancyFull known due i filled =
      let room = pin_room s old t errors.OccupancyFull filled.known filled.limited due (λ e. cc)
      (λ e. cc) (λ e. cc) in (
        with_serial s,
        (room.0, (room.1, sym filled.limited.strict ∙ i.asks.told.1, refl)),
        serial_filled fits cache config s old new handles known i.asks.works.self i.keeps filled,
      )

  -- Look-ups, and more handles.

  pub lookup_goes : (s : State) (old new : Client T) (handles : List Filled) (r : ℕ)
      (key : Key) (handle : Handle) → Knows cache new → MayHold config s
      → Finds cache fits key handle old new
      → at handles r ≡ None → AreFilled fits cache config s old handles
      → (next : State) × IsRight (fits cache.tag) config s (calls.Lookup r key) answers.Hit next
      × AreFilled fits cache config next new (filled_with handles r handle)
  unfolding IsRight
  lookup_goes s old new handles r key handle known may found empty filled =
      let held : Held = held_entry cache.seed found.found.entry in
      let right = subst (λ k. fits cache.tag k held.insertion.value) (sym found.asked)
      found.right in (
        with_filled s r held.insertion false,
        (
          empty_told s old handles r empty filled,
          may,
          (held.insertion, found.asked, found.right, refl),
        ),
        more_filled fits cache config s old new handles r handle held known found.works.self
            found.gains right empty (λ q k b name at on is same. cc) filled,
      )

  pub reref_goes : (s : State) (old new : Client T) (handles : List Filled) (r g : ℕ)
      (handle more : Handle) → Knows cache new → MayHold config s
      → Rerefs cache handle more old new
      → at handles g ≡ Some handle → at handles r ≡ None
      → AreFilled fits cache config s old handles
      → (next : State) × IsRight (fits cache.tag) config s (calls.Reref r g) answers.Held next
      × AreFilled fits cache config next new (filled_with handles r more)
  unfolding IsRight
  reref_goes s old new handles r g handle more known may again full empty filled =
      let on = on_register fits cache config s old handles g handle full filled in
      let told : Some on.held ≡ Some again.held = sym on.here ∙ again.was in
      let same : on.held ≡ again.held = cc in
      let right = subst (λ (h : Held). fits cache.tag h.insertion.key h.insertion.value) same
      on.right in
      let inserted : s.registers g ≡ Some again.held.insertion =
      on.inserted ∙ ap (λ (h : Held). Some h.insertion) same in
      let kind = filled.kinds g handle again.held full again.was in (
        with_filled s r again.held.insertion (is_some again.held.standing),
        (
          empty_told s old handles r empty filled,
          may,
          (
            again.held.insertion,
            inserted,
            ap (with_filled s r again.held.insertion) (sym kind),
          ),
        ),
        more_filled fits cache config s old new handles r more again.held known again.works.self
            again.gains right empty
            (λ q k b name at on is same.
            filled.alike g q handle k again.held b name full at again.was on is same) filled,
      )

  -- Releases.

  pub release_goes : (s : State) (old new : Client T) (handles : List Filled) (r : ℕ)
      (handle : Handle) (erase freed : _) → Knows cache new
      → Releases cache handle erase freed old new → at handles r ≡ Some handle
      → AreFilled fits cache config s old handles
      → IsSome (s.registers r) × AreFilled fits cache config (with_emptied s r) new
      (filled_without handles r)
  release_goes s old new handles r handle erase freed known released full filled = (
    full_told s old handles r handle full filled,
    less_filled fits cache config s old new handles r handle known released.works.self
        released.loses full filled,
  )

-- What a seat knows to be shown stays so while nobody else shows or takes anything.
use Rattle.std.proofs.Common.{◌≡◌, ℕ, ◌≤◌, Bool, true, false, not, List, [], ◌∷◌, ◌++◌, refl, sym, ap, subst, ◌∙◌}
use Rattle.std.specs.List.{list_any}
use Rattle.std.specs.Prelude.{IsSomeAnd}
use Rattle.std.proofs.lemmas.Bool.{false≢true, or_from}
use Rattle.std.proofs.lemmas.List.{append_assoc}
use Rattle.hcc_core.specs.declared.event.Event.{Event}
use Rattle.hcc_core.specs.declared.event.Event.TheVariants as events
use Rattle.hcc_core.specs.declared.slot.Entry.{Entry}
use Rattle.hcc_core.specs.Shown.{changes_shown}
use Rattle.hcc_core.specs.World.{State}
use Rattle.hcc_rule.specs.declared.key.Key.{Key}
use Rattle.hcc_rule.specs.declared.table.RuleTable.{RuleTable}
use Rattle.hcc_rule.specs.declared.view.Done.{Done}
use Rattle.hcc_rule.specs.Acts.{IsNoStepOf, IsStepBy, client_by, events_of, is_step, past, world_of}
use Rattle.hcc_rule.specs.Callers.{IsEvent, plan_of, world_at}
use Rattle.hcc_rule.specs.Seats.{SeatOf, view}
use Rattle.hcc_rule.specs.Views.{Each, names}
use Rattle.hcc_rule.specs.Words.{key_of}
use Rattle.hcc_rule.proofs.Seats.StaysShown.{quiet_shown}
use Rattle.hcc_table.specs.Seeking.{GoesOnBy, Seeks}
use Rattle.hcc_table.specs.Standing.{IsMomentOf, LacksOnce, ShowsKey, ShowsOnce, ShowsSame, shown_at}
use Rattle.hcc_table.specs.Still.{BeganWithin, GoesOnStill, is_still}
use Rattle.hcc_table.proofs.Seeking.{goes_event, goes_none, goes_then, goes_wider, seeks_one, seeks_then}
use Rattle.hcc_table.proofs.Still.{seeks_still}
use Rattle.hcc_cache.specs.Undisturbed.{AreChangesOf, IsUndisturbed}
use Rattle.hcc_cache.specs.Within.{HoldsOnce, LacksWithin}
use Rattle.hcc_cache.proofs.Insertions.PlacedShown.{planned}
use Rattle.hcc_cache.proofs.Within.Begun.{GoesOn, on_seeks}
use Rattle.hcc_cache.proofs.Within.Taken.{same_rest}

-- Kinds of events.

-- what shows, hides and frees nothing
abbrev pub keeps_shown : Event → Bool
keeps_shown event = not (changes_shown event)

pub still_keeps : (event : Event) → is_still event ≡ true → keeps_shown event ≡ true
still_keeps (events.Show client key0 key1 charge countdown name value) is = cc
still_keeps (events.Hide client name) is = cc
still_keeps (events.Free client slot name) is = cc
still_keeps other is = refl

-- what shows, hides or frees is a step
changes_step : (event : Event) → changes_shown event ≡ true → is_step event ≡ true
changes_step (events.Start client) is = cc
changes_step (events.End client) is = cc
changes_step other is = refl

-- Parts of lists.

pub each_front : {A : Type 0} (P : A → Type 0) (xs ys : List A) → Each P (xs ++ ys) → Each P xs
each_front P [] ys all = tt
each_front P (x ∷ xs) ys all = (all.0, each_front P xs ys all.1)

pub each_back : {A : Type 0} (P : A → Type 0) (xs ys : List A) → Each P (xs ++ ys) → Each P ys
each_back P [] ys all = all
each_back P (x ∷ xs) ys all = each_back P xs ys all.1

-- what changes what is shown is this client's, and what is this client's changes nothing of that
abbrev pub IsChangeOf : (client : ℕ) → Done → Type 0
IsChangeOf client done = changes_shown done.event ≡ true → client_by done.event ≡ client

abbrev pub IsStillOf : (client : ℕ) → Done → Type 0
IsStillOf client done = IsStepBy client done.event → keeps_shown done.event ≡ true

-- where both are so nothing changes it
unchanged : (client : ℕ) (more : List Done) → Each (IsStillOf client) more
    → AreChangesOf client more → list_any changes_shown (events_of more) ≡ false
unchanged client [] own quiet = refl
unchanged client (d ∷ ds) own quiet =
    or_from (changes_shown d.event) _ (by (changes_shown d.event) refl)
    (unchanged client ds own.1 quiet.1)
  where
    by : (b : Bool) → changes_shown d.event ≡ b → changes_shown d.event ≡ false
    by false is = is
    by true is =
        let kept = own.0 (changes_step d.event is, quiet.0 is) in
        absurd (false≢true (ap not (sym is) ∙ kept))

no_steps : (client : ℕ) (ds : List Done) → Each (IsNoStepOf client) ds → Each (IsStillOf client) ds
no_steps client [] apart = tt
no_steps client (d ∷ ds) apart =
    ((λ by. absurd (apart.0 by.0 by.1)), no_steps client ds apart.1)

module _ {T : Type 0} (client : ℕ) where
  -- The seat names the client.
  pub record Named (a : SeatOf T) : Type 0 where
    pub is : 1 ≤ names client (view a)

  -- However what a seat knows went on, nobody but the client changed what is shown.
  pub record Calm (a b : SeatOf T) : Type 0 where
    pub by : (more : List Done) → past b ≡ past a ++ more → AreChangesOf client more

  pub calm_of : {a b : SeatOf T} → IsUndisturbed client a b → Calm a b
  calm_of {a} q = record {
    by = λ more goes_on.
        subst (AreChangesOf client) (same_rest (past a) q.more more (sym q.goes_on ∙ goes_on))
        q.own;
  }

  module _ {A : Type 0} (table : RuleTable T A) {a b c : SeatOf T} (calm : Calm a c)
      (first : GoesOn table a b) where
    -- So it is of each part of that.
    pub calm_first : GoesOn table b c → Calm a b
    calm_first second = record {
      by = λ more goes_on.
          each_front (IsChangeOf client) more second.more
          (calm.by (more ++ second.more)
          (second.is ∙ ap (λ xs. xs ++ second.more) goes_on
          ∙ append_assoc (past a) more second.more));
    }

    pub calm_rest : Calm b c
    calm_rest = record {
      by = λ more goes_on.
          each_back (IsChangeOf client) first.more more
          (calm.by (first.more ++ more)
          (goes_on ∙ ap (λ xs. xs ++ more) first.is ∙ append_assoc (past a) first.more more));
    }

-- Calls that go on by what shows, hides and frees nothing.
module _ {T A : Type 0} (table : RuleTable T A) where
  abbrev pub Keeps : (a b : SeatOf T) → Type 0
  Keeps a b = GoesOnBy table keeps_shown a b

  pub keeps_still : {a b : SeatOf T} → GoesOnStill table a b → Keeps a b
  keeps_still {a} {b} h = goes_wider table is_still keeps_shown still_keeps a b h

  pub keeps_seeks : {a b : SeatOf T} → Seeks table a b → Keeps a b
  keeps_seeks {a} {b} h = keeps_still (seeks_still table a b h)

  pub keeps_same : {a b : SeatOf T} → b ≡ a → Keeps a b
  keeps_same {a} {b} same = goes_none table keeps_shown a b same

  pub keeps_then : {a b c : SeatOf T} → Keeps a b → Keeps b c → Keeps a c
  keeps_then {a} {b} {c} h g = goes_then table keeps_shown a b c h g

  pub keeps_event : {done : Done} {a b : SeatOf T} → IsEvent table done a b
      → keeps_shown done.event ≡ true → Keeps a b
  keeps_event {done} {a} {b} event kept = goes_event table keeps_shown done a b event kept

  -- Any events of the call.
  abbrev pub Leg : (a b : SeatOf T) → Type 0
  Leg a b = GoesOnBy table (λ event. true) a b

  pub leg : {kind : Event → Bool} {a b : SeatOf T} → GoesOnBy table kind a b → Leg a b
  leg {kind} {a} {b} h = goes_wider table kind (λ event. true) (λ event is. refl) a b h

  pub leg_event : {done : Done} {a b : SeatOf T} → IsEvent table done a b → Leg a b
  leg_event {done} {a} {b} event = goes_event table (λ event. true) done a b event refl

  pub leg_then : {a b c : SeatOf T} → Leg a b → Leg b c → Leg a c
  leg_then {a} {b} {c} h g = goes_then table (λ event. true) a b c h g

-- what a client knows when its seat names it
module _ {T A : Type 0} (fits : T → Key → List ℕ → Type 0) (table : RuleTable T A)
    (began : BeganWithin table fits) (client : ℕ) where
  pub named_on : {kind : Event → Bool} {a b : SeatOf T} → GoesOnBy table kind a b
      → Named client a → Named client b
  named_on h named = record { is = subst (λ n. 1 ≤ n) (sym (h.named client)) named.is }

  pub named_event : {done : Done} {a b : SeatOf T} → IsEvent table done a b → Named client a
      → Named client b
  named_event event named =
      record { is = subst (λ n. 1 ≤ n) (sym (event.0.named client)) named.is }

  shown_after : (front more : List Done) → list_any changes_shown (events_of more) ≡ false
      → ShowsSame (world_of (plan_of table) front) (world_of (plan_of table) (front ++ more))
  shown_after front more none s =
      quiet_shown (plan_of table) fits (planned fits table began) began front more none s

  -- A part of a call in which its client shows and takes nothing: each slot shows what it showed.
  pub same_shown : {a b : SeatOf T} → Keeps table a b → Named client a → Calm client a b
      → ShowsSame (world_at table a) (world_at table b)
  same_shown {a} h named calm s =
      ap (λ ds. shown_at (world_of (plan_of table) ds) s) h.goes_on
      ∙ shown_after (past a) h.more
      (unchanged client h.more (h.own client named.is) (calm.by h.more h.goes_on)) s

  -- So it is right before the client's next event.
  pub same_before : {done : Done} {a b : SeatOf T} (event : IsEvent table done a b) → Named client a
      → Calm client a b
      → ShowsSame (world_at table a) (world_of (plan_of table) (past a ++ event.0.others))
  same_before {done} {a} event named calm s =
      shown_after (past a) event.0.others
      (unchanged client event.0.others
      (no_steps client event.0.others (event.0.apart client named.is))
      (each_front (IsChangeOf client) event.0.others (done ∷ [])
      (calm.by (event.0.others ++ done ∷ []) event.0.past))) s

  -- What is shown where the same is.
  pub shows_alike : (key : Key) (slot : ℕ) (w next : State)
      → shown_at next slot ≡ shown_at w slot → ShowsKey next key slot → ShowsKey w key slot
  shows_alike key slot w next same = subst (λ o. IsSomeAnd o (λ e. key_of e ≡ key)) same

  -- A moment of a call that searches.
  moment_shows : {old moment new : SeatOf T} → IsMomentOf table moment old new → Named client old
      → Calm client old new → ShowsSame (world_at table old) (world_at table moment)
  moment_shows {old} {moment} {new} m named calm =
      let before = seeks_then table old m.before moment m.began
      (seeks_one table m.done m.before moment m.step m.seeking) in
      same_shown (keeps_seeks table before) named
      (calm_first client table calm (on_seeks table before) (on_seeks table m.rest))

  module _ {key : Key} {slot : ℕ} {old new : SeatOf T} (named : Named client old)
      (calm : Calm client old new) where
    -- What lacked a key at one lacked it when the call began,
    pub lacks_quiet : LacksOnce table key slot old new → ¬ ShowsKey (world_at table old) key slot
    lacks_quiet h shows =
        h.2 (shows_alike key slot (world_at table h.0) (world_at table old)
        (sym (moment_shows h.1 named calm slot)) shows)

    -- and what showed it showed it then.
    pub shows_quiet : (e : Entry) → key_of e ≡ key → ShowsOnce table slot e old new
        → ShowsKey (world_at table old) key slot
    shows_quiet e asked h =
        subst (λ o. IsSomeAnd o (λ x. key_of x ≡ key))
        (sym h.2 ∙ moment_shows h.1 named calm slot) asked

  -- So it is at a moment of a part in which the client shows and takes nothing.
  pub once_quiet : (P : State → Type 0) {old new : SeatOf T} → Keeps table old new
      → Named client old → Calm client old new → (h : HoldsOnce table old new P)
      → (w : State) × ShowsSame (world_at table old) w × P w
  once_quiet P {old} {new} keeps named calm h = (
    world_of (plan_of table) (past old ++ h.since),
    shown_after (past old) h.since
        (unchanged client h.since
        (each_front (IsStillOf client) h.since h.within.later
        (subst (Each (IsStillOf client))
        (same_rest (past old) keeps.more (h.since ++ h.within.later) (sym keeps.goes_on ∙ goes_on))
        (keeps.own client named.is)))
        (each_front (IsChangeOf client) h.since h.within.later
        (calm.by (h.since ++ h.within.later) goes_on))),
    h.holds,
  )
    where
      goes_on : past new ≡ past old ++ (h.since ++ h.within.later)
      goes_on = h.within.goes_on ∙ append_assoc (past old) h.since h.within.later

  pub lacked_quiet : {key : Key} {slot : ℕ} {old new : SeatOf T} → Keeps table old new
      → Named client old → Calm client old new → LacksWithin table old new key slot
      → ¬ ShowsKey (world_at table old) key slot
  lacked_quiet {key} {slot} {old} keeps named calm h shows =
      let once = once_quiet (λ w. ¬ ShowsKey w key slot) keeps named calm h in
      once.2 (shows_alike key slot once.0 (world_at table old) (sym (once.1 slot)) shows)

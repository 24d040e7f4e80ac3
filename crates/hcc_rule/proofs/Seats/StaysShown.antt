-- What a slot shows after a front of a history it shows until one of the events behind takes it
-- away.
use Rattle.std.proofs.Common.{◌≡◌, ◌≢◌, ◌⊎◌, true, inl, inr, ℕ, false, List, [], ◌∷◌, ◌++◌, Some, ap, refl, sym, ◌∙◌, subst}
use Rattle.std.specs.List.{list_any}
use Rattle.std.proofs.lemmas.Bool.{false≢true, or_parts}
use Rattle.hcc_core.specs.declared.event.Event.{Event}
use Rattle.hcc_core.specs.declared.event.Event.TheVariants as events
use Rattle.hcc_core.specs.declared.slot.Entry.{Entry}
use Rattle.hcc_core.specs.Lawful.{Lawful}
use Rattle.hcc_core.specs.Runs.{after, after_all}
use Rattle.hcc_core.specs.Shown.{TakesShown, TellsTaken, changes_shown, may_take, shown_at}
use Rattle.hcc_core.specs.World.{State}
use Rattle.hcc_core.proofs.EveryRun.{lawful_after}
use Rattle.hcc_core.proofs.StaysShown.{Took, outcome_took, quiet_shows, step_shows}
use Rattle.hcc_rule.specs.declared.key.Key.{Key}
use Rattle.hcc_rule.specs.declared.rule.Plan.{Plan}
use Rattle.hcc_rule.specs.declared.table.RuleTable.{RuleTable}
use Rattle.hcc_rule.specs.declared.view.Done.{Done}
use Rattle.hcc_rule.specs.Acts.{IsAllowed, IsRun, IsStepBy, client_by, events_of, is_step, past, world_of}
use Rattle.hcc_rule.specs.Callers.{plan_of, world_at}
use Rattle.hcc_rule.specs.ImageLimits.{IsImageFor}
use Rattle.hcc_rule.specs.Images.{entries_in}
use Rattle.hcc_rule.specs.Laws.{LoggedStateOf}
use Rattle.hcc_rule.specs.Logs.{HoldsLogged, unlogged}
use Rattle.hcc_rule.specs.Opening.{begun_world}
use Rattle.hcc_rule.specs.Seats.{IsPlanned, SeatOf}
use Rattle.hcc_rule.specs.Shown.{IsTakenAway, KnowsShownAt}
use Rattle.hcc_rule.specs.Views.{Each}
use Rattle.hcc_rule.proofs.Parts.Asides.{law_is}
use Rattle.hcc_rule.proofs.Seats.Behind.{run_behind}
use Rattle.hcc_rule.proofs.Seats.Histories.{after_more}
use Rattle.hcc_rule.proofs.Seats.Kept.{world_since}
use Rattle.hcc_rule.proofs.Seats.Runs.{run_lawful}

-- what a lawful world shows is shown after these events, or one of them took it away
shown_until : (more : List Done) (w : State) → Lawful w → (slot : ℕ) (entry : Entry)
    → shown_at w slot ≡ Some entry
    → (shown_at (after_all w (events_of more)) slot ≡ Some entry)
    ⊎ IsTakenAway slot entry w more
shown_until [] w l slot entry shown = inl shown
shown_until (done ∷ more) w l slot entry shown =
    elim (step_shows w slot entry shown l done.event) [
      | inl still ↦ elim
          (shown_until more (after w done.event) (lawful_after w done.event l) slot entry still) [
            | inl left ↦ inl left
            | inr t ↦ inr (record {
              before = done ∷ t.before;
              done = t.done;
              rest = t.rest;
              is = ap (λ ds. done ∷ ds) t.is;
              shown = t.shown;
              takes = t.takes;
              gone = t.gone;
            })
          ]
      | inr took ↦ inr (record {
        before = [];
        done = done;
        rest = more;
        is = refl;
        shown = shown;
        takes = took.0;
        gone = took.1;
      })
    ]

-- events that neither show, hide nor free leave what each slot of a lawful world shows
quiet_stays : (more : List Done) (w : State) → Lawful w
    → list_any changes_shown (events_of more) ≡ false → (slot : ℕ)
    → shown_at (after_all w (events_of more)) slot ≡ shown_at w slot
quiet_stays [] w l none slot = refl
quiet_stays (done ∷ more) w l none slot =
    let parts = or_parts (changes_shown done.event) _ none in
    quiet_stays more (after w done.event) (lawful_after w done.event l) parts.1 slot
    ∙ quiet_shows w l slot done.event parts.0

-- what holds of each of these events holds of the one that took it away
each_taken : (P : Done → Type 0) {slot : ℕ} {entry : Entry} {w : State} (more : List Done)
    → Each P more → (t : IsTakenAway slot entry w more) → P t.done
each_taken P more each t = by t.before (subst (Each P) t.is each)
  where
    by : (before : List Done) → Each P (before ++ t.done ∷ t.rest) → P t.done
    by [] e = e.0
    by (done ∷ before) e = by before e.1

-- what takes away is a step, a hide or a free
takes_step : (slot : ℕ) (w : State) (event : Event) → TakesShown slot w event
    → (is_step event ≡ true) × (may_take event ≡ true)
takes_step slot w (events.Hide client name) takes = (refl, refl)
takes_step slot w (events.Free client freed name) takes = (refl, refl)
takes_step slot w other takes = absurd takes

-- so it is no step of a client who made none of these
pub others_took : (client slot : ℕ) (entry : Entry) (w : State) (more : List Done)
    → Each (λ (done : Done). IsStepBy client done.event → may_take done.event ≡ false) more
    → (t : IsTakenAway slot entry w more) → client_by t.done.event ≢ client
others_took client slot entry w more own t here =
    let step = takes_step slot (after_all w (events_of t.before)) t.done.event t.takes in
    false≢true (sym (each_taken _ more own t (step.0, here)) ∙ step.1)

module _ {T : Type 0} (p : Plan T) where
  -- the worlds after what comes behind a front
  later_shows : (front more : List Done) (slot : ℕ)
      → shown_at (world_of p (front ++ more)) slot
      ≡ shown_at (after_all (world_of p front) (events_of more)) slot
  later_shows front more slot =
      ap (λ (w : State). shown_at w slot) (after_more front more (begun_world p))

  -- where the machine allows all, the reply of the event says that it took something away
  pub taken_replied : (front more : List Done) → IsAllowed p (front ++ more)
      → (slot : ℕ) (entry : Entry) (t : IsTakenAway slot entry (world_of p front) more)
      → TellsTaken t.done.event t.done.reply
  taken_replied front more allowed slot entry t =
      (subst (Took slot t.done.event) there.1
      (outcome_took last slot entry t.shown t.done.event t.takes)).1
    where
      last : State
      last = after_all (world_of p front) (events_of t.before)

      behind : IsRun (world_of p front) (t.before ++ t.done ∷ t.rest) allowed.world
      behind =
          subst (λ ds. IsRun (world_of p front) ds allowed.world) t.is
          (run_behind front more (begun_world p) allowed.world allowed.run)

      there : IsRun last (t.done ∷ t.rest) allowed.world
      there = run_behind t.before (t.done ∷ t.rest) (world_of p front) allowed.world behind

  module _ (fits : T → Key → List ℕ → Type 0) (planned : IsPlanned p.geometry p.capacity)
      (image : IsImageFor fits p.tag p.geometry p.capacity p.strict (entries_in p.image)) where
    pub stays_shown : (front more : List Done) (slot : ℕ) (entry : Entry)
        → shown_at (world_of p front) slot ≡ Some entry
        → (shown_at (world_of p (front ++ more)) slot ≡ Some entry)
        ⊎ IsTakenAway slot entry (world_of p front) more
    stays_shown front more slot entry shown =
        elim (shown_until more (world_of p front)
        (run_lawful fits p planned image (events_of front)) slot entry shown) [
          | inl left ↦ inl (later_shows front more slot ∙ left)
          | inr t ↦ inr t
        ]

    pub quiet_shown : (front more : List Done)
        → list_any changes_shown (events_of more) ≡ false → (slot : ℕ)
        → shown_at (world_of p (front ++ more)) slot ≡ shown_at (world_of p front) slot
    quiet_shown front more none slot =
        later_shows front more slot
        ∙ quiet_stays more (world_of p front)
        (run_lawful fits p planned image (events_of front)) none slot

-- what the words of a state show is shown by those of each later one
pub states_show : {T : Type 0} (fits : T → Key → List ℕ → Type 0) (p : Plan T)
    (s t : LoggedStateOf T) (h : HoldsLogged fits p s) (g : HoldsLogged fits p t)
    (since : List Done) → g.history ≡ h.history ++ since → (slot : ℕ) (entry : Entry)
    → shown_at h.rule.world slot ≡ Some entry
    → (shown_at g.rule.world slot ≡ Some entry) ⊎ IsTakenAway slot entry h.rule.world since
states_show fits p s t h g since goes_on slot entry shown =
    elim (shown_until since h.rule.world (law_is fits p (unlogged s) h.rule) slot entry shown) [
      | inl left ↦
          inl (ap (λ (w : State). shown_at w slot) (world_since fits p s t h g since goes_on)
          ∙ left)
      | inr took ↦ inr took
    ]

-- what a seat knows to be shown is known so by each that knows more
pub knows_still : {T A : Type 0} (fits : T → Key → List ℕ → Type 0) (table : RuleTable T A)
    → IsImageFor fits (plan_of table).tag (plan_of table).geometry (plan_of table).capacity
    (plan_of table).strict (entries_in (plan_of table).image)
    → (old new : SeatOf T) (more : List Done) → past new ≡ past old ++ more
    → (slot : ℕ) (entry : Entry) → KnowsShownAt table slot entry old
    → KnowsShownAt table slot entry new ⊎ IsTakenAway slot entry (world_at table old) more
knows_still fits table image old new more goes_on slot entry knows =
    elim (stays_shown (plan_of table) fits planned image (past old) more slot entry knows) [
      | inl left ↦
          inl (ap (λ ds. shown_at (world_of (plan_of table) ds) slot) goes_on ∙ left)
      | inr took ↦ inr took
    ]
  where
    planned : IsPlanned (plan_of table).geometry (plan_of table).capacity
    planned =
        subst (λ g. IsPlanned g (plan_of table).capacity) (sym table.planned.0)
        (subst (IsPlanned table.geometry) (sym table.planned.1) table.limits)

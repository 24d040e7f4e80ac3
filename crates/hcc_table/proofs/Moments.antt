-- What an event of a seat led to, and moments of a call that searches.
use Rattle.std.proofs.Common.{◌≡◌, ℕ, true, List, [], ◌∷◌, ◌++◌, Option, Some, None, sym, subst, refl, ap, ◌∙◌}
use Rattle.std.specs.Prelude.{IsSomeAnd}
use Rattle.std.proofs.lemmas.List.{append_assoc, append-nil}
use Rattle.hcc_core.specs.declared.slot.Entry.{Entry}
use Rattle.hcc_core.specs.World.{State}
use Rattle.hcc_rule.specs.declared.geometry.Geometry.{Geometry}
use Rattle.hcc_rule.specs.declared.key.Key.{Key}
use Rattle.hcc_rule.specs.declared.table.RuleTable.{RuleTable}
use Rattle.hcc_rule.specs.declared.view.Done.{Done}
use Rattle.hcc_rule.specs.Acts.{IsRun, Leads, client_by, past}
use Rattle.hcc_rule.specs.Callers.{IsEvent, plan_of, slots_of, world_at}
use Rattle.hcc_rule.specs.Opening.{begun_world}
use Rattle.hcc_rule.specs.Rule.{AreTrailed}
use Rattle.hcc_rule.specs.Seats.{SeatOf, view}
use Rattle.hcc_rule.specs.Words.{key_of}
use Rattle.hcc_rule.proofs.Seats.Histories.{run_is}
use Rattle.hcc_table.specs.Seeking.{Does, Seeks, is_seeking}
use Rattle.hcc_table.specs.Standing.{IsMomentOf, LacksOnce, ShowsKey, ShowsOnce, shown_at}
use Rattle.hcc_table.proofs.Seeking.{seeks_none, seeks_then}

-- What holds of a member holds of it where it is known.

pub some_and : {A : Type 0} (o : Option A) (P : A → Type 0) → IsSomeAnd o P
    → (x : A) × (o ≡ Some x) × P x
some_and None P h = absurd h
some_and (Some x) P h = (x, refl, h)

pub none_shown : (world : State) (key : Key) (slot : ℕ) → shown_at world slot ≡ None
    → ¬ ShowsKey world key slot
none_shown world key slot none shows =
    absurd (subst (λ o. IsSomeAnd o (λ e. key_of e ≡ key)) none shows)

-- the last event of a run
run_last : (history : List Done) (done : Done) (world : State) {last : State}
    → IsRun world (history ++ done ∷ []) last → (w : State) × Leads w done last
run_last [] done world is = (world, subst (λ w. Leads world done w) (sym is.2) is.1)
run_last (d ∷ ds) done world {last} is = run_last ds done is.0 is.2

module _ {T A : Type 0} (table : RuleTable T A) where
  -- What a seat's own event led to.
  pub event_leads : (done : Done) (a b : SeatOf T) → IsEvent table done a b
      → (w : State) × Leads w done (world_at table b)
  event_leads done a b event =
      let known : past b ≡ past a ++ event.0.others ++ done ∷ [] =
      event.0.past ∙ sym (append_assoc (past a) event.0.others (done ∷ [])) in
      let last = run_last (past a ++ event.0.others) done (begun_world (plan_of table))
      (subst (λ h. IsRun (begun_world (plan_of table)) h event.1.world) known event.1.run) in (
        last.0,
        subst (λ w. Leads last.0 done w)
            (run_is (past b) (begun_world (plan_of table)) event.1.world event.1.run) last.1,
      )

  pub event_trails : (done : Done) (a b : SeatOf T) → IsEvent table done a b
      → AreTrailed (slots_of table) (world_at table b).slots
  event_trails done a b event =
      subst (λ (x : Geometry). AreTrailed x.slots (world_at table b).slots) table.planned.0
      (event.1.trails (past b) [] (sym (append-nil (past b))))

  -- What a search adds to what its seat knows.

  pub does_more : (ds : List Done) (a b : SeatOf T) → Does table ds a b
      → (more : List Done) × (past b ≡ past a ++ more)
  does_more [] a b same = ([], ap past same ∙ sym (append-nil (past a)))
  does_more (d ∷ ds) a b does =
      let rest = does_more ds does.0 b does.2 in
      let first = does.1.0 in (
        first.others ++ d ∷ [] ++ rest.0,
        rest.1 ∙ ap (λ h. h ++ rest.0) first.past
            ∙ append_assoc (past a) (first.others ++ d ∷ []) rest.0,
      )

  -- Moments of a search.

  -- a search by the seat's own client led from one seat to the other
  pub record Led (old new : SeatOf T) : Type 0 where
    pub seeks : Seeks table old new
    pub same : (view new).client ≡ (view old).client

  pub led_none : (a : SeatOf T) → Led a a
  led_none a = record { seeks = seeks_none table a; same = refl }

  pub led_then : {a b c : SeatOf T} → Led a b → Led b c → Led a c
  led_then {a} {b} {c} h g =
      record { seeks = seeks_then table a b c h.seeks g.seeks; same = g.same ∙ h.same }

  -- right behind an own event of a search
  pub moment_of : {done : Done} {old before moment new : SeatOf T} → Led old before
      → IsEvent table done before moment → is_seeking done.event ≡ true
      → client_by done.event ≡ (view before).client → Seeks table moment new
      → IsMomentOf table moment old new
  moment_of {done} {old} {before} {moment} {new} led step seeking by rest =
      let first = does_more led.seeks.own old before led.seeks.does in
      let behind = step.0.others ++ done ∷ [] in
      let later = does_more rest.own moment new rest.does in
      record {
        before = before;
        done = done;
        began = led.seeks;
        step = step;
        seeking = seeking;
        own = by ∙ led.same;
        rest = rest;
        since = first.0 ++ step.0.others;
        begins =
            step.0.past ∙ ap (λ h. h ++ behind) first.1 ∙ append_assoc (past old) first.0 behind
            ∙ ap (λ h. past old ++ h)
            (sym (append_assoc first.0 step.0.others (done ∷ [])));
        later = later.0;
        goes_on = later.1;
      }

  -- one of what came behind a search is one of both
  pub moment_since : {old began moment new : SeatOf T} → Led old began
      → IsMomentOf table moment began new → IsMomentOf table moment old new
  moment_since {old} {began} led m =
      let first = does_more led.seeks.own old began led.seeks.does in
      let behind = m.since ++ m.done ∷ [] in
      record {
        before = m.before;
        done = m.done;
        began = seeks_then table old began _ led.seeks m.began;
        step = m.step;
        seeking = m.seeking;
        own = m.own ∙ led.same;
        rest = m.rest;
        since = first.0 ++ m.since;
        begins =
            m.begins ∙ ap (λ h. h ++ behind) first.1 ∙ append_assoc (past old) first.0 behind
            ∙ ap (λ h. past old ++ h) (sym (append_assoc first.0 m.since (m.done ∷ [])));
        later = m.later;
        goes_on = m.goes_on;
      }

  -- So what was shown once in that, and lacked once, was in both.

  pub shows_since : (slot : ℕ) (e : Entry) (old began new : SeatOf T) → Led old began
      → ShowsOnce table slot e began new → ShowsOnce table slot e old new
  shows_since slot e old began new led h = (h.0, moment_since led h.1, h.2)

  pub lacks_since : (key : Key) (slot : ℕ) (old began new : SeatOf T) → Led old began
      → LacksOnce table key slot began new → LacksOnce table key slot old new
  lacks_since key slot old began new led h = (h.0, moment_since led h.1, h.2)

  -- a moment of a call is one of a call that goes on
  pub moment_later : {moment old a b : SeatOf T} → IsMomentOf table moment old a → Seeks table a b
      → IsMomentOf table moment old b
  moment_later {moment} {old} {a} {b} m more =
      let rest = seeks_then table moment a b m.rest more in
      let later = does_more rest.own moment b rest.does in
      record {
        before = m.before;
        done = m.done;
        began = m.began;
        step = m.step;
        seeking = m.seeking;
        own = m.own;
        rest = rest;
        since = m.since;
        begins = m.begins;
        later = later.0;
        goes_on = later.1;
      }

  -- and of a part of a call, in the call
  pub lacks_within : {key : Key} {slot : ℕ} {old a b new : SeatOf T} → Led old a
      → LacksOnce table key slot a b → Seeks table b new → LacksOnce table key slot old new
  lacks_within {key} {slot} {old} {a} {b} {new} led h more =
      (h.0, moment_later (moment_since led h.1) more, h.2)

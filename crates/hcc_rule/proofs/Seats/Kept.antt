-- A reference that a seat has on record stands until the seat's own client takes it away.
use Rattle.std.proofs.Common.{◌≡◌, ℕ, ◌==◌, Bool, true, false, cond, List, [], ◌∷◌, ◌++◌, Option, Some, None, slice_get, sym, refl, ap, ◌∙◌, subst}
use Rattle.std.specs.Prelude.{option_and_then}
use Rattle.std.specs.List.{list_any}
use Rattle.std.proofs.lemmas.Bool.{and_parts, eqb-true, false≢true, or_from}
use Rattle.hcc_core.specs.declared.event.Event.{Event}
use Rattle.hcc_core.specs.declared.event.Event.TheVariants as events
use Rattle.hcc_core.specs.declared.slot.Entry.{Entry}
use Rattle.hcc_core.specs.declared.slot.Slot.{Slot}
use Rattle.hcc_core.specs.declared.slot.Slot.TheVariants as slots
use Rattle.hcc_core.specs.Runs.{FindsOne, after_all, entry_held, held_at, takes_away}
use Rattle.hcc_core.specs.World.{State, has_reference}
use Rattle.hcc_core.proofs.EveryRun.{stands_all}
use Rattle.hcc_rule.specs.declared.key.Key.{Key}
use Rattle.hcc_rule.specs.declared.rule.Plan.{Plan}
use Rattle.hcc_rule.specs.declared.view.Done.{Done}
use Rattle.hcc_rule.specs.declared.view.Logged.{Logged}
use Rattle.hcc_rule.specs.declared.view.Record.{Record}
use Rattle.hcc_rule.specs.Acts.{IsNoStepOf, IsStepBy, RecordsStand, events_of, world_of}
use Rattle.hcc_rule.specs.ImageLimits.{IsImageFor}
use Rattle.hcc_rule.specs.Images.{entries_in}
use Rattle.hcc_rule.specs.Laws.{LoggedStateOf}
use Rattle.hcc_rule.specs.Logs.{HoldsLogged, unlogged}
use Rattle.hcc_rule.specs.Opening.{begun_world}
use Rattle.hcc_rule.specs.Records.{record_in}
use Rattle.hcc_rule.specs.Rule.{IsRecorded, entry_in}
use Rattle.hcc_rule.specs.Seats.{IsPlanned}
use Rattle.hcc_rule.specs.Views.{Each, is_called, is_seated}
use Rattle.hcc_rule.proofs.Basics.Findings.{find_each}
use Rattle.hcc_rule.proofs.Parts.Asides.{law_is}
use Rattle.hcc_rule.proofs.Parts.HeldReferences.{slot_held}
use Rattle.hcc_rule.proofs.Seats.Fronts.{known_at}
use Rattle.hcc_rule.proofs.Seats.Histories.{after_more}
use Rattle.hcc_rule.proofs.Seats.Runs.{run_finds, run_lawful, world_is}

-- what takes a client's reference away is a step of that client
taken_by : (client name : ℕ) (event : Event) → takes_away client name event ≡ true
    → IsStepBy client event
taken_by client name (events.Give c n) h =
    (refl, eqb-true c client (and_parts (c == client) (n == name) h).0)
taken_by client name (events.Use c n) h =
    (refl, eqb-true c client (and_parts (c == client) (n == name) h).0)
taken_by client name (events.Free c slot None) h = absurd (false≢true h)
taken_by client name (events.Free c slot (Some n)) h =
    (refl, eqb-true c client (and_parts (c == client) (n == name) h).0)
taken_by client name other h = absurd (false≢true h)

-- so no step of another client does
pub others_take_none : (client name : ℕ) (others : List Done) → Each (IsNoStepOf client) others
    → list_any (takes_away client name) (events_of others) ≡ false
others_take_none client name [] apart = refl
others_take_none client name (done ∷ others) apart =
    or_from (takes_away client name done.event) _
    (by (takes_away client name done.event) refl)
    (others_take_none client name others apart.1)
  where
    by : (b : Bool) → takes_away client name done.event ≡ b → b ≡ false
    by true is =
        let own = taken_by client name done.event is in absurd (apart.0 own.0 own.1)
    by false is = refl

-- an entry that is held is the slot's
held_is : (client name : ℕ) (o : Option Slot) (e entry : Entry) → entry_in o ≡ Some entry
    → option_and_then (entry_held client name) o ≡ Some e
    → option_and_then (entry_held client name) o ≡ Some entry
held_is client name None e entry is held = cc
held_is client name (Some (slots.Empty strays)) e entry is held = cc
held_is client name (Some (slots.Building other strays)) e entry is held = cc
held_is client name (Some (slots.Shareable r)) e entry is held =
    by (has_reference client name (slots.Shareable r)) held
  where
    by : (b : Bool) → cond b (Some r.entry) None ≡ Some e
        → cond b (Some r.entry) None ≡ Some entry
    by true held = is
    by false held = cc

module _ {T : Type 0} (fits : T → Key → List ℕ → Type 0) (p : Plan T) where
  -- what a seat of a state has on record its client holds in the world that is shown
  pub recorded_held : {s : LoggedStateOf T} (h : HoldsLogged fits p s) (j : ℕ) (l : Logged T)
      → slice_get s.views j ≡ Some l → is_seated l.known ≡ true → (name : ℕ) (r : Record)
      → record_in name l.known.records ≡ Some r
      → held_at h.rule.world l.known.client name r.slot ≡ Some r.entry
  recorded_held {s} h j l at seated name r called =
      by (slice_get h.rule.world.slots r.slot) refl kept.there
    where
      there : slice_get (unlogged s).views j ≡ Some l.known
      there = known_at fits p s j l at

      kept : IsRecorded h.rule.world.slots r
      kept = find_each (is_called name) (IsRecorded h.rule.world.slots) l.known.records r
          (h.rule.holding j l.known there).recorded called

      finds : FindsOne h.rule.world
      finds = subst FindsOne (sym (world_is fits p s h)) (run_finds p (events_of h.history))

      by : (o : Option Slot) → slice_get h.rule.world.slots r.slot ≡ o
          → entry_in o ≡ Some r.entry
          → held_at h.rule.world l.known.client name r.slot ≡ Some r.entry
      by None at_slot is = cc
      by (Some seen) at_slot is =
          let holding = slot_held p.tag h.rule.world.slots h.rule.world.clients h.rule.books
          (unlogged s).views h.rule.references h.rule.seats j l.known there seated name r called
          ((h.rule.holding j l.known there).once name) seen r.slot refl at_slot in
          let stands = finds.stands l.known.client name r.slot holding in
          held_is l.known.client name (slice_get h.rule.world.slots r.slot) stands.0 r.entry
          kept.there stands.1

  -- the worlds that words show before and after these events
  pub world_since : (s t : LoggedStateOf T) (h : HoldsLogged fits p s) (g : HoldsLogged fits p t)
      (since : List Done) → g.history ≡ h.history ++ since
      → g.rule.world ≡ after_all h.rule.world (events_of since)
  world_since s t h g since goes_on =
      world_is fits p t g
      ∙ ap (λ ds. world_of p ds) goes_on
      ∙ after_more h.history since (begun_world p)
      ∙ ap (λ w. after_all w (events_of since)) (sym (world_is fits p s h))

  -- and so it does in the world of each later state, unless it took that away
  pub states_keep : (s t : LoggedStateOf T) (h : HoldsLogged fits p s) (g : HoldsLogged fits p t)
      (since : List Done) → g.history ≡ h.history ++ since → (j : ℕ) (l : Logged T)
      → slice_get s.views j ≡ Some l → is_seated l.known ≡ true → (name : ℕ) (r : Record)
      → record_in name l.known.records ≡ Some r
      → list_any (takes_away l.known.client name) (events_of since) ≡ false
      → held_at g.rule.world l.known.client name r.slot ≡ Some r.entry
  states_keep s t h g since goes_on j l at seated name r called none =
      subst (λ (w : State). held_at w l.known.client name r.slot ≡ Some r.entry)
      (sym (world_since s t h g since goes_on))
      (stands_all (events_of since) l.known.client name r.slot r.entry
      (law_is fits p (unlogged s) h.rule) none
      (recorded_held h j l at seated name r called))

  -- what stood after all that a seat knew stands after all that it knows later
  pub pasts_keep : IsPlanned p.geometry p.capacity
      → IsImageFor fits p.tag p.geometry p.capacity p.strict (entries_in p.image)
      → (old new : Logged T) (since : List Done) → RecordsStand p old
      → new.past ≡ old.past ++ since → (name : ℕ) (r : Record)
      → record_in name old.known.records ≡ Some r
      → list_any (takes_away old.known.client name) (events_of since) ≡ false
      → held_at (world_of p new.past) old.known.client name r.slot ≡ Some r.entry
  pasts_keep planned image old new since stood goes_on name r called none =
      subst (λ (w : State). held_at w old.known.client name r.slot ≡ Some r.entry)
      (sym (ap (λ ds. world_of p ds) goes_on ∙ after_more old.past since (begun_world p)))
      (stands_all (events_of since) old.known.client name r.slot r.entry
      (run_lawful fits p planned image (events_of old.past)) none
      (stood name r called))

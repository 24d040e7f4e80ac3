-- One entry stood in a slot from a first glance to a last one: what was loaded between is its own.
use Rattle.std.proofs.Common.{◌≡◌, ◌≢◌, ◌⊎◌, inl, inr, ℕ, true, false, List, [], ◌∷◌, ◌++◌, Option, Some, None, IfSome, refl, sym, ap, subst, ◌∙◌}
use Rattle.std.proofs.lemmas.List.{append_assoc, map-append}
use Rattle.std.proofs.lemmas.Option.{same_Some}
use Rattle.hcc_word.specs.Word.{is_visible}
use Rattle.hcc_core.specs.declared.event.Event.{Event}
use Rattle.hcc_core.specs.declared.slot.Entry.{Entry}
use Rattle.hcc_core.specs.declared.slot.Stamp.{Stamp}
use Rattle.hcc_core.specs.Lawful.{is_in}
use Rattle.hcc_core.specs.Runs.{StandsBetween, after_all, entry_at}
use Rattle.hcc_core.specs.World.{State}
use Rattle.hcc_rule.specs.declared.key.Key.{Key}
use Rattle.hcc_rule.specs.declared.table.RuleTable.{RuleTable}
use Rattle.hcc_rule.specs.declared.view.Done.{Done}
use Rattle.hcc_rule.specs.declared.view.Glimpse.{Glimpse}
use Rattle.hcc_rule.specs.declared.view.Stood.{Stood}
use Rattle.hcc_rule.specs.declared.view.Stood.TheVariants as stood
use Rattle.hcc_rule.specs.declared.view.View.{View}
use Rattle.hcc_rule.specs.Acts.{events_of, past, world_of}
use Rattle.hcc_rule.specs.Callers.{IsEvent, plan_of, world_at}
use Rattle.hcc_rule.specs.Events.{peek_done}
use Rattle.hcc_rule.specs.Opening.{begun_world}
use Rattle.hcc_rule.specs.Seats.{SeatOf, view}
use Rattle.hcc_rule.specs.ToldGlimpses.{Glanced, GoesOn, after_glimpse}
use Rattle.hcc_rule.specs.Words.{key_of}
use Rattle.hcc_rule.proofs.Seats.Histories.{after_more}
use Rattle.hcc_table.specs.Optimistic.{OnlyLoads, PeeksOnce, Reads}
use Rattle.hcc_table.specs.Searched.{Sought}
use Rattle.hcc_table.specs.Seeking.{Seeks}
use Rattle.hcc_table.specs.Standing.{shown_at}
use Rattle.hcc_table.proofs.Loads.{loads_then}
use Rattle.hcc_table.proofs.Moments.{does_more, event_leads}
use Rattle.hcc_table.proofs.Peeks.{IsPeek, peek_loads}
use Rattle.hcc_table.proofs.Searches.{no_more, searched_refl, sought_then}
use Rattle.hcc_table.proofs.Shown.{peek_shows}

module _ {T A : Type 0} (table : RuleTable T A) (slot : ℕ) where
  -- what a glance tells
  abbrev pub IsGlance : (word : ℕ) → (a b : SeatOf T) → Type 0
  IsGlance word a b =
      (stamp : Option Stamp)
      × IfSome (view a).glimpse (λ g. Glanced word stamp g (view a) (view b))
      × IsEvent table (peek_done slot stamp (view a)) a b

  -- an entry of this stamp is shown in the slot
  abbrev pub ShowsStamp : Stamp → SeatOf T → Type 0
  ShowsStamp stamp seat =
      (entry : Entry) × (shown_at (world_at table seat) slot ≡ Some entry) × (entry.stamp ≡ stamp)

  -- the event of a peek that found it so
  found_shown : {stamp : Stamp} (a b : SeatOf T)
      → IsEvent table (peek_done slot (Some stamp) (view a)) a b → ShowsStamp stamp b
  found_shown {stamp} a b event =
      let led = event_leads table _ a b event in
      peek_shows led.0 (world_at table b) (view a).client slot stamp led.1

  -- what the first glance tells where the word is visible
  pub record FirstGlance (stamped : ℕ) (a b : SeatOf T) : Type 0 where
    pub stamp : Stamp
    pub shows : ShowsStamp stamp b
    pub alive : is_in stamp (view a).work.dead ≡ false
    pub now : Stood
    pub stood : (now ≡ stood.Entry stamp) ⊎ (now ≡ stood.Another)
    pub after : view b
        ≡ record (view a) {
          glimpse = Some (record { slot = slot; word = stamped; stood = now });
        }

  pub first_glance : {stamped : ℕ} (word : ℕ) (v : View T) {a b : SeatOf T}
      → view a ≡ after_glimpse slot stamped v → IsGlance word a b → is_visible word ≡ true
      → FirstGlance stamped a b
  first_glance {stamped} word v {a} {b} glimpsed h visible = by h.0 h.2 told
    where
      g : Glimpse
      g = record { slot = slot; word = stamped; stood = stood.Unseen }

      told : Glanced word h.0 g (view a) (view b)
      told = subst (λ o. IfSome o (λ z. Glanced word h.0 z (view a) (view b)))
          (ap (λ (z : View T). z.glimpse) glimpsed) h.1

      by : (o : Option Stamp) → IsEvent table (peek_done slot o (view a)) a b
          → Glanced word o g (view a) (view b) → FirstGlance stamped a b
      by None event told = let bad : true ≡ false = sym visible ∙ told.0 in cc
      by (Some stamp) event told = record {
        stamp = stamp;
        shows = found_shown a b event;
        alive = told.1;
        now = told.2.0;
        stood = told.2.1;
        after = told.2.2;
      }

  -- the last one finds the same entry, where the stamp word is the same behind it
  pub last_glance : {stamp : Stamp} (word : ℕ) {again : ℕ} {g : Glimpse} (a b : SeatOf T)
      → (view a).glimpse ≡ Some g → (g.stood ≡ stood.Entry stamp) ⊎ (g.stood ≡ stood.Another)
      → IsGlance word a b → is_visible word ≡ true
      → IfSome (view b).glimpse (λ z. z.stood ≡ stood.Another → again ≢ z.word)
      → again ≡ g.word → ShowsStamp stamp b
  last_glance {stamp} word {again} {g} a b glimpse before h visible apart same = by h.0 h.2 told
    where
      told : Glanced word h.0 g (view a) (view b)
      told = subst (λ o. IfSome o (λ z. Glanced word h.0 z (view a) (view b))) glimpse h.1

      by : (o : Option Stamp) → IsEvent table (peek_done slot o (view a)) a b
          → Glanced word o g (view a) (view b) → ShowsStamp stamp b
      by None event told = let bad : true ≡ false = sym visible ∙ told.0 in cc
      by (Some last) event told = known g.stood refl before told.2.1
        where
          stays : told.2.0 ≢ stood.Another
          stays gone =
              subst (λ o. IfSome o (λ z. z.stood ≡ stood.Another → again ≢ z.word))
              (ap (λ (z : View T). z.glimpse) told.2.2) apart gone same

          known : (s : Stood) → g.stood ≡ s
              → (s ≡ stood.Entry stamp) ⊎ (s ≡ stood.Another) → GoesOn last s told.2.0
              → ShowsStamp stamp b
          known s is (inl first) goes =
              entry (subst (λ z. GoesOn last z told.2.0) first goes)
            where
              entry : GoesOn last (stood.Entry stamp) told.2.0 → ShowsStamp stamp b
              entry (inl one) =
                  let found = found_shown a b event in (found.0, found.1, found.2 ∙ one.1)
              entry (inr gone) = absurd (stays gone)
          known s is (inr other) goes =
              absurd (stays (subst (λ z. GoesOn last z told.2.0) other goes))

  -- What holds of the entry that stood there once between two moments, if one stood there, holds of
  -- the one that stands there at both.
  pub stood_between : {P : Entry → Type 0} {first a b last : SeatOf T} {entry later : Entry}
      → ((events : List Event) → StandsBetween (world_at table first) events)
      → Seeks table first a → Seeks table b last → PeeksOnce table slot P a b
      → entry_at (world_at table first) slot ≡ Some entry
      → entry_at (world_at table last) slot ≡ Some later → later.stamp ≡ entry.stamp → P entry
  stood_between {P} {first} {a} {b} {last} {entry} {later} between before behind h here there same =
      subst P (sym one) (subst (λ o. IfSome o P) held h.2)
    where
      led : (more : List Done) × (past a ≡ past first ++ more)
      led = does_more table before.own first a before.does

      ended : (more : List Done) × (past last ≡ past b ++ more)
      ended = does_more table behind.own b last behind.does

      front : List Done
      front = led.0 ++ (h.1.since ++ h.1.done ∷ [])

      rest : List Done
      rest = h.1.later ++ ended.0

      to_moment : past h.0 ≡ past first ++ front
      to_moment =
          h.1.begins ∙ (ap (λ ds. ds ++ (h.1.since ++ h.1.done ∷ [])) led.1
          ∙ append_assoc (past first) led.0 (h.1.since ++ h.1.done ∷ []))

      to_last : past last ≡ past h.0 ++ rest
      to_last =
          ended.1 ∙ (ap (λ ds. ds ++ ended.0) h.1.goes_on
          ∙ append_assoc (past h.0) h.1.later ended.0)

      world_then : world_at table h.0 ≡ after_all (world_at table first) (events_of front)
      world_then = ap (λ ds. world_of (plan_of table) ds) to_moment
          ∙ after_more (past first) front (begun_world (plan_of table))

      world_last : world_at table last
          ≡ after_all (world_at table first) (events_of (front ++ rest))
      world_last =
          ap (λ ds. world_of (plan_of table) ds)
          (to_last ∙ (ap (λ ds. ds ++ rest) to_moment ∙ append_assoc (past first) front rest))
          ∙ after_more (past first) (front ++ rest) (begun_world (plan_of table))

      stands : (some more : List Event) → events_of (front ++ rest) ≡ some ++ more
          → entry_at (after_all (world_at table first) some) slot ≡ Some later
      stands = between (events_of (front ++ rest)) slot entry later here
          (ap (λ (w : State). entry_at w slot) (sym world_last) ∙ there) same

      one : entry ≡ later
      one = same_Some entry later (sym here ∙ stands [] (events_of (front ++ rest)) refl)

      held : entry_at (world_at table h.0) slot ≡ Some later
      held = ap (λ (w : State). entry_at w slot) world_then
          ∙ stands (events_of front) (events_of rest)
          (map-append (λ (d : Done). d.event) front rest)

-- What is left of the view, and that only loads were made.
module _ {T A : Type 0} (table : RuleTable T A) where
  pub reads_then : {a b c : SeatOf T} → Reads table a b → Reads table b c → Reads table a c
  reads_then {a} {b} {c} h g = record {
    loads = loads_then table a b c h.loads g.loads;
    sought = sought_then _ _ _ h.sought g.sought;
  }

  -- loads that leave the view
  pub reads_kept : {a b : SeatOf T} → view b ≡ view a → OnlyLoads table a b → Reads table a b
  reads_kept {a} kept loads = record {
    loads = loads;
    sought = subst (λ v. Sought (view a) v) (sym kept) (searched_refl (view a));
  }

  -- a glimpse changes nothing else
  glimpse_sought : {v w : View T} → w ≡ record v { glimpse = w.glimpse } → Sought v w
  glimpse_sought {v} {w} same = record {
    searched = record {
      same = same ∙ (λ k. record v {
        work = record v.work {
          looked = sym (ap (λ (z : View T). z.work.looked) same) k;
          dead = sym (ap (λ (z : View T). z.work.dead) same) k;
        };
        records = sym (ap (λ (z : View T). z.records) same) k;
        met = sym (ap (λ (z : View T). z.met) same) k;
        glimpse = w.glimpse;
      });
      dead = λ stamp h. rw same h;
      met = ([], ap (λ (z : View T). z.met) same ∙ no_more v.met);
    };
    records = ap (λ (z : View T). z.records) same;
  }

  module _ (slot : ℕ) where
    -- A glance leaves a glimpse of the same word.
    pub record HasGlimpse (stamped : ℕ) (seat : SeatOf T) : Type 0 where
      pub glimpse : Glimpse
      pub there : (view seat).glimpse ≡ Some glimpse
      pub word : glimpse.word ≡ stamped

    glanced : (stamped word : ℕ) (a b : SeatOf T) → HasGlimpse stamped a
        → IsGlance table slot word a b → Sought (view a) (view b) × HasGlimpse stamped b
    glanced stamped word a b g h = by h.0 told
      where
        told : Glanced word h.0 g.glimpse (view a) (view b)
        told = subst (λ o. IfSome o (λ z. Glanced word h.0 z (view a) (view b))) g.there h.1

        by : (o : Option Stamp) → Glanced word o g.glimpse (view a) (view b)
            → Sought (view a) (view b) × HasGlimpse stamped b
        by None told = (
          subst (λ v. Sought (view a) v) (sym told.1) (searched_refl (view a)),
          record {
            glimpse = g.glimpse;
            there = ap (λ (z : View T). z.glimpse) told.1 ∙ g.there;
            word = g.word;
          },
        )
        by (Some stamp) told = (
          glimpse_sought (told.2.2 ∙ ap (λ o. record (view a) { glimpse = o })
              (sym (ap (λ (z : View T). z.glimpse) told.2.2))),
          record {
            glimpse = record g.glimpse { stood = told.2.0 };
            there = ap (λ (z : View T). z.glimpse) told.2.2;
            word = g.word;
          },
        )

    -- the loads up to the first glance
    pub first_reads : {stamped : ℕ} (word : ℕ) {old : SeatOf T} (peeked : SeatOf T) {seen : SeatOf
        T}
        → view peeked ≡ after_glimpse slot stamped (view old) → IsPeek table slot old peeked
        → IsGlance table slot word peeked seen → Reads table old seen × HasGlimpse stamped seen
    first_reads {stamped} word {old} peeked {seen} glimpsed one h = (
      record {
        loads = loads_then table old peeked seen (peek_loads table slot peeked one)
            (peek_loads table slot seen (h.0, h.2));
        sought = sought_then _ _ _ (glimpse_sought (glimpsed ∙ ap
            (λ o. record (view old) { glimpse = o })
            (sym (ap (λ (z : View T). z.glimpse) glimpsed)))) both.0;
      },
      both.1,
    )
      where
        both : Sought (view peeked) (view seen) × HasGlimpse stamped seen
        both = glanced stamped word peeked seen
            (record {
              glimpse = record { slot = slot; word = stamped; stood = stood.Unseen };
              there = ap (λ (z : View T). z.glimpse) glimpsed;
              word = refl;
            }) h

    -- those from the last glance on
    pub last_reads : {stamped : ℕ} (word : ℕ) {loaded : SeatOf T} (seen : SeatOf T) {new : SeatOf T}
        → HasGlimpse stamped loaded
        → IsGlance table slot word loaded seen → view new ≡ view seen → IsPeek table slot seen new
        → Reads table loaded new
    last_reads {stamped} word {loaded} seen {new} g h kept one =
        reads_then (record {
          loads = peek_loads table slot seen (h.0, h.2);
          sought = (glanced stamped word loaded seen g h).0;
        }) (reads_kept kept (peek_loads table slot new one))

    -- what is glimpsed stays while the view does
    pub glimpse_kept : {stamped : ℕ} {a b : SeatOf T} → view b ≡ view a → HasGlimpse stamped a
        → HasGlimpse stamped b
    glimpse_kept kept g = record {
      glimpse = g.glimpse;
      there = ap (λ (z : View T). z.glimpse) kept ∙ g.there;
      word = g.word;
    }

    -- all of them, up to the last load of the stamp word
    pub all_reads : {stamped : ℕ} (word last : ℕ) {old : SeatOf T} (peeked : SeatOf T) {seen loaded
        : SeatOf T} (glanced : SeatOf T) {new : SeatOf T}
        → view peeked ≡ after_glimpse slot stamped (view old) → IsPeek table slot old peeked
        → IsGlance table slot word peeked seen → view loaded ≡ view seen
        → OnlyLoads table seen loaded → IsGlance table slot last loaded glanced
        → view new ≡ view glanced → IsPeek table slot glanced new → Reads table old new
    all_reads {stamped} word last {old} peeked {seen} {loaded} glanced {new} glimpsed one h kept
        loads again same end =
        let first = first_reads word peeked glimpsed one h in
        reads_then first.0 (reads_then (reads_kept kept loads)
        (last_reads last glanced (glimpse_kept kept first.1) again same end))

-- a key is its halves
pub same_key : (entry : Entry) {key : Key} → entry.key0 ≡ key.w0 → entry.key1 ≡ key.w1
    → key_of entry ≡ key
same_key entry first second = rw (first, second) refl

-- A walk at a slot holds what stands visible there, and frees what nobody holds.
use Rattle.std.proofs.Common.{◌≡◌, ◌⊎◌, inl, inr, ℕ, ◌&&◌, Bool, true, false, List, [], ◌∷◌, Option, None, Some, Ok, slice_get, sym, subst, refl, ap, ◌∙◌}
use Rattle.std.specs.List.{list_any}
use Rattle.std.specs.Prelude.{IsSomeAnd, option_and_then, if◌then◌else◌}
use Rattle.std.proofs.lemmas.Bool.{cases_eq}
use Rattle.hcc_word.specs.Word.{is_shareable, is_visible}
use Rattle.hcc_core.specs.declared.client.Client.{Client}
use Rattle.hcc_core.specs.declared.event.Event.TheVariants as events
use Rattle.hcc_core.specs.declared.event.Reply.TheVariants as replies
use Rattle.hcc_core.specs.declared.slot.Reference.{Reference}
use Rattle.hcc_core.specs.declared.slot.Slot.{Slot}
use Rattle.hcc_core.specs.Entries.{free_of, is_free_for, may_free}
use Rattle.hcc_core.specs.Outcomes.{allow, has_no_member, live_at, slot_at}
use Rattle.hcc_core.specs.Runs.{entry_held, entry_of, held_at}
use Rattle.hcc_core.specs.Steps.{outcome_of}
use Rattle.hcc_core.specs.World.{State, is_named, is_shareable as has_entry, owns_nothing, references_of}
use Rattle.hcc_core.proofs.Keeps.{found_ok}
use Rattle.hcc_rule.specs.declared.key.Key.{Key}
use Rattle.hcc_rule.specs.declared.table.RuleTable.{RuleTable}
use Rattle.hcc_rule.specs.declared.view.Record.{Record}
use Rattle.hcc_rule.specs.Acts.{Leads}
use Rattle.hcc_rule.specs.Callers.{clients_of, world_at}
use Rattle.hcc_rule.specs.Events.{acquire_done}
use Rattle.hcc_rule.specs.Records.{record_in}
use Rattle.hcc_rule.specs.Seats.{SeatOf, view}
use Rattle.hcc_table.specs.declared.efforts.Effort.{Effort}
use Rattle.hcc_table.specs.declared.keeping.AtSlot.{AtSlot}
use Rattle.hcc_table.specs.declared.keeping.AtSlot.TheVariants.{Nothing, Held, Freed}
use Rattle.hcc_table.specs.declared.pins.Pin.{Pin}
use Rattle.hcc_table.specs.AtSlots.{Frees, HoldsShown, IsShownBy, PinsAt, PinsLasting, ShowsNoneOnce, TakesUnheld, freed_there}
use Rattle.hcc_table.specs.Freed.{TakesByWhereDue, is_due}
use Rattle.hcc_table.specs.Seeking.{Seeks}
use Rattle.hcc_table.specs.Standing.{IsMomentOf, ShowsOnce, ShowsSame, shown_at}
use Rattle.hcc_table.proofs.Lasting.{alone_shows, looks_led, looks_seek, met_there, moment_shows, reached_seeks}
use Rattle.hcc_table.proofs.Moments.{event_leads, led_none, moment_of, some_and}
use Rattle.hcc_table.proofs.Releases.{takes_show}
use Rattle.hcc_table.proofs.Seeking.{seeks_none, seeks_one, seeks_then}
use Rattle.hcc_table.proofs.Shown.{acquire_hides, acquire_shows, bound, look_tells, ruled}
use Rattle.hcc_table.proofs.Still.{reaches_seek}

-- An entry that was taken by no reference was held by nobody.
frees_unheld : (w next : State) (client slot charge : ℕ)
    → outcome_of w (events.Free client slot None) ≡ Ok (replies.Freed charge, next)
    → (c n : ℕ) → held_at w c n slot ≡ None
unfolding free_of
frees_unheld w next client slot charge is c n =
    let first = bound (slot_at w slot) _ _ (ruled w (events.Free client slot None) _ is) in
    let second = bound (live_at w client) _ _ first.2 in
    let third = bound (allow (may_free client second.0 first.0 None)) _ _ second.2 in
    by first.0 second.0 (found_ok _ _ first.0 first.1) (allowed _ _ third.1)
  where
    allowed : (b : Bool) (u : Unit {0}) → allow b ≡ Ok u → b ≡ true
    allowed true u is = refl
    allowed false u is = cc

    none : (ks : List Reference) → is_free_for client None ks ≡ true → ks ≡ []
    none [] is = refl
    none (k ∷ ks) is = cc

    last : (a b d e : Bool) → (a && b && d && e) ≡ true → e ≡ true
    last true true true e is = is
    last true true false e is = cc
    last true false d e is = cc
    last false b d e is = cc

    by : (seen : Slot) (found : Client) → slice_get w.slots slot ≡ Some seen
        → may_free client found seen None ≡ true → held_at w c n slot ≡ None
    by seen found at may =
        ap (option_and_then (entry_held c n)) at
        ∙ ap (λ ks. if list_any (is_named c n) ks then entry_of seen else None)
        (none (references_of seen)
        (last (owns_nothing found.owned) (has_no_member found.trail) (has_entry seen)
        (is_free_for client None (references_of seen)) may))

module _ {T A : Type 0} (fits : T → Key → List ℕ → Type 0) (table : RuleTable T A)
    (name slot : ℕ) where
  module _ {held : Option Pin} {before after : Effort} {a b : SeatOf T}
      (h : HoldsShown fits table name slot held before after a b) where
    -- Behind its acquire a reference was kept or given back: that is only to search.
    kept_seek : Seeks table h.mid b
    kept_seek = by (is_visible h.word) refl
      where
        hidden : is_visible h.word ≡ false → (has : Bool) → is_shareable h.word ≡ has
            → Seeks table h.mid b
        hidden off false away =
            subst (Seeks table h.mid) (sym (h.stray away)) (seeks_none table h.mid)
        hidden off true has =
            let given = h.hidden (rw (has, off) refl) in
            seeks_one table _ h.mid b given.2 refl

        by : (shown : Bool) → is_visible h.word ≡ shown → Seeks table h.mid b
        by true on = subst (Seeks table h.mid) (sym (h.shown on).1) (seeks_none table h.mid)
        by false off = hidden off (is_shareable h.word) refl

    -- So is all behind the add,
    added_seek : Seeks table h.reaches.by.mid b
    added_seek =
        seeks_then table _ h.mid b (reached_seeks table slot 1 name h.word a h.mid h.reaches.by)
        kept_seek

    -- and with it.
    holds_seek : Seeks table a b
    holds_seek =
        seeks_then table a h.mid b (reaches_seek table slot 1 name h.word a h.mid h.reaches.by)
        kept_seek

    added_leads : (w : State) × Leads w (acquire_done slot 1 name h.word (view a))
        (world_at table h.reaches.by.mid)
    added_leads = event_leads table _ a h.reaches.by.mid h.reaches.by.adds

    -- where the add found the slot not visible it showed nothing then
    added_none : is_visible h.word ≡ false
        → shown_at (world_at table h.reaches.by.mid) slot ≡ None
    added_none off =
        acquire_hides added_leads.0 (world_at table h.reaches.by.mid) (view a).client slot 1 name
        h.word added_leads.1 off

    -- and where it found it visible, that was the entry that the record is on
    added_shows : is_visible h.word ≡ true
        → IsSomeAnd (record_in name (view b).records)
        (λ r. shown_at (world_at table h.reaches.by.mid) slot ≡ Some r.entry)
    added_shows on =
        let there = some_and (record_in name (view h.mid).records) _ (h.shown on).2 in
        let held = subst (λ o. IsSomeAnd o
        (λ (q : Record). (q.slot ≡ slot) × (q.entry ≡ there.0.entry)))
        (sym there.1) (there.2, refl) in
        let shown = acquire_shows added_leads.0 (world_at table h.reaches.by.mid) (view a).client
        slot 1 name h.word added_leads.1 on in
        let same = met_there table slot 1 name h.word a h.mid h.reaches.by
        (λ e. e ≡ there.0.entry) held shown.0 shown.1 in
        subst (λ o. IsSomeAnd o
        (λ (r : Record). shown_at (world_at table h.reaches.by.mid) slot ≡ Some r.entry))
        (sym (ap (λ (z : SeatOf T). record_in name (view z).records) (h.shown on).1 ∙ there.1))
        (shown.1 ∙ ap Some same)

  -- To try to take an entry, and not to, is only to search.
  frees_seek : {word : ℕ} {room : Bool} {before after : Effort} {a b : SeatOf T}
      → Frees table slot word room None before after a b → Seeks table a b
  frees_seek {word} {room} {a = a} {b = b} h = by (room && is_due false word) h.takes
    where
      by : (due : Bool) → TakesByWhereDue table slot word None due None a b → Seeks table a b
      by false takes = subst (Seeks table a) (sym (takes.1 refl)) (seeks_none table a)
      by true takes =
          let lost = (takes.0 refl).lost in
          seeks_one table _ a b lost.2 refl

  -- In a shard of one client a slot that showed nothing once shows nothing when the call began.
  once_none : clients_of table ≡ 1 → {old last : SeatOf T} → ShowsNoneOnce table slot old last
      → shown_at (world_at table old) slot ≡ None
  once_none one {old} {last} h = sym (moment_shows table one h.1 slot) ∙ h.2

  module _ {room : Bool} {before after : Effort} {old new : SeatOf T} where
    module _ (done : AtSlot) (h : PinsAt fits table name slot room done before after old new) where
      looked : Seeks table old h.looked
      looked = looks_seek table slot h.seen old h.looked h.looks

      -- a walk that freed nothing only searched
      pub unfreed_seek : freed_there done ≡ None → Seeks table old new
      unfreed_seek none = by (is_visible h.seen) refl
        where
          by : (b : Bool) → is_visible h.seen ≡ b → Seeks table old new
          by true on = seeks_then table old _ new looked (holds_seek (h.shown on).0)
          by false off =
              seeks_then table old _ new looked (frees_seek
              (subst (λ o. Frees table slot h.seen room o before after h.looked new) none
              (h.unshown off).1))

      -- the look was a moment of what came with it
      look_moment : {last : SeatOf T} → Seeks table h.looked last
          → IsMomentOf table h.looked old last
      look_moment {last} rest = moment_of table (led_none table old) h.looks.2 refl refl rest

      -- where it found the slot not visible, that showed nothing then
      look_none : is_visible h.seen ≡ false → shown_at (world_at table h.looked) slot ≡ None
      look_none off =
          let led = event_leads table _ old h.looked h.looks.2 in
          look_tells led.0 (world_at table h.looked) (view old).client slot h.seen led.1 off

      -- the add was a moment of all
      add_moment : (on : is_visible h.seen ≡ true)
          → IsMomentOf table (h.shown on).0.reaches.by.mid old new
      add_moment on =
          let held = (h.shown on).0 in
          moment_of table (looks_led table h.looks) held.reaches.by.adds refl refl (added_seek held)

    -- What a walk holds, holds not or frees at a slot.
    pub pins_last : (done : AtSlot) → PinsAt fits table name slot room done before after old new
        → PinsLasting table slot name done old new
    pins_last Nothing h = by (is_visible h.seen) refl
      where
        added : (on : is_visible h.seen ≡ true) → (b : Bool)
            → is_visible (h.shown on).0.word ≡ b → ShowsNoneOnce table slot old new
        added on true shown =
            let bad : None ≡ Some _ = ((h.shown on).0.shown shown).0 in cc
        added on false off = (
          (h.shown on).0.reaches.by.mid,
          add_moment Nothing h on,
          added_none (h.shown on).0 off,
        )

        by : (b : Bool) → is_visible h.seen ≡ b → ShowsNoneOnce table slot old new
        by true on = added on (is_visible (h.shown on).0.word) refl
        by false off = (
          h.looked,
          look_moment Nothing h (frees_seek (h.unshown off).1),
          look_none Nothing h off,
        )
    pins_last (Held pin) h = by (is_visible h.seen) refl
      where
        added : (on : is_visible h.seen ≡ true) → (b : Bool)
            → is_visible (h.shown on).0.word ≡ b
            → IsSomeAnd (record_in name (view new).records)
            (λ r. ShowsOnce table slot r.entry old new)
        added on true shown =
            let there = some_and (record_in name (view new).records) _
            (added_shows (h.shown on).0 shown) in
            subst (λ o. IsSomeAnd o (λ (r : Record). ShowsOnce table slot r.entry old new))
            (sym there.1) (
              (h.shown on).0.reaches.by.mid,
              add_moment (Held pin) h on,
              there.2,
            )
        added on false off = let bad : Some pin ≡ None = (h.shown on).0.unshown off in cc

        by : (b : Bool) → is_visible h.seen ≡ b
            → IsSomeAnd (record_in name (view new).records)
            (λ r. ShowsOnce table slot r.entry old new)
        by true on = added on (is_visible (h.shown on).0.word) refl
        by false off = let bad : Some pin ≡ None = (h.unshown off).0 in cc
    pins_last (Freed charge) h = by (is_visible h.seen) refl
      where
        freed : Frees table slot h.seen room (Some charge) before after h.looked new
            → TakesUnheld table slot charge h.looked new
        freed f =
            let free = (f.takes.0 f.tries.won.0).won in
            let led = event_leads table _ h.looked free.0 free.1 in
            record {
              took = free.0;
              event = free.1;
              world = led.0;
              leads = led.1;
              unheld = frees_unheld led.0 (world_at table free.0) (view h.looked).client slot charge
                  led.1;
              rest = free.2;
            }

        by : (b : Bool) → is_visible h.seen ≡ b
            → (looked : SeatOf T) × ShowsNoneOnce table slot old looked
            × TakesUnheld table slot charge looked new
        by true on = let bad : Some charge ≡ None = (h.shown on).1 in cc
        by false off = (
          h.looked,
          (
            h.looked,
            look_moment (Freed charge) h (seeks_none table h.looked),
            look_none (Freed charge) h off,
          ),
          freed (h.unshown off).1,
        )

    -- In a shard of one client it holds what the slot shows,
    module _ (one : clients_of table ≡ 1) where
      pub pins_shown : (done : AtSlot) → PinsAt fits table name slot room done before after old new
          → IsShownBy (shown_at (world_at table old) slot) name done (view new)
      pins_shown Nothing h = once_none one (pins_last Nothing h)
      pins_shown (Held pin) h =
          let there = some_and (record_in name (view new).records) _ (pins_last (Held pin) h) in
          subst
          (λ o. IsSomeAnd o (λ (r : Record). shown_at (world_at table old) slot ≡ Some r.entry))
          (sym there.1) (sym (moment_shows table one there.2.1 slot) ∙ there.2.2)
      pins_shown (Freed charge) h =
          let last = pins_last (Freed charge) h in
          once_none one last.1

      -- and takes away nothing that is shown.
      pub pins_stay : (done : AtSlot) → PinsAt fits table name slot room done before after old new
          → ShowsSame (world_at table old) (world_at table new)
      pins_stay Nothing h = alone_shows table one (unfreed_seek Nothing h refl)
      pins_stay (Held pin) h = alone_shows table one (unfreed_seek (Held pin) h refl)
      pins_stay (Freed charge) h = λ s. by s (is_visible h.seen) refl
        where
          none : shown_at (world_at table old) slot ≡ None
          none = pins_shown (Freed charge) h

          left : Frees table slot h.seen room (Some charge) before after h.looked new
              → (s : ℕ) → (s ≡ slot) ⊎ ¬ (s ≡ slot)
              → shown_at (world_at table new) s ≡ shown_at (world_at table old) s
          left f s here =
              let but = takes_show table one (room && is_due false h.seen) (Some charge) f.takes
              f.tries.won.0 in
              elim here [
                | inl is ↦
                    subst (λ n. shown_at (world_at table new) n ≡ shown_at (world_at table old) n)
                    (sym is) (but.gone ∙ sym none)
                | inr other ↦
                    but.others s other
                    ∙ alone_shows table one (looked (Freed charge) h) s
              ]

          by : (s : ℕ) → (b : Bool) → is_visible h.seen ≡ b
              → shown_at (world_at table new) s ≡ shown_at (world_at table old) s
          by s true on = let bad : Some charge ≡ None = (h.shown on).1 in cc
          by s false off = left (h.unshown off).1 s (cases_eq s slot)

-- An insertion in a shard of one client: it meets the entry that look-ups find, or comes before it.
use Rattle.std.proofs.Common.{◌≡◌, ◌≢◌, inl, inr, ℕ, ◌+◌, ◌<◌, ◌≤◌, Bool, true, false, List, [], ◌∷◌, Some, None, length, slice_get, sym, refl, ap, ◌∙◌, subst, arith}
use Rattle.std.specs.Prelude.{IsSomeAnd, option_and_then}
use Rattle.std.proofs.lemmas.Bool.{cases_lt}
use Rattle.hcc_word.specs.Word.{is_counting, is_visible}
use Rattle.hcc_core.specs.declared.client.Owned.TheVariants as owned
use Rattle.hcc_core.specs.declared.slot.Entry.{Entry}
use Rattle.hcc_core.specs.declared.slot.Slot.{Slot}
use Rattle.hcc_core.specs.World.{State}
use Rattle.hcc_rule.specs.declared.key.Key.{Key}
use Rattle.hcc_rule.specs.declared.table.RuleTable.{RuleTable}
use Rattle.hcc_rule.specs.Acts.{Leads}
use Rattle.hcc_rule.specs.Callers.{IsEvent, clients_of, slots_of, world_at}
use Rattle.hcc_rule.specs.Events.{acquire_done}
use Rattle.hcc_rule.specs.Probes.{probe_slot}
use Rattle.hcc_rule.specs.Seats.{SeatOf, view}
use Rattle.hcc_rule.specs.Words.{key_of}
use Rattle.hcc_rule.proofs.Probes.ProbeLaws.{probe_inside, probe_of_slot, some_slots}
use Rattle.hcc_table.specs.declared.efforts.Effort.{Effort}
use Rattle.hcc_table.specs.declared.inserting.Insertion.{Insertion}
use Rattle.hcc_table.specs.declared.inserting.Insertion.TheVariants.{Placed, Matched, NoSlot}
use Rattle.hcc_table.specs.Freed.{release_done}
use Rattle.hcc_table.specs.Probed.{AtProbes, FindsTaken, Passes, PassesEntry}
use Rattle.hcc_table.specs.Seeking.{GoesOnBy, Seeks, is_unpass}
use Rattle.hcc_table.specs.Standing.{InsertsShown, ShowsKey, ShowsMore, ShowsSame, entry_shown, shown_at}
use Rattle.hcc_table.specs.Tries.{Inserts, MatchesAt, PassesTaken, ShowsBy, UsesEntry}
use Rattle.hcc_table.proofs.Alone.{event_alone}
use Rattle.hcc_table.proofs.Lasting.{alone_shows, entry_seeks, met_there, reach_seeks, reached_seeks}
use Rattle.hcc_table.proofs.Moments.{none_shown, some_and}
use Rattle.hcc_table.proofs.Occupied.{occupy_tells, passed_keeps, show_tells, taken_tells, use_tells, write_after}
use Rattle.hcc_table.proofs.Seeking.{seeks_one, seeks_then}
use Rattle.hcc_table.proofs.Shown.{acquire_hides, acquire_shows}
use Rattle.hcc_table.proofs.Unshown.{KeepsOwned, goes_keep, owned_at, unpass_after}

module _ {T A : Type 0} (table : RuleTable T A) (one : clients_of table ≡ 1) (key : Key) where
  -- What is shown in one world is shown where the same is.
  shows_still : (w next : State) (slot : ℕ) → shown_at next slot ≡ shown_at w slot
      → ShowsKey next key slot → ShowsKey w key slot
  shows_still w next slot same = subst (λ o. IsSomeAnd o (λ e. key_of e ≡ key)) same

  -- The trail was taken back.
  unpassed : {a b : SeatOf T} → GoesOnBy table is_unpass a b
      → ShowsSame (world_at table a) (world_at table b)
  unpassed h s =
      ap (λ xs. option_and_then entry_shown (slice_get xs s)) (goes_keep unpass_after one h).0

  -- A slot that isn't empty was looked at.
  looked_at : {slot seen : ℕ} {a b : SeatOf T} → FindsTaken table slot seen a b
      → ShowsSame (world_at table a) (world_at table b)
      × (is_visible seen ≡ false → shown_at (world_at table b) slot ≡ None)
  looked_at {slot} {seen} {a} {b} h =
      occupy_tells (world_at table a) (world_at table b) (view a).client slot seen
      (event_alone table one _ a b h.3) h.2

  module _ (fits : T → Key → List ℕ → Type 0) (name weight : ℕ) where
    -- An entry was passed: the slot doesn't show the key.
    entry_lacks : {slot word : ℕ} {e f : Effort} {a b : SeatOf T}
        → PassesEntry fits table key name slot weight word e f a b
        → ShowsSame (world_at table a) (world_at table b) × ¬ ShowsKey (world_at table a) key slot
    entry_lacks {slot} {word} {e} {f} {a} {b} h = (
      alone_shows table one (entry_seeks fits table key name slot weight word e f a b h),
      λ shows. here (is_visible word) refl
          (shows_still (world_at table got) (world_at table a) slot (sym (same slot)) shows),
    )
      where
        got : SeatOf T
        got = h.reaches.by.mid

        led : Leads (world_at table a) (acquire_done slot weight name word (view a))
            (world_at table got)
        led = event_alone table one _ a got h.reaches.by.adds

        same : ShowsSame (world_at table a) (world_at table got)
        same = alone_shows table one (reach_seeks table slot weight name word a h.mid h.reaches.by)

        here : (shown : Bool) → is_visible word ≡ shown → ¬ ShowsKey (world_at table got) key slot
        here false off shows =
            none_shown (world_at table got) key slot
            (acquire_hides (world_at table a) (world_at table got) (view a).client slot weight name
            word led off) shows
        here true visible shows =
            let found = some_and (shown_at (world_at table got) slot) _ shows in
            met_there table slot weight name word a h.mid h.reaches.by
            (λ e. ¬ (key_of e ≡ key)) (h.other visible) found.0 found.1 found.2

    -- So is a slot that was passed,
    passed_lacks : {slot word : ℕ} {e f : Effort} {a b : SeatOf T}
        → Passes fits table key name (FindsTaken table slot) slot weight word e f a b
        → ShowsSame (world_at table a) (world_at table b) × ¬ ShowsKey (world_at table a) key slot
    passed_lacks {slot} {word} {e} {f} {a} {b} h = by (is_visible h.seen) refl
      where
        looked : ShowsSame (world_at table a) (world_at table h.mid)
            × (is_visible h.seen ≡ false → shown_at (world_at table h.mid) slot ≡ None)
        looked = looked_at h.first

        by : (shown : Bool) → is_visible h.seen ≡ shown
            → ShowsSame (world_at table a) (world_at table b)
            × ¬ ShowsKey (world_at table a) key slot
        by false off = (
          λ s. ap (λ z. shown_at (world_at table z) s) (h.unshown off).2 ∙ looked.0 s,
          none_shown (world_at table a) key slot (sym (looked.0 slot) ∙ looked.1 off),
        )
        by true on =
            let entry = entry_lacks (h.shown on) in (
              λ s. entry.0 s ∙ looked.0 s,
              λ shows. entry.1
                  (shows_still (world_at table h.mid) (world_at table a) slot
                  (sym (looked.0 slot)) shows),
            )

    -- and the slots that were passed, one after the other.
    probes_lack : (i : ℕ) (ps : List ℕ) (e f : Effort) (a b : SeatOf T)
        → AtProbes (slots_of table) key (PassesTaken fits table key name weight) i ps e f a b
        → ShowsSame (world_at table a) (world_at table b)
        × ((k : ℕ) → i ≤ k → k < i + length ps
        → ¬ ShowsKey (world_at table a) key (probe_slot (slots_of table) key k))
    probes_lack i [] e f a b h = (
      λ s. ap (λ z. shown_at (world_at table z) s) h.1,
      λ k low high. absurd (omega arith),
    )
    probes_lack i (p ∷ ps) e f a b h =
        let at = h.2 in
        let slot = probe_slot (slots_of table) key i in
        let first = passed_lacks at.passes in
        let rest = probes_lack (i + 1) ps h.0 f h.1 b h.3 in
        let same : ShowsSame (world_at table a) (world_at table h.1) =
        λ s. passed_keeps (world_at table at.mid) (view at.mid).client slot
        (event_alone table one _ at.mid h.1 at.event) s
        ∙ first.0 s in (
          λ s. rest.0 s ∙ same s,
          λ k low high. elim (cases_lt i k) [
            | inl later ↦ λ shows.
                rest.1 k (omega arith) (omega arith)
                (shows_still (world_at table h.1) (world_at table a)
                (probe_slot (slots_of table) key k)
                (sym (same (probe_slot (slots_of table) key k))) shows)
            | inr here ↦
                let is : i ≡ k = omega arith in
                subst (λ n. ¬ ShowsKey (world_at table a) key (probe_slot (slots_of table) key n))
                is first.1
          ],
        )

    -- References were released.
    released : (used : Bool) (other : ℕ) (a b : SeatOf T)
        → IsEvent table (release_done used weight name other (view a)) a b
        → ShowsSame (world_at table a) (world_at table b)
    released true other a b event =
        use_tells (world_at table a) (world_at table b) (view a).client name _
        (event_alone table one _ a b event)
    released false other a b event = alone_shows table one (seeks_one table _ a b event refl)

    -- An entry of the key was met.
    matches_show : {slot : ℕ} {e f : Effort} {a b : SeatOf T}
        → MatchesAt fits table key name weight slot e f a b
        → ShowsSame (world_at table a) (world_at table b) × ShowsKey (world_at table a) key slot
    matches_show {slot} {e} {f} {a} {b} h = (
      λ s. released (is_counting h.word) uses.by.0 uses.held b uses.by.1 s
          ∙ alone_shows table one seeks s ∙ looked.0 s,
      shows_still (world_at table a) (world_at table got) slot (alone_shows table one
          (reach_seeks table slot weight name h.word h.mid uses.mid uses.reaches.by) slot
          ∙ looked.0 slot)
          (subst (λ o. IsSomeAnd o (λ e. key_of e ≡ key)) (sym shown.1)
          (met_there table slot weight name h.word h.mid uses.mid uses.reaches.by
          (λ e. key_of e ≡ key) uses.same shown.0 shown.1)),
    )
      where
        uses : UsesEntry fits table key name weight slot h.word e f h.mid b
        uses = h.uses

        got : SeatOf T
        got = uses.reaches.by.mid

        looked : ShowsSame (world_at table a) (world_at table h.mid)
            × (is_visible h.seen ≡ false → shown_at (world_at table h.mid) slot ≡ None)
        looked = looked_at h.first

        shown : (entry : Entry) × (shown_at (world_at table got) slot ≡ Some entry)
        shown = acquire_shows (world_at table h.mid) (world_at table got) (view h.mid).client slot
            weight name h.word (event_alone table one _ h.mid got uses.reaches.by.adds) uses.visible

        seeks : Seeks table h.mid uses.held
        seeks =
            seeks_then table h.mid _ _ (seeks_then table h.mid got _
            (reach_seeks table slot weight name h.word h.mid uses.mid uses.reaches.by)
            (reached_seeks table slot weight name h.word h.mid uses.mid uses.reaches.by)) uses.seeks

    -- An entry of the key was shown in an empty slot.
    placed_shows : {slot : ℕ} {a b : SeatOf T} → ShowsBy fits table key name weight slot a b
        → (shown_at (world_at table a) slot ≡ None) × ShowsKey (world_at table b) key slot
        × ((s : ℕ) → s ≢ slot → shown_at (world_at table b) s ≡ shown_at (world_at table a) s)
    placed_shows {slot} {a} {b} h = (
      took.0,
      subst (λ o. IsSomeAnd o (λ e. key_of e ≡ key)) (sym told.0.1) asked,
      λ s other. told.1 s other ∙ ap (λ xs. option_and_then entry_shown (slice_get xs s)) kept.0
          ∙ took.1 s,
    )
      where
        wrote : SeatOf T
        wrote = h.builds.0

        took : (shown_at (world_at table a) slot ≡ None)
            × ((s : ℕ) → shown_at (world_at table h.took) s ≡ shown_at (world_at table a) s)
            × ((left : Slot) × (slice_get (world_at table h.took).slots slot ≡ Some left))
            × (owned_at (world_at table h.took) (view a).client ≡ Some (owned.ForBuilding slot))
        took =
            taken_tells (world_at table a) (world_at table h.took) (view a).client slot h.word
            (event_alone table one _ a h.took h.takes) h.empty

        kept : KeepsOwned (world_at table h.took) (world_at table wrote)
        kept = goes_keep write_after one h.builds.1

        mine : owned_at (world_at table wrote) (view wrote).client
            ≡ Some (owned.ForBuilding slot)
        mine =
            ap (owned_at (world_at table wrote)) (h.builds.2 ∙ h.same)
            ∙ kept.1 (view a).client ∙ took.3

        told : ((e : Entry) × (shown_at (world_at table b) slot ≡ Some e)
            × (e.key0 ≡ h.made.key.w0) × (e.key1 ≡ h.made.key.w1))
            × ((s : ℕ) → s ≢ slot
            → shown_at (world_at table b) s ≡ shown_at (world_at table wrote) s)
        told =
            show_tells (world_at table wrote) (world_at table b) (view wrote).client h.made.key.w0
            h.made.key.w1 h.made.charge weight h.called h.made.value slot took.2.0 _
            (event_alone table one _ wrote b h.builds.3) mine
            (ap (λ xs. slice_get xs slot) kept.0 ∙ took.2.1)

        asked : key_of told.0.0 ≡ key
        asked =
            (λ k. record { w0 = told.0.2 k; w1 = told.0.3 k }) ∙ h.asked

    module _ (before after : Effort) (old new : SeatOf T) where
      -- By the answer.
      pub inserts_shown : (answer : Insertion)
          → Inserts fits table key name weight answer before after old new
          → InsertsShown (slots_of table) key answer (world_at table old) (world_at table new)
      inserts_shown (Placed slot) m =
          let lacks = probes_lack 0 m.earlier before m.between old m.mid m.probes in
          let at = probe_slot (slots_of table) key (length m.earlier) in
          let shows = placed_shows m.tries.3 in
          let back = unpassed m.rest in
          subst (λ s. ShowsMore (slots_of table) key s (world_at table old) (world_at table new))
          (sym m.tries.0)
          (record {
            i = length m.earlier;
            probe = refl;
            before = λ j less. lacks.1 j (omega arith) (omega arith);
            free = sym (lacks.0 at) ∙ shows.0;
            shows =
                shows_still (world_at table new) (world_at table m.done) at (sym (back at)) shows.1;
            others = λ s other. back s ∙ shows.2 s other ∙ lacks.0 s;
          })
      inserts_shown Matched m =
          let lacks = probes_lack 0 m.earlier before m.between old m.mid m.probes in
          let at = probe_slot (slots_of table) key (length m.earlier) in
          let shows = matches_show m.tries in
          let back = unpassed m.rest in (
            length m.earlier,
            elim (cases_lt (length m.earlier) (slots_of table)) [
              | inl low ↦ low
              | inr high ↦
                  let low = probe_inside (slots_of table) key (length m.earlier)
                  (some_slots (slots_of table) table.limits.power) in
                  let there = probe_of_slot (slots_of table) key table.limits.power at low in
                  absurd (lacks.1 there.0 (omega arith) (let less = there.1 in omega arith)
                  (subst (λ s. ShowsKey (world_at table old) key s) (sym there.2)
                  (shows_still (world_at table old) (world_at table m.mid) at (lacks.0 at)
                  shows.1)))
            ],
            shows_still (world_at table old) (world_at table m.mid) at (lacks.0 at) shows.1,
            λ j less. lacks.1 j (omega arith) (omega arith),
            λ s. back s ∙ shows.0 s ∙ lacks.0 s,
          )
      inserts_shown NoSlot m =
          let lacks = probes_lack 0 m.earlier before m.between old m.mid m.probes in
          let at = probe_slot (slots_of table) key (length m.earlier) in
          let last = passed_lacks m.tries.1 in
          let back = unpassed m.rest in
          let whole = m.all refl in (
            λ slot near.
                let there = probe_of_slot (slots_of table) key table.limits.power slot near in
                subst (λ s. ¬ ShowsKey (world_at table old) key s) there.2
                (elim (cases_lt there.0 (length m.earlier)) [
                  | inl visited ↦ lacks.1 there.0 (omega arith) (omega arith)
                  | inr here ↦
                      let low = there.1 in
                      let is : length m.earlier ≡ there.0 = omega arith in
                      subst (λ n. ¬ ShowsKey (world_at table old) key
                      (probe_slot (slots_of table) key n)) is
                      (λ shows. last.1 (shows_still (world_at table m.mid) (world_at table old) at
                      (sym (lacks.0 at)) shows))
                ]),
            λ s. back s ∙ last.0 s ∙ lacks.0 s,
          )

-- A search that missed: no entry of its key was shown in one slot through the whole call.
use Rattle.std.proofs.Common.{◌≡◌, inl, inr, ℕ, suc, ◌+◌, ◌==◌, ◌<◌, ◌≤◌, Bool, true, false, List, [], ◌∷◌, ◌++◌, Option, Some, None, length, slice_get, sym, subst, refl, ap, ◌∙◌, arith}
use Rattle.std.specs.Prelude.{IsNone, IsSomeAnd, ◌↔◌, option_and_then, if◌then◌else◌}
use Rattle.std.proofs.lemmas.Bool.{cases_lt}
use Rattle.std.proofs.lemmas.List.{append_assoc, append-nil}
use Rattle.hcc_word.specs.Word.{is_visible}
use Rattle.hcc_core.specs.declared.event.Event.TheVariants as events
use Rattle.hcc_core.specs.declared.event.Reply.TheVariants as replies
use Rattle.hcc_core.specs.declared.slot.Entry.{Entry}
use Rattle.hcc_core.specs.declared.slot.Slot.{Slot}
use Rattle.hcc_core.specs.declared.slot.Slot.TheVariants as slots
use Rattle.hcc_core.specs.Runs.{entry_held, held_at}
use Rattle.hcc_core.specs.World.{State, has_reference}
use Rattle.hcc_rule.specs.declared.key.Key.{Key}
use Rattle.hcc_rule.specs.declared.table.RuleTable.{RuleTable}
use Rattle.hcc_rule.specs.declared.view.Done.{Done}
use Rattle.hcc_rule.specs.declared.view.Record.{Record}
use Rattle.hcc_rule.specs.declared.view.View.{View}
use Rattle.hcc_rule.specs.Acts.{Leads, did, past, world_of}
use Rattle.hcc_rule.specs.Callers.{IsEvent, clients_of, plan_of, slots_of, world_at}
use Rattle.hcc_rule.specs.Events.{acquire_done, correct_done, count_done, look_done}
use Rattle.hcc_rule.specs.Opening.{begun_world}
use Rattle.hcc_rule.specs.Probes.{probe_slot}
use Rattle.hcc_rule.specs.Records.{record_in}
use Rattle.hcc_rule.specs.Seats.{SeatOf, view}
use Rattle.hcc_rule.specs.Words.{key_of}
use Rattle.hcc_rule.proofs.Probes.ProbeLaws.{probe_inside, probe_of_slot, some_slots}
use Rattle.hcc_rule.proofs.Seats.Histories.{after_more}
use Rattle.hcc_table.specs.declared.efforts.Effort.{Effort}
use Rattle.hcc_table.specs.declared.pins.Pin.{Pin}
use Rattle.hcc_table.specs.Probed.{AtProbes, Catches, Finds, Looks, Misses, Passes, PassesEntry, Probe, Probed, Searches}
use Rattle.hcc_table.specs.Seeking.{Does, ReachesBy, Seeks, is_seeking}
use Rattle.hcc_table.specs.Standing.{FindsFirst, FindsLasting, IsMomentOf, LacksOnce, ShowsKey, ShowsOnce, entry_shown, shown_at}
use Rattle.hcc_table.specs.Steps.{acquired}
use Rattle.hcc_table.proofs.Moments.{event_leads, event_trails, Led, led_none, led_then, moment_of, none_shown, some_and}
use Rattle.hcc_table.proofs.Probings.{one_longer}
use Rattle.hcc_table.proofs.Seeking.{seeks_none, seeks_one, seeks_then}
use Rattle.hcc_table.proofs.Shown.{acquire_hides, acquire_shows, count_tells, look_tells, seeking_stays, shown_counted}

-- what a slot shows is what a client holds there
held_shown : (world : State) (client name slot : ℕ) {held shown : Entry}
    → held_at world client name slot ≡ Some held → shown_at world slot ≡ Some shown
    → shown ≡ held
held_shown world client name slot {held} {shown} = by (slice_get world.slots slot)
  where
    one : (a b : Bool) (e : Entry) → (if a then Some e else None) ≡ Some held
        → (if b then Some e else None) ≡ Some shown → shown ≡ held
    one true true e is same = cc
    one true false e is same = cc
    one false b e is same = cc

    by : (o : Option Slot) → option_and_then (entry_held client name) o ≡ Some held
        → option_and_then entry_shown o ≡ Some shown → shown ≡ held
    by None is same = cc
    by (Some (slots.Empty strays)) is same = cc
    by (Some (slots.Building other strays)) is same = cc
    by (Some (slots.Shareable r)) is same =
        one (has_reference client name (slots.Shareable r)) r.shown r.entry is same

module _ {T A : Type 0} (table : RuleTable T A) where
  does_alone : clients_of table ≡ 1 → (ds : List Done) (a b : SeatOf T) → Does table ds a b
      → past b ≡ past a ++ ds
  does_alone one [] a b same = ap past same ∙ sym (append-nil (past a))
  does_alone one (d ∷ ds) a b does =
      let first = does.1.0 in
      does_alone one ds does.0 b does.2
      ∙ ap (λ h. h ++ ds) (first.past ∙ ap (λ os. past a ++ (os ++ d ∷ [])) (first.alone one))
      ∙ append_assoc (past a) (d ∷ []) ds

  -- in a shard of one client each slot shows what it showed
  pub alone_shows : clients_of table ≡ 1 → {a b : SeatOf T} → Seeks table a b → (s : ℕ)
      → shown_at (world_at table b) s ≡ shown_at (world_at table a) s
  alone_shows one {a} {b} h s =
      ap (λ ds. shown_at (world_of (plan_of table) ds) s) (does_alone one h.own a b h.does)
      ∙ ap (λ w. shown_at w s) (after_more (past a) h.own (begun_world (plan_of table)))
      ∙ seeking_stays h.own h.only (world_at table a) s

  -- in a shard of one client what is shown at one is shown when the call began
  pub moment_shows : clients_of table ≡ 1 → {old moment new : SeatOf T}
      → IsMomentOf table moment old new → (s : ℕ)
      → shown_at (world_at table moment) s ≡ shown_at (world_at table old) s
  moment_shows one {old} {moment} m s =
      alone_shows one (seeks_then table old _ moment m.began
      (seeks_one table m.done m.before moment m.step m.seeking)) s

  module _ (key : Key) (slot : ℕ) (old new : SeatOf T) where
    pub lacks_alone : clients_of table ≡ 1 → LacksOnce table key slot old new
        → ¬ ShowsKey (world_at table old) key slot
    lacks_alone one h shows =
        h.2 (subst (λ o. IsSomeAnd o (λ e. key_of e ≡ key)) (sym (moment_shows one h.1 slot)) shows)

    pub shows_alone : clients_of table ≡ 1 → (e : Entry) → key_of e ≡ key
        → ShowsOnce table slot e old new → ShowsKey (world_at table old) key slot
    shows_alone one e asked h =
        subst (λ o. IsSomeAnd o (λ x. key_of x ≡ key)) (sym h.2 ∙ moment_shows one h.1 slot) asked

  -- Each part of a search only searches.

  pub looks_seek : (slot seen : ℕ) (a b : SeatOf T) → Looks table slot seen a b → Seeks table a b
  looks_seek slot seen a b h = seeks_one table _ a b h.2 refl

  pub looks_led : {slot seen : ℕ} {a b : SeatOf T} → Looks table slot seen a b → Led table a b
  looks_led {slot} {seen} {a} {b} h = record {
    seeks = looks_seek slot seen a b h;
    same = ap (λ (v : View T). v.client) h.1;
  }

  tries_seek : (slot name word other : ℕ) (v : View T) {a b : SeatOf T}
      → IsEvent table (correct_done slot name word other v) a b → Seeks table a b
  tries_seek slot name word other v {a} {b} event =
      seeks_one table _ a b event (by (other == word))
    where
      by : (b : Bool)
          → is_seeking (if b then did (events.Correct v.client name) replies.Ok
          else look_done slot other v).event ≡ true
      by true = refl
      by false = refl

  -- behind its acquire
  pub reached_seeks : (slot weight name word : ℕ) (a b : SeatOf T)
      (h : ReachesBy table slot weight name word a b) → Seeks table h.mid b
  reached_seeks slot weight name word a b h = elim h.tries [
    | inl same ↦ subst (λ z. Seeks table h.mid z) (sym same) (seeks_none table h.mid)
    | inr tried ↦
        tries_seek slot name (acquired weight word) tried.0 (view h.mid) tried.1
  ]

  pub reach_seeks : (slot weight name word : ℕ) (a b : SeatOf T)
      (h : ReachesBy table slot weight name word a b) → Seeks table a h.mid
  reach_seeks slot weight name word a b h = seeks_one table _ a h.mid h.adds refl

  -- what a record of an acquire is on is what the world after it shows there
  pub met_there : (slot weight name word : ℕ) (a b : SeatOf T)
      (h : ReachesBy table slot weight name word a b) (P : Entry → Type 0)
      → IsSomeAnd (record_in name (view b).records) (λ r. (r.slot ≡ slot) × P r.entry)
      → (e : Entry) → shown_at (world_at table h.mid) slot ≡ Some e → P e
  met_there slot weight name word a b h P holds e shown =
      let found = some_and (record_in name (view h.mid).records) _
      (subst (λ rs. IsSomeAnd (record_in name rs) (λ (r : Record). (r.slot ≡ slot) × P r.entry))
      h.kept holds) in
      let held = h.adds.0.stand name found.0 found.1 in
      let here = subst (λ s. held_at (world_at table h.mid) (view h.mid).client name s
      ≡ Some found.0.entry) found.2.0 held in
      subst P (sym (held_shown (world_at table h.mid) (view h.mid).client name slot here shown))
      found.2.1

module _ {T A : Type 0} (fits : T → Key → List ℕ → Type 0) (table : RuleTable T A) (key : Key)
    (name : ℕ) where
  pub entry_seeks : (slot weight word : ℕ) (e f : Effort) (a b : SeatOf T)
      → PassesEntry fits table key name slot weight word e f a b → Seeks table a b
  entry_seeks slot weight word e f a b h =
      seeks_then table a h.mid b (seeks_then table a _ h.mid
      (reach_seeks table slot weight name word a h.mid h.reaches.by)
      (reached_seeks table slot weight name word a h.mid h.reaches.by)) h.seeks

  pub passes_seek : (slot word : ℕ) (e f : Effort) (a b : SeatOf T)
      → Passes fits table key name (Looks table slot) slot 1 word e f a b → Seeks table a b
  passes_seek slot word e f a b h = by (is_visible h.seen) refl
    where
      by : (shown : Bool) → is_visible h.seen ≡ shown → Seeks table a b
      by false off =
          subst (λ z. Seeks table a z) (sym (h.unshown off).2)
          (looks_seek table slot h.seen a h.mid h.first)
      by true on =
          seeks_then table a h.mid b (looks_seek table slot h.seen a h.mid h.first)
          (entry_seeks slot 1 word e f h.mid b (h.shown on))

  passes_led : {slot word : ℕ} {e f : Effort} {a b : SeatOf T}
      → Passes fits table key name (Looks table slot) slot 1 word e f a b → Led table a b
  passes_led {slot} {word} {e} {f} {a} {b} h =
      record { seeks = passes_seek slot word e f a b h; same = by (is_visible h.seen) refl }
    where
      looked : (view h.mid).client ≡ (view a).client
      looked = (looks_led table h.first).same

      by : (shown : Bool) → is_visible h.seen ≡ shown → (view b).client ≡ (view a).client
      by false off = ap (λ (z : SeatOf T). (view z).client) (h.unshown off).2 ∙ looked
      by true on = ap (λ (v : View T). v.client) (h.shown on).kept.searched.same ∙ looked

  probed_led : {slot : ℕ} {p : Probe} {e f : Effort} {a b : SeatOf T}
      → Probed fits table key name slot p e f a b → Led table a b
  probed_led {slot} {p} {e} {f} {a} {b} h =
      led_then table (passes_led h.passes) (record {
        seeks = seeks_one table _ h.mid b h.event refl;
        same = ap (λ (v : View T). v.client) h.kept;
      })

  probes_led : (i : ℕ) (ps : List Probe) (e f : Effort) {a b : SeatOf T}
      → AtProbes (slots_of table) key (Probed fits table key name) i ps e f a b → Led table a b
  probes_led i [] e f {a} h = subst (λ z. Led table a z) (sym h.1) (led_none table a)
  probes_led i (p ∷ ps) e f {a} {b} h =
      led_then table (probed_led h.2) (probes_led (i + 1) ps h.0 f h.3)

  -- What each part tells.
  module _ (old new : SeatOf T) where
    -- a slot that was passed lacked the key once
    pub passes_lack : (slot word : ℕ) (e f : Effort) (a b : SeatOf T) → Led table old a
        → Seeks table b new → Passes fits table key name (Looks table slot) slot 1 word e f a b
        → LacksOnce table key slot old new
    passes_lack slot word e f a b before behind h = by (is_visible h.seen) refl
      where
        looked : Led table old h.mid
        looked = led_then table before (looks_led table h.first)

        by : (shown : Bool) → is_visible h.seen ≡ shown → LacksOnce table key slot old new
        by false off =
            let led = event_leads table _ a h.mid h.first.2 in (
              h.mid,
              moment_of table before h.first.2 refl refl
                  (subst (λ z. Seeks table z new) (h.unshown off).2 behind),
              none_shown (world_at table h.mid) key slot
                  (look_tells led.0 (world_at table h.mid) (view a).client slot h.seen led.1 off),
            )
        by true on = here (is_visible word) refl
          where
            entry : PassesEntry fits table key name slot 1 word e f h.mid b
            entry = h.shown on

            got : SeatOf T
            got = entry.reaches.by.mid

            led : (w : State) × Leads w (acquire_done slot 1 name word (view h.mid))
                (world_at table got)
            led = event_leads table _ h.mid got entry.reaches.by.adds

            moment : ¬ ShowsKey (world_at table got) key slot → LacksOnce table key slot old new
            moment none = (
              got,
              moment_of table looked entry.reaches.by.adds refl refl (seeks_then table got _ new
                  (reached_seeks table slot 1 name word h.mid entry.mid entry.reaches.by)
                  (seeks_then table _ b new entry.seeks behind)),
              none,
            )

            here : (shown : Bool) → is_visible word ≡ shown → LacksOnce table key slot old new
            here false off =
                moment (none_shown (world_at table got) key slot
                (acquire_hides led.0 (world_at table got) (view h.mid).client slot 1 name word
                led.1 off))
            here true visible =
                moment (λ shows.
                let found = some_and (shown_at (world_at table got) slot) _ shows in
                met_there table slot 1 name word h.mid entry.mid entry.reaches.by
                (λ e. ¬ (key_of e ≡ key)) (entry.other visible) found.0 found.1 found.2)

    -- so did each of the slots that were passed
    probes_lack : (i : ℕ) (ps : List Probe) (e f : Effort) {a b : SeatOf T} → Led table old a
        → Seeks table b new
        → AtProbes (slots_of table) key (Probed fits table key name) i ps e f a b
        → {k : ℕ} → i ≤ k → k < i + length ps
        → LacksOnce table key (probe_slot (slots_of table) key k) old new
    probes_lack i [] e f before behind h low high = absurd (omega arith)
    probes_lack i (p ∷ ps) e f {a} {b} before behind h {k} low high = elim (cases_lt i k) [
      | inl later ↦
          probes_lack (i + 1) ps h.0 f (led_then table before (probed_led h.2)) behind h.3
          (omega arith) (omega arith)
      | inr here ↦
          let same : i ≡ k = omega arith in
          subst (λ n. LacksOnce table key (probe_slot (slots_of table) key n) old new) same
          (passes_lack (probe_slot (slots_of table) key i) p.word e h.0 a h.2.mid before
          (seeks_then table h.2.mid b new (seeks_then table h.2.mid h.1 b
          (seeks_one table _ h.2.mid h.1 h.2.event refl) (probes_led (i + 1) ps h.0 f h.3).seeks)
          behind) h.2.passes)
    ]

    -- an entry that was caught was shown once
    catches_show : {slot word : ℕ} {e f : Effort} {a b : SeatOf T} → Led table old a
        → Seeks table b new
        → (h : Catches fits table key name (Looks table slot) slot 1 word e f a b)
        → (view new).records ≡ (view h.mid).records
        → IsSomeAnd (record_in name (view new).records)
        (λ r. (key_of r.entry ≡ key) × ShowsOnce table slot r.entry old new)
    catches_show {slot} {word} {e} {f} {a} {b} before behind h same =
        subst (λ o. IsSomeAnd o (λ r. (key_of r.entry ≡ key)
        × ShowsOnce table slot r.entry old new))
        (sym (ap (record_in name) same ∙ kept.1)) (
          kept.2.1,
          (by.mid, moment, shown.1 ∙ ap Some same_entry),
        )
      where
        by : ReachesBy table slot 1 name word h.looked h.mid
        by = h.reaches.by

        done : Done
        done = acquire_done slot 1 name word (view h.looked)

        -- the record of it,
        kept : (r : Record) × (record_in name (view h.mid).records ≡ Some r)
            × ((r.slot ≡ slot) × (key_of r.entry ≡ key))
        kept = some_and (record_in name (view h.mid).records) _ h.same

        there : IsSomeAnd (record_in name (view h.mid).records)
            (λ q. (q.slot ≡ slot) × (q.entry ≡ kept.0.entry))
        there =
            subst (λ o. IsSomeAnd o (λ q. (q.slot ≡ slot) × (q.entry ≡ kept.0.entry)))
            (sym kept.1) (kept.2.0, refl)

        -- what the slot showed,
        shown : (e : Entry) × (shown_at (world_at table by.mid) slot ≡ Some e)
        shown =
            let led = event_leads table done h.looked by.mid by.adds in
            acquire_shows led.0 (world_at table by.mid) (view h.looked).client slot 1 name word
            led.1 h.visible

        same_entry : shown.0 ≡ kept.0.entry
        same_entry =
            met_there table slot 1 name word h.looked h.mid by (λ e. e ≡ kept.0.entry) there
            shown.0 shown.1

        -- and when.
        moment : IsMomentOf table by.mid old new
        moment =
            moment_of table (led_then table before (looks_led table h.first)) by.adds refl refl
            (seeks_then table by.mid h.mid new
            (reached_seeks table slot 1 name word h.looked h.mid by)
            (seeks_then table h.mid b new h.seeks behind))

  -- the count at the last of some probes
  last_count : (i : ℕ) (ps : List Probe) (p : Probe) (e f : Effort) {a : SeatOf T} (b : SeatOf T)
      → AtProbes (slots_of table) key (Probed fits table key name) i (ps ++ p ∷ []) e f a b
      → (c : SeatOf T) × Led table a c × IsEvent table (count_done
      (probe_slot (slots_of table) key (i + length ps)) p.displacement (view c)) c b
  last_count i [] p e f {a} b h = (
    h.2.mid,
    passes_led h.2.passes,
    subst (λ n. IsEvent table (count_done (probe_slot (slots_of table) key n) p.displacement
        (view h.2.mid)) h.2.mid b) here
        (subst (λ z. IsEvent table (count_done (probe_slot (slots_of table) key i) p.displacement
        (view h.2.mid)) h.2.mid z) (sym h.3.1) h.2.event),
  )
    where
      here : i ≡ i + 0
      here = omega arith
  last_count i (q ∷ ps) p e f {a} b h =
      let rest = last_count (i + 1) ps p h.0 f b h.3 in (
        rest.0,
        led_then table (probed_led h.2) rest.1,
        subst (λ n. IsEvent table (count_done (probe_slot (slots_of table) key n) p.displacement
            (view rest.0)) rest.0 b) on rest.2,
      )
    where
      on : i + 1 + length ps ≡ i + suc (length ps)
      on = omega arith

  -- A search that missed.
  module _ {before after : Effort} {old new : SeatOf T}
      (m : Misses fits table key name before after old new) where
    -- where no trail went on, no later probe shows the key
    beyond_lacks : {i : ℕ} → length m.earlier < i → i < slots_of table → m.last.displacement ≡ 0
        → LacksOnce table key (probe_slot (slots_of table) key i) old new
    beyond_lacks {i} beyond inside none =
        let count = last_count 0 m.earlier m.last before m.between new m.probes in
        let done : Done = count_done (probe_slot (slots_of table) key (0 + length m.earlier))
        m.last.displacement (view count.0) in
        let led = event_leads table done count.0 new count.2 in
        let told = count_tells led.0 (world_at table new) (view count.0).client
        (probe_slot (slots_of table) key (0 + length m.earlier)) m.last.displacement led.1 in (
          new,
          moment_of table count.1 count.2 refl refl (seeks_none table new),
          λ shows.
              let found = some_and (shown_at (world_at table new)
              (probe_slot (slots_of table) key i)) _ shows in
              let some = shown_counted (slots_of table) (world_at table new) key i
              (0 + length m.earlier) found.0 table.limits.power
              (event_trails table done count.0 new count.2) (omega arith) inside found.1 found.2
              in
              absurd (omega arith),
        )

    pub misses_lack : {slot : ℕ} → slot < slots_of table → LacksOnce table key slot old new
    misses_lack {slot} near =
        let at = probe_of_slot (slots_of table) key table.limits.power slot near in
        subst (λ s. LacksOnce table key s old new) at.2 (by at.0 at.1)
      where
        long : length (m.earlier ++ m.last ∷ []) ≡ length m.earlier + 1
        long = one_longer m.earlier m.last

        by : (i : ℕ) → i < slots_of table
            → LacksOnce table key (probe_slot (slots_of table) key i) old new
        by i inside = elim (cases_lt (length m.earlier) i) [
          | inl beyond ↦ elim m.ends [
            | inl none ↦ beyond_lacks beyond inside none
            | inr all ↦ absurd (omega arith)
          ]
          | inr visited ↦
              probes_lack old new 0 (m.earlier ++ m.last ∷ []) before m.between (led_none table old)
              (seeks_none table new) m.probes (omega arith) (omega (arith, long))
        ]

  -- A search that found an entry.
  module _ {marks : Bool} {slot word : ℕ} {before after : Effort} {old new : SeatOf T}
      (f : Finds fits table key name marks slot word before after old new) where
    marked_seeks : Seeks table f.held new
    marked_seeks = elim f.by [
      | inl same ↦ subst (λ z. Seeks table f.held z) (sym same) (seeks_none table f.held)
      | inr event ↦ seeks_one table _ f.held new event refl
    ]

    passed_led : Led table old f.mid
    passed_led = probes_led 0 f.earlier before f.between f.probes

    caught_seeks : Seeks table f.mid f.held
    caught_seeks =
        let h = f.catches in
        seeks_then table f.mid _ f.held (looks_seek table slot h.seen f.mid h.looked h.first)
        (seeks_then table _ h.mid f.held (seeks_then table _ _ h.mid
        (reach_seeks table slot 1 name word h.looked h.mid h.reaches.by)
        (reached_seeks table slot 1 name word h.looked h.mid h.reaches.by)) h.seeks)

    pub finds_show : IsSomeAnd (record_in name (view new).records)
        (λ r. (key_of r.entry ≡ key) × ShowsOnce table slot r.entry old new)
    finds_show =
        catches_show old new passed_led marked_seeks f.catches
        (f.kept.records ∙ f.catches.kept.records)

    pub finds_lack : {j : ℕ} → j < length f.earlier
        → LacksOnce table key (probe_slot (slots_of table) key j) old new
    finds_lack {j} first =
        probes_lack old new 0 f.earlier before f.between (led_none table old)
        (seeks_then table f.mid f.held new caught_seeks marked_seeks) f.probes (omega arith)
        (omega arith)

  -- A search only seeks.
  pub searches_seek : (marks : Bool) (answer : Option Pin) (before after : Effort)
      (old new : SeatOf T) → Searches fits table key name marks answer before after old new
      → Seeks table old new
  searches_seek marks None before last old new m =
      (probes_led 0 (m.earlier ++ m.last ∷ []) before m.between m.probes).seeks
  searches_seek marks (Some pin) before last old new h =
      seeks_then table old h.1.mid new (passed_led h.1).seeks
      (seeks_then table h.1.mid _ new (caught_seeks h.1) (marked_seeks h.1))

  -- Any number of clients.
  pub finds_lasting : (marks : Bool) (answer : Option Pin) (before after : Effort)
      (old new : SeatOf T) → Searches fits table key name marks answer before after old new
      → FindsLasting table key name answer old new
  finds_lasting marks None before last old new m = λ slot near.
      misses_lack m near
  finds_lasting marks (Some pin) before last old new h = (
    length h.1.earlier,
    h.1.probe,
    finds_show h.1,
    λ j first. finds_lack h.1 first,
  )

  -- One client.
  pub finds_first : clients_of table ≡ 1 → (marks : Bool) (answer : Option Pin)
      (before after : Effort) (old new : SeatOf T)
      → Searches fits table key name marks answer before after old new
      → FindsFirst table key (world_at table old) answer
  finds_first one marks None before last old new m = λ slot near.
      lacks_alone table key slot old new one (misses_lack m near)
  finds_first one marks (Some pin) before last old new h = (
    length h.1.earlier,
    h.1.probe,
    (let found = some_and (record_in name (view new).records) _ (finds_show h.1) in
        shows_alone table key pin.slot old new one found.0.entry found.2.0 found.2.1),
    λ j first. lacks_alone table key (probe_slot (slots_of table) key j) old new one
        (finds_lack h.1 first),
  )

-- Such a search misses exactly where the world shows the key nowhere.
pub misses_exactly : {T A : Type 0} (table : RuleTable T A) (key : Key) (world : State)
    (answer : Option Pin) → FindsFirst table key world answer
    → IsNone answer ↔ ((slot : ℕ) → slot < slots_of table → ¬ ShowsKey world key slot)
misses_exactly table key world None h = (λ none. h, λ never. refl)
misses_exactly table key world (Some pin) h = (
  λ none. cc,
  λ never.
      let near = probe_inside (slots_of table) key h.0
      (some_slots (slots_of table) table.limits.power) in
      absurd (never pin.slot (subst (λ s. s < slots_of table) (sym h.1) near) h.2),
)

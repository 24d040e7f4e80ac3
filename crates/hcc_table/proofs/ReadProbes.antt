-- The probes of an optimistic reading: what one tells, and one after the other.
use Rattle.std.proofs.Common.{◌≡◌, inl, inr, ℕ, ◌+◌, ◌*◌, ◌<◌, ◌≤◌, Bool, true, false, List, length, refl, sym, ap, subst, ◌∙◌, eq-or-lt_of_le, arith}
use Rattle.std.proofs.lemmas.Bool.{cases_lt}
use Rattle.hcc_word.specs.Word.{is_visible}
use Rattle.hcc_core.specs.declared.slot.Stamp.{Stamp}
use Rattle.hcc_core.specs.Lawful.{is_in}
use Rattle.hcc_core.specs.World.{passed_by}
use Rattle.hcc_rule.specs.declared.key.Key.{Key}
use Rattle.hcc_rule.specs.declared.table.RuleTable.{RuleTable}
use Rattle.hcc_rule.specs.declared.view.Record.{Record}
use Rattle.hcc_rule.specs.declared.view.View.{View}
use Rattle.hcc_rule.specs.Callers.{IsEvent, slots_of, world_at}
use Rattle.hcc_rule.specs.Events.{count_done, look_done}
use Rattle.hcc_rule.specs.Looked.{after_look}
use Rattle.hcc_rule.specs.Probes.{probe_slot}
use Rattle.hcc_rule.specs.Seats.{SeatOf, view}
use Rattle.hcc_rule.specs.Views.{Each}
use Rattle.hcc_rule.specs.Words.{key_of, words_for}
use Rattle.hcc_rule.proofs.Basics.Lists.{each_map}
use Rattle.hcc_rule.proofs.Probes.ProbeLaws.{probe_of_slot}
use Rattle.hcc_table.specs.declared.optimistic.Got.{Got}
use Rattle.hcc_table.specs.declared.optimistic.Got.TheVariants.{Hit, Miss, Short}
use Rattle.hcc_table.specs.Optimistic.{LacksAll, OnlyLoads, Reads, ReadsOptimistic, ReadsShown, ReadsThere}
use Rattle.hcc_table.specs.Searched.{Buried, Sought}
use Rattle.hcc_table.specs.Seeking.{Seeks}
use Rattle.hcc_table.specs.Standing.{LacksOnce, shown_at}
use Rattle.hcc_table.specs.Steps.{MakesAtMost}
use Rattle.hcc_table.proofs.Glances.{reads_kept, reads_then}
use Rattle.hcc_table.proofs.Loads.{loads_one, loads_seek}
use Rattle.hcc_table.proofs.Moments.{event_leads, event_trails, lacks_within, Led, led_none, moment_of, moment_since, none_shown, some_and}
use Rattle.hcc_table.proofs.Probes.{looked_at}
use Rattle.hcc_table.proofs.Seeking.{seeks_none, seeks_then}
use Rattle.hcc_table.proofs.Shown.{count_tells, look_tells, shown_counted}

-- what wasn't seen dead later wasn't before
not_before : {T : Type 0} {v w : View T} → Sought v w → (stamp : Stamp)
    → is_in stamp w.work.dead ≡ false → is_in stamp v.work.dead ≡ false
not_before {T} {v} sought stamp alive = by (is_in stamp v.work.dead) refl
  where
    by : (b : Bool) → is_in stamp v.work.dead ≡ b → b ≡ false
    by true dead = sym (sought.searched.dead stamp dead) ∙ alive
    by false dead = refl

-- none that the client holds in a slot is of the key
pub buried_other : {T : Type 0} (key : Key) (slot : ℕ) (u v w : View T) → v.records ≡ u.records
    → Each (λ (r : Record). r.slot ≡ slot → ¬ (key_of r.entry ≡ key)) v.records
    → Buried key (λ s. s ≡ slot) u w
buried_other key slot u v w same other =
    each_map _ _ (λ r apart asked on. absurd (apart on asked)) u.records
    (subst (λ rs. Each (λ (r : Record). r.slot ≡ slot → ¬ (key_of r.entry ≡ key)) rs) same other)

module _ {T A : Type 0} (table : RuleTable T A) where
  -- loads by one client, as a search by it
  pub reads_led : {a b : SeatOf T} → Reads table a b → Led table a b
  reads_led {a} {b} h = record {
    seeks = loads_seek table a b h.loads;
    same = ap (λ (v : View T). v.client) h.sought.searched.same;
  }

  -- the load of a meta word, and that of a displacement word
  pub look_reads : {slot : ℕ} (word : ℕ) {a : SeatOf T} (b : SeatOf T)
      → view b ≡ after_look slot word (view a)
      → IsEvent table (look_done slot word (view a)) a b → Reads table a b
  look_reads {slot} word {a} b left event = record {
    loads = loads_one table event refl;
    sought = looked_at slot word (view a) (view b) left;
  }

  -- a look, and loads behind it that leave the view
  pub hints_read : {slot : ℕ} (word : ℕ) {a : SeatOf T} (b : SeatOf T) {c : SeatOf T}
      → view b ≡ after_look slot word (view a)
      → IsEvent table (look_done slot word (view a)) a b → view c ≡ view b → OnlyLoads table b c
      → Reads table a c
  hints_read {slot} word {a} b {c} left event kept loads =
      reads_then table (look_reads word b left event) (reads_kept table kept loads)

  pub count_loads : {slot n : ℕ} {a b : SeatOf T}
      → IsEvent table (count_done slot n (view a)) a b → OnlyLoads table a b
  count_loads {slot} {n} {a} {b} event = loads_one table event refl

  module _ (key : Key) where
    -- a slot that isn't visible lacks the key
    pub look_lacks : {slot : ℕ} (word : ℕ) {a b : SeatOf T}
        → IsEvent table (look_done slot word (view a)) a b → is_visible word ≡ false
        → LacksOnce table key slot a b
    look_lacks {slot} word {a} {b} event off =
        let led = event_leads table _ a b event in (
          b,
          moment_of table (led_none table a) event refl refl (seeks_none table b),
          none_shown (world_at table b) key slot
              (look_tells led.0 (world_at table b) (view a).client slot word led.1 off),
        )

    -- what was read after a look was read in the call
    pub there_earlier : {fits : T → Key → List ℕ → Type 0} {useful marks : Bool} {slot : ℕ}
        {got : Got} {before after : List ℕ} {old a b : SeatOf T} → Reads table old a
        → (h : ReadsThere fits table key useful marks slot got before after a b)
        → (there : ReadsThere fits table key useful marks slot got before after old b)
        × (there.entry ≡ h.entry)
    there_earlier {old = old} {a = a} {b = b} led h = (
      record {
        entry = h.entry;
        asked = h.asked;
        right = h.right;
        alive = not_before led.sought h.entry.stamp h.alive;
        word = h.word;
        glances = record {
          before = h.glances.before;
          moment = h.glances.moment;
          is_moment = moment_since table (reads_led led) h.glances.is_moment;
          loads = h.glances.loads;
          visible = h.glances.visible;
          shows = h.glances.shows;
        };
        spare = h.spare;
        copies = h.copies;
      },
      refl,
    )

    -- the first so many probes lacked the key once
    abbrev pub LackedUpTo : (i : ℕ) → (old now : SeatOf T) → Type 0
    LackedUpTo i old now =
        (j : ℕ) → j < i → LacksOnce table key (probe_slot (slots_of table) key j) old now

    -- one probe more did
    pub lacked_more : {i slot : ℕ} {old now probed new : SeatOf T} → LackedUpTo i old now
        → Led table old now → slot ≡ probe_slot (slots_of table) key i
        → Seeks table now probed → LacksOnce table key slot now probed → Seeks table probed new
        → LackedUpTo (i + 1) old new
    lacked_more {i} {slot} {old} {now} {probed} {new} before led at seeks here more j low =
        elim (eq-or-lt_of_le (let most : j ≤ i = omega arith in most)) [
          | inl last ↦
              subst (λ s. LacksOnce table key s old new)
              (at ∙ ap (probe_slot (slots_of table) key) (sym last))
              (lacks_within table led here more)
          | inr earlier ↦
              lacks_within table (led_none table old) (before j earlier)
              (seeks_then table now probed new seeks more)
        ]

    -- where no trail goes on, later probes lack it, too
    pub lacked_all : (i : ℕ) {slot n : ℕ} {old probed new : SeatOf T} → LackedUpTo (i + 1) old new
        → Led table old probed → slot ≡ probe_slot (slots_of table) key i
        → IsEvent table (count_done slot n (view probed)) probed new → n ≡ 0
        → LacksAll table key old new
    lacked_all i {slot} {n} {old} {probed} {new} before led at event none s near =
        let place = probe_of_slot (slots_of table) key table.limits.power s near in
        subst (λ z. LacksOnce table key z old new) place.2 (by place.0 place.1)
      where
        by : (k : ℕ) → k < slots_of table
            → LacksOnce table key (probe_slot (slots_of table) key k) old new
        by k inside = elim (cases_lt i k) [
          | inr visited ↦ before k (omega arith)
          | inl beyond ↦
              let led_to = event_leads table _ probed new event in
              let told = count_tells led_to.0 (world_at table new) (view probed).client slot n
              led_to.1 in
              let on = subst (λ z. n ≡ passed_by (world_at table new).slots
              (world_at table new).clients z) at told in (
                new,
                moment_of table led event refl refl (seeks_none table new),
                λ shows.
                    let found = some_and (shown_at (world_at table new)
                    (probe_slot (slots_of table) key k)) _ shows in
                    let some = shown_counted (slots_of table) (world_at table new) key k i found.0
                    table.limits.power
                    (event_trails table (count_done slot n (view probed)) probed new event)
                    (omega arith) inside found.1 found.2 in
                    absurd (omega arith),
              )
        ]

    -- after all probes all slots did
    pub lacked_each : {i : ℕ} {old new : SeatOf T} → i ≡ slots_of table → LackedUpTo i old new
        → LacksAll table key old new
    lacked_each {i} {old} {new} all before s near =
        let place = probe_of_slot (slots_of table) key table.limits.power s near in
        subst (λ z. LacksOnce table key z old new) place.2
        (before place.0 (let low = place.1 in omega arith))

-- An entry that was read is an answer of the reading.
pub reads_answered : {T A : Type 0} {fits : T → Key → List ℕ → Type 0} {table : RuleTable T A}
    {key : Key} {useful marks : Bool} (got : Got) {before after : List ℕ} {old new : SeatOf T}
    → ReadsShown fits table key useful marks got before after old new
    → ReadsOptimistic fits table key useful marks got before after old new
reads_answered Miss h = absurd h.there.copies
reads_answered (Hit count) h = h
reads_answered (Short count) h = h

-- What was read in the slot of a probe is read at that probe.
pub shown_there : {T A : Type 0} {fits : T → Key → List ℕ → Type 0} {table : RuleTable T A}
    {key : Key} {useful marks : Bool} {got : Got} {before after : List ℕ} {i slot : ℕ}
    {old new : SeatOf T} → slot ≡ probe_slot (slots_of table) key i → i < slots_of table
    → LackedUpTo table key i old new
    → (t : ReadsThere fits table key useful marks slot got before after old new)
    → MakesAtMost (4 * i + 10 + words_for (length t.entry.value)) old new
    → ReadsShown fits table key useful marks got before after old new
shown_there {fits = fits} {table = table} {key = key} {useful = useful} {marks = marks} {got = got}
    {before = before} {after = after} {i = i} {old = old} {new = new} at inside earlier =
    subst (λ s. (t : ReadsThere fits table key useful marks s got before after old new)
    → MakesAtMost (4 * i + 10 + words_for (length t.entry.value)) old new
    → ReadsShown fits table key useful marks got before after old new) (sym at)
    (λ t few. record {
      probe = i;
      inside = inside;
      there = t;
      earlier = earlier;
      few = few;
    })

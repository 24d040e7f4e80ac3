-- An erasure that is undisturbed hides exactly what the shard showed of the key when it began.
use Rattle.std.proofs.Common.{◌≡◌, ◌≢◌, inl, inr, ℕ, ◌+◌, ◌&&◌, ◌<◌, ◌≤◌, Bool, true, false, List, [], ◌∷◌, ◌++◌, Option, Some, None, length, sym, refl, ap, ◌∙◌, subst, arith, zero-add}
use Rattle.std.specs.Int.{from_bool}
use Rattle.std.specs.Prelude.{IfNone, IfSome, IsSomeAnd, bit_and, if◌then◌else◌}
use Rattle.std.proofs.lemmas.Bool.{cases_lt}
use Rattle.hcc_word.specs.declared.layout.TheConstants.{HIDING_MASK}
use Rattle.hcc_word.specs.Word.{is_visible}
use Rattle.hcc_core.specs.declared.event.Event.{Event}
use Rattle.hcc_core.specs.declared.event.Event.TheVariants as events
use Rattle.hcc_core.specs.declared.slot.Stamp.{Stamp}
use Rattle.hcc_core.specs.Runs.{held_at}
use Rattle.hcc_core.specs.Sums.{total}
use Rattle.hcc_core.specs.World.{State}
use Rattle.hcc_rule.specs.declared.key.Key.{Key}
use Rattle.hcc_rule.specs.declared.table.RuleTable.{RuleTable}
use Rattle.hcc_rule.specs.declared.view.Done.{Done}
use Rattle.hcc_rule.specs.declared.view.Record.{Record}
use Rattle.hcc_rule.specs.declared.view.View.{View}
use Rattle.hcc_rule.specs.Acts.{events_of, past, world_of}
use Rattle.hcc_rule.specs.Addresses.{address_of_meta}
use Rattle.hcc_rule.specs.Callers.{IsEvent, plan_of, slots_of, world_at}
use Rattle.hcc_rule.specs.Events.{give_done, hide_done}
use Rattle.hcc_rule.specs.Probes.{probe_slot}
use Rattle.hcc_rule.specs.Records.{record_in}
use Rattle.hcc_rule.specs.Seats.{Makes, SeatOf, view}
use Rattle.hcc_rule.specs.ToldReferences.{after_hide}
use Rattle.hcc_rule.specs.Words.{key_of}
use Rattle.hcc_rule.proofs.Probes.ProbeLaws.{probe_inside, probe_of_slot, some_slots}
use Rattle.hcc_rule.proofs.Seats.Runs.{run_finds}
use Rattle.hcc_table.specs.declared.efforts.Effort.{Effort}
use Rattle.hcc_table.specs.declared.hiding.Erased.{Erased}
use Rattle.hcc_table.specs.Freed.{TakesByWhereDue, free_event}
use Rattle.hcc_table.specs.Hides.{HidAt, HideProbe, HidesAll, HidesHeld, PassesOrHides, is_alone}
use Rattle.hcc_table.specs.Probed.{AtProbes, Catches, Looks}
use Rattle.hcc_table.specs.Seeking.{Empties, GoesOnBy, is_settling, is_unpass}
use Rattle.hcc_table.specs.Standing.{HidesShown, ShowsKey, ShowsSame, shown_at, shown_of}
use Rattle.hcc_table.specs.Still.{BeganWithin}
use Rattle.hcc_table.proofs.HidesAlone.{nothing_shown}
use Rattle.hcc_table.proofs.Lasting.{looks_seek, passes_lack, passes_seek, reach_seeks, reached_seeks}
use Rattle.hcc_table.proofs.Moments.{led_none, none_shown, some_and}
use Rattle.hcc_table.proofs.Probings.{one_longer}
use Rattle.hcc_table.proofs.Seeking.{goes_wider, seeks_none}
use Rattle.hcc_table.proofs.Setups.{slots_at}
use Rattle.hcc_table.proofs.Unshown.{free_tells, hide_tells}
use Rattle.hcc_cache.proofs.Insertions.PlacedShown.{shown_within}
use Rattle.hcc_cache.proofs.Calm.Stretches.{Calm, Keeps, Leg, Named, calm_first, calm_rest, keeps_event, keeps_same, keeps_seeks, keeps_shown, keeps_then, lacks_quiet, leg, leg_event, leg_then, named_event, named_on, same_before, same_shown}
use Rattle.hcc_cache.proofs.Calm.Fewer.{Loses, loses_one, loses_same, loses_then, still_lacks}
use Rattle.hcc_cache.proofs.Within.Begun.{on_by, on_event, on_then}
use Rattle.hcc_cache.proofs.Within.Hidden.{beyond_unshown, leads_from}

pub unpass_keeps : (event : Event) → is_unpass event ≡ true → keeps_shown event ≡ true
unpass_keeps (events.Unpass client slot) is = refl
unpass_keeps other is = cc

settling_keeps : (event : Event) → is_settling event ≡ true → keeps_shown event ≡ true
settling_keeps (events.Slots client) is = refl
settling_keeps (events.Settle client) is = refl
settling_keeps other is = cc

-- What was hidden stays so where what is shown does.
pub hidden_still : (size : ℕ) (key : Key) (n : ℕ) (world mid next : State)
    → HidesShown size key n world mid → ShowsSame mid next → HidesShown size key n world next
hidden_still size key n world mid next h same = record {
  all = h.all;
  none = λ slot low shows.
      h.none slot low (subst (λ o. IsSomeAnd o (λ e. key_of e ≡ key)) (same slot) shows);
  gone = λ slot shows. same slot ∙ h.gone slot shows;
  others = λ slot lacks. same slot ∙ h.others slot lacks;
}

module _ {T A : Type 0} (fits : T → Key → List ℕ → Type 0) (table : RuleTable T A)
    (began : BeganWithin table fits) (client : ℕ) where
  abbrev Same : (a b : SeatOf T) → Type 0
  Same a b = ShowsSame (world_at table a) (world_at table b)

  -- An entry that isn't shown was taken, and its slot freed: what is shown stays.
  freed_same : (slot charge : ℕ) (name : Option ℕ) {a took b : SeatOf T}
      → IsEvent table (free_event slot name charge (view a)) a took
      → Empties table (view a).client took b → shown_at (world_at table a) slot ≡ None
      → Named client a → Calm client a b → Same a b
  freed_same slot charge name {a} {took} {b} event empties none named calm s =
      same_shown fits table began client later
      (named_event fits table began client event named)
      (calm_rest client table calm (on_event table event)) s
      ∙ (free_tells (world_of (plan_of table) (past a ++ event.0.others)) (world_at table took)
      (view a).client slot charge name
      (leads_from table (free_event slot name charge (view a)) a took event)
      (before slot ∙ none)).0 s
      ∙ before s
    where
      later : Keeps table took b
      later =
          keeps_then table
          (goes_wider table is_unpass keeps_shown unpass_keeps took empties.0 empties.1)
          (keeps_event table empties.2 refl)

      before : ShowsSame (world_at table a)
          (world_of (plan_of table) (past a ++ event.0.others))
      before =
          same_before fits table began client event named
          (calm_first client table calm (on_event table event) (on_by table later))

  -- To try to take it leaves what is shown, too.
  takes_leg : (slot word : ℕ) (name : Option ℕ) (due : Bool) (freed : Option ℕ) (a b : SeatOf T)
      → TakesByWhereDue table slot word name due freed a b → Leg table a b
  takes_leg slot word name false freed a b h = leg table (keeps_same table (h.1 refl))
  takes_leg slot word name true None a b h = leg_event table (h.0 refl).lost.2
  takes_leg slot word name true (Some charge) a b h =
      let won = (h.0 refl).won in
      leg_then table (leg_event table won.1)
      (leg_then table (leg table won.2.1) (leg_event table won.2.2))

  takes_same : (slot word : ℕ) (name : Option ℕ) (due : Bool) (freed : Option ℕ) {a b : SeatOf T}
      → TakesByWhereDue table slot word name due freed a b
      → shown_at (world_at table a) slot ≡ None → Named client a → Calm client a b → Same a b
  takes_same slot word name false freed h none named calm =
      λ s. ap (λ z. shown_at (world_at table z) s) (h.1 refl)
  takes_same slot word name true None h none named calm =
      same_shown fits table began client (keeps_event table (h.0 refl).lost.2 refl) named calm
  takes_same slot word name true (Some charge) h none named calm =
      let won = (h.0 refl).won in
      freed_same slot charge name won.1 won.2 none named calm

  module _ (key : Key) where
    abbrev Fewer : (n : ℕ) (a b : SeatOf T) → Type 0
    Fewer n a b = Loses (slots_of table) key n (world_at table a) (world_at table b)

    -- The entry of a record was hidden by one step.
    hid_loses : (slot name found : ℕ) {a hid : SeatOf T} → slot < slots_of table
        → IsEvent table (hide_done name found (view a)) a hid
        → view hid ≡ after_hide name found (view a) → (r : Record)
        → record_in name (view a).records ≡ Some r → r.slot ≡ slot → key_of r.entry ≡ key
        → Named client a → Calm client a hid
        → Fewer (from_bool (is_visible found)) a hid
        × (shown_at (world_at table hid) slot ≡ None)
    hid_loses slot name found {a} {hid} low event told r there on asked named calm = (
      loses_one (slots_of table) key r.entry (is_visible found) low is.0
          (sym (before slot) ∙ is.1) asked (λ s other. is.2 s other ∙ before s),
      is.0,
    )
      where
        front : List Done
        front = past a ++ event.0.others

        before : ShowsSame (world_at table a) (world_of (plan_of table) front)
        before = same_before fits table began client event named calm

        held : held_at (world_at table hid) (view a).client name slot ≡ Some r.entry
        held =
            subst (λ n. held_at (world_at table hid) (view a).client name n ≡ Some r.entry) on
            (subst (λ n. held_at (world_at table hid) n name r.slot ≡ Some r.entry)
            (ap (λ (z : View T). z.client) told)
            (event.0.stand name r
            (ap (λ (z : View T). record_in name z.records) told ∙ there)))

        is : (shown_at (world_at table hid) slot ≡ None)
            × (shown_at (world_of (plan_of table) front) slot
            ≡ (if is_visible found then Some r.entry else None))
            × ((s : ℕ) → s ≢ slot → shown_at (world_at table hid) s
            ≡ shown_at (world_of (plan_of table) front) s)
        is =
            hide_tells (world_of (plan_of table) front) (world_at table hid) (view a).client name
            slot (is_visible found) r.entry (run_finds (plan_of table) (events_of front))
            (run_finds (plan_of table) (events_of (past hid)))
            (leads_from table (hide_done name found (view a)) a hid event) held

    -- What was hidden, and tried to take then.
    module _ (slot name : ℕ) (room : Bool) (done : Erased) (e f : Effort) {a b : SeatOf T}
        (h : HidesHeld table slot name room done e f a b) where
      tries : Leg table h.hid h.tried
      tries =
          takes_leg slot (bit_and h.found HIDING_MASK) (Some name)
          (room && is_alone (bit_and h.found HIDING_MASK)) h.freed h.hid h.tried h.takes

      ends : Keeps table h.tried b
      ends = by h.freed refl
        where
          by : (freed : Option ℕ) → h.freed ≡ freed → Keeps table h.tried b
          by None is =
              let given = subst (λ o. IfNone o ((left : ℕ)
              × Makes (address_of_meta table slot) 1 0 left h.tried b
              × (done.slots ≡ 0) × (done.charge ≡ 0)
              × IsEvent table (give_done 1 name left (view h.tried)) h.tried b)) is h.given in
              keeps_event table given.4 refl
          by (Some charge) is =
              let won = subst (λ o. IfSome o (λ charge.
              (b ≡ h.tried) × (done.slots ≡ 1) × (done.charge ≡ charge))) is h.won in
              keeps_same table won.0

      held_leg : Leg table a b
      held_leg = leg_then table (leg_event table h.event) (leg_then table tries (leg table ends))

      held_loses : slot < slots_of table
          → IsSomeAnd (record_in name (view a).records)
          (λ r. (r.slot ≡ slot) × (key_of r.entry ≡ key))
          → Named client a → Calm client a b
          → Fewer done.hidden a b × (shown_at (world_at table b) slot ≡ None)
      held_loses low holds named calm = (
        subst (λ n. Fewer n a b) count
            (loses_then (slots_of table) key hid.0 (loses_same (slots_of table) key rest)),
        rest slot ∙ hid.1,
      )
        where
          count : from_bool (is_visible h.found) + 0 ≡ done.hidden
          count = let is = h.hidden in omega arith

          r : (r : Record) × (record_in name (view a).records ≡ Some r)
              × ((r.slot ≡ slot) × (key_of r.entry ≡ key))
          r = some_and (record_in name (view a).records) _ holds

          hid : Fewer (from_bool (is_visible h.found)) a h.hid
              × (shown_at (world_at table h.hid) slot ≡ None)
          hid =
              hid_loses slot name h.found low h.event h.told r.0 r.1 r.2.0 r.2.1 named
              (calm_first client table calm (on_event table h.event)
              (on_then table (on_by table tries) (on_by table ends)))

          behind : Calm client h.hid b
          behind = calm_rest client table calm (on_event table h.event)

          names_hid : Named client h.hid
          names_hid = named_event fits table began client h.event named

          rest : Same h.hid b
          rest s =
              same_shown fits table began client ends
              (named_on fits table began client tries names_hid)
              (calm_rest client table behind (on_by table tries)) s
              ∙ takes_same slot (bit_and h.found HIDING_MASK) (Some name)
              (room && is_alone (bit_and h.found HIDING_MASK)) h.freed h.takes hid.1 names_hid
              (calm_first client table behind (on_by table tries) (on_by table ends)) s

    module _ (name : ℕ) where
      catches_keep : (slot word : ℕ) (e f : Effort) {a b : SeatOf T}
          → Catches fits table key name (Looks table slot) slot 1 word e f a b → Keeps table a b
      catches_keep slot word e f {a} {b} h =
          keeps_then table (keeps_seeks table (looks_seek table slot h.seen a h.looked h.first))
          (keeps_then table
          (keeps_seeks table (reach_seeks table slot 1 name word h.looked h.mid h.reaches.by))
          (keeps_then table
          (keeps_seeks table (reached_seeks table slot 1 name word h.looked h.mid h.reaches.by))
          (keeps_seeks table h.seeks)))

      -- What was done at one slot: there nothing shows the key any more.
      passed_leg : (room : Bool) (slot word : ℕ) (caught : Option Stamp) (done : Erased)
          (e f : Effort) (a b : SeatOf T)
          → PassesOrHides fits table key name room slot word caught done e f a b → Leg table a b
      passed_leg room slot word caught done e f a b (inl passes) =
          leg table (keeps_seeks table (passes_seek fits table key name slot word e f a b passes.0))
      passed_leg room slot word caught done e f a b (inr h) =
          leg_then table (leg table (catches_keep slot word e h.between h.catches))
          (held_leg slot name room done h.between f h.hides)

      passed_loses : (room : Bool) (slot word : ℕ) (caught : Option Stamp) (done : Erased)
          (e f : Effort) (a b : SeatOf T) → slot < slots_of table
          → PassesOrHides fits table key name room slot word caught done e f a b → Named client a
          → Calm client a b
          → Fewer done.hidden a b × ¬ ShowsKey (world_at table b) key slot
      passed_loses room slot word caught done e f a b low (inl passes) named calm =
          let keeps = keeps_seeks table
          (passes_seek fits table key name slot word e f a b passes.0) in
          let stays = loses_same (slots_of table) key
          (same_shown fits table began client keeps named calm) in (
            subst (λ (d : Erased). Fewer d.hidden a b) (sym passes.1) stays,
            still_lacks (slots_of table) key stays slot
                (lacks_quiet fits table began client named calm
                (passes_lack fits table key name a b slot word e f a b (led_none table a)
                (seeks_none table b) passes.0)),
          )
      passed_loses room slot word caught done e f a b low (inr h) named calm =
          let keeps = catches_keep slot word e h.between h.catches in
          let held = held_leg slot name room done h.between f h.hides in
          let hid = held_loses slot name room done h.between f h.hides low h.holds
          (named_on fits table began client keeps named)
          (calm_rest client table calm (on_by table keeps)) in (
            subst (λ n. Fewer n a b) (zero-add done.hidden)
                (loses_then (slots_of table) key
                (loses_same (slots_of table) key
                (same_shown fits table began client keeps named
                (calm_first client table calm (on_by table keeps) (on_by table held)))) hid.0),
            none_shown (world_at table b) key slot hid.1,
          )

      hid_leg : (slot : ℕ) (p : HideProbe) (e f : Effort) (a b : SeatOf T)
          → HidAt fits table key name slot p e f a b → Leg table a b
      hid_leg slot p e f a b h =
          leg_then table
          (passed_leg p.room slot p.found.word p.caught p.done h.between f a h.mid h.does)
          (leg_event table h.event)

      hid_at_loses : (slot : ℕ) (p : HideProbe) (e f : Effort) (a b : SeatOf T)
          → slot < slots_of table → HidAt fits table key name slot p e f a b → Named client a
          → Calm client a b
          → Fewer p.done.hidden a b × ¬ ShowsKey (world_at table b) key slot
      hid_at_loses slot p e f a b low h named calm =
          let does = passed_leg p.room slot p.found.word p.caught p.done h.between f a h.mid h.does
          in
          let done = passed_loses p.room slot p.found.word p.caught p.done h.between f a h.mid low
          h.does named (calm_first client table calm (on_by table does) (on_event table h.event)) in
          let stays = loses_same (slots_of table) key
          (same_shown fits table began client (keeps_event table h.event refl)
          (named_on fits table began client does named)
          (calm_rest client table calm (on_by table does))) in (
            subst (λ n. Fewer n a b) nothing (loses_then (slots_of table) key done.0 stays),
            still_lacks (slots_of table) key stays slot done.1,
          )
        where
          nothing : p.done.hidden + 0 ≡ p.done.hidden
          nothing = omega arith

      probe_low : (i : ℕ) → probe_slot (slots_of table) key i < slots_of table
      probe_low i =
          probe_inside (slots_of table) key i (some_slots (slots_of table) table.limits.power)

      -- So it is at the probes, one after the other.
      probes_leg : (i : ℕ) (ps : List HideProbe) (e f : Effort) (a b : SeatOf T)
          → AtProbes (slots_of table) key (HidAt fits table key name) i ps e f a b
          → Leg table a b
      probes_leg i [] e f a b h = leg table (keeps_same table h.1)
      probes_leg i (p ∷ ps) e f a b h =
          leg_then table (hid_leg (probe_slot (slots_of table) key i) p e h.0 a h.1 h.2)
          (probes_leg (i + 1) ps h.0 f h.1 b h.3)

      probes_lose : (i : ℕ) (ps : List HideProbe) (e f : Effort) (a b : SeatOf T)
          → AtProbes (slots_of table) key (HidAt fits table key name) i ps e f a b → Named client a
          → Calm client a b
          → Fewer (total (λ (p : HideProbe). p.done.hidden) ps) a b
          × ((k : ℕ) → i ≤ k → k < i + length ps
          → ¬ ShowsKey (world_at table b) key (probe_slot (slots_of table) key k))
      probes_lose i [] e f a b h named calm = (
        loses_same (slots_of table) key (λ s. ap (λ z. shown_at (world_at table z) s) h.1),
        λ k low high. absurd (omega arith),
      )
      probes_lose i (p ∷ ps) e f a b h named calm =
          let slot = probe_slot (slots_of table) key i in
          let here = hid_leg slot p e h.0 a h.1 h.2 in
          let later = probes_leg (i + 1) ps h.0 f h.1 b h.3 in
          let first = hid_at_loses slot p e h.0 a h.1 (probe_low i) h.2 named
          (calm_first client table calm (on_by table here) (on_by table later)) in
          let rest = probes_lose (i + 1) ps h.0 f h.1 b h.3
          (named_on fits table began client here named)
          (calm_rest client table calm (on_by table here)) in (
            loses_then (slots_of table) key first.0 rest.0,
            λ k low high. elim (cases_lt i k) [
              | inl after ↦ rest.1 k (omega arith) (omega arith)
              | inr there ↦
                  let same : i ≡ k = omega arith in
                  subst (λ n. ¬ ShowsKey (world_at table b) key
                  (probe_slot (slots_of table) key n)) same
                  (still_lacks (slots_of table) key rest.0 slot first.1)
            ],
          )

      module _ (room : Bool) (all : Erased) (before after : Effort) (old mid new : SeatOf T)
          (m : HidesAll fits table key name room all before after old mid)
          (settles : GoesOnBy table is_settling mid new) (named : Named client old)
          (calm : Calm client old new) where
        hides : Leg table old mid
        hides = probes_leg 0 (m.earlier ++ m.last ∷ []) before after old mid m.probes

        lost : Fewer (total (λ (p : HideProbe). p.done.hidden) (m.earlier ++ m.last ∷ [])) old mid
            × ((k : ℕ) → 0 ≤ k → k < 0 + length (m.earlier ++ m.last ∷ [])
            → ¬ ShowsKey (world_at table mid) key (probe_slot (slots_of table) key k))
        lost =
            probes_lose 0 (m.earlier ++ m.last ∷ []) before after old mid m.probes named
            (calm_first client table calm (on_by table hides) (on_by table settles))

        -- Nothing shows the key any more.
        none_left : (slot : ℕ) → slot < slots_of table → ¬ ShowsKey (world_at table mid) key slot
        none_left slot near =
            let at = probe_of_slot (slots_of table) key table.limits.power slot near in
            subst (λ s. ¬ ShowsKey (world_at table mid) key s) at.2 (by at.0 at.1)
          where
            long : length (m.earlier ++ m.last ∷ []) ≡ length m.earlier + 1
            long = one_longer m.earlier m.last

            by : (i : ℕ) → i < slots_of table
                → ¬ ShowsKey (world_at table mid) key (probe_slot (slots_of table) key i)
            by i inside = elim (cases_lt (length m.earlier) i) [
              | inl beyond ↦ elim m.ends [
                | inl none ↦
                    beyond_unshown table fits key name room all before after old mid m i beyond
                    inside none
                | inr whole ↦ absurd (omega arith)
              ]
              | inr visited ↦ lost.1 i (omega arith) (omega (arith, long))
            ]

        hides_mid : HidesShown (slots_of table) key all.hidden (world_at table old)
            (world_at table mid)
        hides_mid = record {
          all =
              let left : shown_of (slots_of table) key (world_at table mid) ≡ 0 =
              nothing_shown key (slots_of table) (world_at table mid) none_left in
              let count = lost.0.count in
              let sum = m.hidden in
              omega arith;
          none = none_left;
          gone = λ slot shows. elim (lost.0.less slot) [
            | inl same ↦
                absurd (none_left slot
                (subst (λ n. slot < n) (slots_at table old)
                (shown_within (world_at table old) key slot shows))
                (subst (λ o. IsSomeAnd o (λ e. key_of e ≡ key)) (sym same) shows))
            | inr none ↦ none
          ];
          others = lost.0.others;
        }

        pub hides_quiet : HidesShown (slots_of table) key all.hidden (world_at table old)
            (world_at table new)
        hides_quiet =
            hidden_still (slots_of table) key all.hidden (world_at table old) (world_at table mid)
            (world_at table new) hides_mid
            (same_shown fits table began client
            (goes_wider table is_settling keeps_shown settling_keeps mid new settles)
            (named_on fits table began client hides named)
            (calm_rest client table calm (on_by table hides)))

-- Each slot of its shard lacked the key at a moment of an erasure.
use Rattle.std.proofs.Common.{◌≡◌, inl, inr, ℕ, suc, ◌+◌, ◌&&◌, ◌<◌, ◌≤◌, Bool, true, false, List, [], ◌∷◌, ◌++◌, Option, Some, None, length, refl, sym, ap, subst, ◌∙◌, arith}
use Rattle.std.specs.Prelude.{IfNone, IfSome, bit_and}
use Rattle.std.proofs.lemmas.Bool.{cases_lt}
use Rattle.std.proofs.lemmas.List.{append_assoc}
use Rattle.hcc_word.specs.declared.layout.TheConstants.{HIDING_MASK}
use Rattle.hcc_word.specs.Word.{is_visible}
use Rattle.hcc_core.specs.Runs.{held_at}
use Rattle.hcc_rule.specs.declared.key.Key.{Key}
use Rattle.hcc_rule.specs.declared.table.RuleTable.{RuleTable}
use Rattle.hcc_rule.specs.declared.view.Done.{Done}
use Rattle.hcc_rule.specs.declared.view.Record.{Record}
use Rattle.hcc_rule.specs.declared.view.View.{View}
use Rattle.hcc_rule.specs.Acts.{IsRun, Leads, events_of, past, world_of}
use Rattle.hcc_rule.specs.Addresses.{address_of_meta}
use Rattle.hcc_rule.specs.Callers.{IsEvent, plan_of, slots_of, world_at}
use Rattle.hcc_rule.specs.Events.{count_done, give_done, hide_done}
use Rattle.hcc_rule.specs.Opening.{begun_world}
use Rattle.hcc_rule.specs.Probes.{probe_slot}
use Rattle.hcc_rule.specs.Records.{record_in}
use Rattle.hcc_rule.specs.Seats.{Makes, SeatOf, view}
use Rattle.hcc_rule.specs.ToldReferences.{after_hide}
use Rattle.hcc_rule.proofs.Probes.ProbeLaws.{probe_of_slot}
use Rattle.hcc_rule.proofs.Seats.Behind.{run_behind}
use Rattle.hcc_rule.proofs.Seats.Histories.{run_is}
use Rattle.hcc_rule.proofs.Seats.Runs.{run_finds}
use Rattle.hcc_table.specs.declared.efforts.Effort.{Effort}
use Rattle.hcc_table.specs.declared.hiding.Erased.{Erased}
use Rattle.hcc_table.specs.Freed.{TakesByWhereDue}
use Rattle.hcc_table.specs.Hides.{HidAt, HideProbe, Hides, HidesAll, HidesHeld, is_alone}
use Rattle.hcc_table.specs.Probed.{AtProbes, Catches, Looks}
use Rattle.hcc_table.specs.Standing.{ShowsKey, shown_at}
use Rattle.hcc_table.proofs.Lasting.{reach_seeks, reached_seeks}
use Rattle.hcc_table.proofs.Moments.{event_leads, event_trails, none_shown, some_and}
use Rattle.hcc_table.proofs.Probings.{one_longer}
use Rattle.hcc_table.proofs.Shown.{count_tells, shown_counted}
use Rattle.hcc_table.proofs.Unshown.{hide_tells}
use Rattle.hcc_cache.specs.Within.{LacksWithin}
use Rattle.hcc_cache.proofs.Within.Begun.{Begun, GoesOn, Starts, begun_on, held_once, on_by, on_event, on_same, on_seeks, on_then}
use Rattle.hcc_cache.proofs.Within.Passed.{begun_first, look_first, passed_begun, passed_lacked, passed_on}

module _ {T A : Type 0} (table : RuleTable T A) where
  -- a seat's own event led on from the world behind all that others had done
  pub leads_from : (done : Done) (a b : SeatOf T) (event : IsEvent table done a b)
      → Leads (world_of (plan_of table) (past a ++ event.0.others)) done (world_at table b)
  leads_from done a b event =
      let front = past a ++ event.0.others in
      let known : past b ≡ front ++ done ∷ [] =
      event.0.past ∙ sym (append_assoc (past a) event.0.others (done ∷ [])) in
      let run = run_behind front (done ∷ []) (begun_world (plan_of table)) event.1.world
      (subst (λ h. IsRun (begun_world (plan_of table)) h event.1.world) known event.1.run) in
      subst (λ w. Leads (world_of (plan_of table) front) done w)
      (sym run.2 ∙ run_is (past b) (begun_world (plan_of table)) event.1.world event.1.run) run.1

  -- the entry of a record was hidden: its slot shows nothing
  hid_none : (slot name found : ℕ) (a hid : SeatOf T)
      → IsEvent table (hide_done name found (view a)) a hid
      → view hid ≡ after_hide name found (view a) → (r : Record)
      → record_in name (view a).records ≡ Some r → r.slot ≡ slot
      → shown_at (world_at table hid) slot ≡ None
  hid_none slot name found a hid event told r there on =
      (hide_tells (world_of (plan_of table) front) (world_at table hid) (view a).client name slot
      (is_visible found) r.entry (run_finds (plan_of table) (events_of front))
      (run_finds (plan_of table) (events_of (past hid)))
      (leads_from (hide_done name found (view a)) a hid event) held).0
    where
      front : List Done
      front = past a ++ event.0.others

      held : held_at (world_at table hid) (view a).client name slot ≡ Some r.entry
      held =
          subst (λ n. held_at (world_at table hid) (view a).client name n ≡ Some r.entry) on
          (subst (λ n. held_at (world_at table hid) n name r.slot ≡ Some r.entry)
          (ap (λ (z : View T). z.client) told)
          (event.0.stand name r
          (ap (λ (z : View T). record_in name z.records) told ∙ there)))

  -- what came behind a hide
  tried_on : (slot word : ℕ) (name : Option ℕ) (due : Bool) (freed : Option ℕ) (a b : SeatOf T)
      → TakesByWhereDue table slot word name due freed a b → GoesOn table a b
  tried_on slot word name false freed a b h = on_same table (h.1 refl)
  tried_on slot word name true None a b h = on_event table (h.0 refl).lost.2
  tried_on slot word name true (Some charge) a b h =
      let won = (h.0 refl).won in
      on_then table (on_event table won.1)
      (on_then table (on_by table won.2.1) (on_event table won.2.2))

  hidden_on : (slot name : ℕ) (room : Bool) (done : Erased) (e f : Effort) (a b : SeatOf T)
      (h : HidesHeld table slot name room done e f a b) → GoesOn table h.hid b
  hidden_on slot name room done e f a b h =
      on_then table
      (tried_on slot (bit_and h.found HIDING_MASK) (Some name)
      (room && is_alone (bit_and h.found HIDING_MASK)) h.freed h.hid h.tried h.takes)
      (last h.freed refl)
    where
      last : (freed : Option ℕ) → h.freed ≡ freed → GoesOn table h.tried b
      last None is =
          let given = subst (λ o. IfNone o ((left : ℕ)
          × Makes (address_of_meta table slot) 1 0 left h.tried b
          × (done.slots ≡ 0) × (done.charge ≡ 0)
          × IsEvent table (give_done 1 name left (view h.tried)) h.tried b)) is h.given in
          on_event table given.4
      last (Some charge) is =
          let won = subst (λ o. IfSome o (λ charge.
          (b ≡ h.tried) × (done.slots ≡ 1) × (done.charge ≡ charge))) is h.won in
          on_same table won.0

  module _ (fits : T → Key → List ℕ → Type 0) (key : Key) (name : ℕ) where
    -- an entry was caught
    caught_on : (slot word : ℕ) (e f : Effort) (a b : SeatOf T)
        (h : Catches fits table key name (Looks table slot) slot 1 word e f a b)
        → GoesOn table h.looked b
    caught_on slot word e f a b h =
        on_then table
        (on_seeks table (reach_seeks table slot 1 name word h.looked h.mid h.reaches.by))
        (on_then table
        (on_seeks table (reached_seeks table slot 1 name word h.looked h.mid h.reaches.by))
        (on_seeks table h.seeks))

    module _ (slot : ℕ) (p : HideProbe) (e f : Effort) (a b : SeatOf T)
        (h : HidAt fits table key name slot p e f a b) where
      counted : GoesOn table h.mid b
      counted = on_event table h.event

      -- a slot was passed, or its entry hidden: the call goes on,
      hid_on : GoesOn table a b
      hid_on = on_then table (elim h.does [
        | inl passes ↦
            passed_on table fits key name (Looks table) (look_first table) slot 1 p.found.word
            h.between f a h.mid passes.0
        | inr hides ↦
            on_then table (on_event table hides.catches.first.2)
            (on_then table
            (caught_on slot p.found.word h.between hides.between a hides.held hides.catches)
            (on_then table (on_event table hides.hides.event)
            (hidden_on slot name p.room p.done hides.between f hides.held h.mid hides.hides)))
      ]) counted

      module _ {old : SeatOf T} (starts : Starts table old a) where
        caught_begun : (hides : Hides fits table key name p.room slot p.found.word p.caught p.done
            h.between f a h.mid) → Begun table old hides.hides.hid
        caught_begun hides =
            begun_on table
            (begun_first table starts
            (look_first table slot hides.catches.seen a hides.catches.looked hides.catches.first))
            (on_then table
            (caught_on slot p.found.word h.between hides.between a hides.held hides.catches)
            (on_event table hides.hides.event))

        -- it has begun,
        hid_begun : Begun table old b
        hid_begun = begun_on table (elim h.does [
          | inl passes ↦
              passed_begun table fits key name (Looks table) (look_first table) slot 1 p.found.word
              h.between f a h.mid passes.0 starts
          | inr hides ↦
              begun_on table (caught_begun hides)
              (hidden_on slot name p.room p.done hides.between f hides.held h.mid hides.hides)
        ]) counted

        -- and the slot lacked the key once.
        hid_lacked : {new : SeatOf T} → GoesOn table b new → LacksWithin table old new key slot
        hid_lacked behind = elim h.does [
          | inl passes ↦
              passed_lacked table fits key name (Looks table) (look_first table) slot 1 p.found.word
              h.between f a h.mid passes.0 starts (on_then table counted behind)
          | inr hides ↦
              let r = some_and (record_in name (view hides.held).records) _ hides.holds in
              held_once table (λ w. ¬ ShowsKey w key slot) (caught_begun hides)
              (on_then table
              (hidden_on slot name p.room p.done hides.between f hides.held h.mid hides.hides)
              (on_then table counted behind))
              (none_shown (world_at table hides.hides.hid) key slot
              (hid_none slot name hides.hides.found hides.held hides.hides.hid hides.hides.event
              hides.hides.told r.0 r.1 r.2.0))
        ]

    -- So it is at the probes, one after the other.
    hides_on : (i : ℕ) (ps : List HideProbe) (e f : Effort) (a b : SeatOf T)
        → AtProbes (slots_of table) key (HidAt fits table key name) i ps e f a b
        → GoesOn table a b
    hides_on i [] e f a b h = on_same table h.1
    hides_on i (p ∷ ps) e f a b h =
        on_then table (hid_on (probe_slot (slots_of table) key i) p e h.0 a h.1 h.2)
        (hides_on (i + 1) ps h.0 f h.1 b h.3)

    hides_lacked : {old new : SeatOf T} (i : ℕ) (ps : List HideProbe) (e f : Effort)
        (a b : SeatOf T) → Starts table old a → GoesOn table b new
        → AtProbes (slots_of table) key (HidAt fits table key name) i ps e f a b
        → (k : ℕ) → i ≤ k → k < i + length ps
        → LacksWithin table old new key (probe_slot (slots_of table) key k)
    hides_lacked i [] e f a b starts behind h k low high = absurd (omega arith)
    hides_lacked {old} {new} i (p ∷ ps) e f a b starts behind h k low high =
        let slot = probe_slot (slots_of table) key i in
        elim (cases_lt i k) [
          | inl later ↦
              hides_lacked (i + 1) ps h.0 f h.1 b (inr (hid_begun slot p e h.0 a h.1 h.2 starts))
              behind h.3 k (omega arith) (omega arith)
          | inr here ↦
              let same : i ≡ k = omega arith in
              subst (λ n. LacksWithin table old new key (probe_slot (slots_of table) key n)) same
              (hid_lacked slot p e h.0 a h.1 h.2 starts
              (on_then table (hides_on (i + 1) ps h.0 f h.1 b h.3) behind))
        ]

    -- the last of them was counted, and the call has begun then
    last_hid : {old : SeatOf T} (i : ℕ) (ps : List HideProbe) (p : HideProbe) (e f : Effort)
        (a b : SeatOf T) → Starts table old a
        → AtProbes (slots_of table) key (HidAt fits table key name) i (ps ++ p ∷ []) e f a b
        → Begun table old b × ((c : SeatOf T) × IsEvent table (count_done
        (probe_slot (slots_of table) key (i + length ps)) p.found.displacement (view c)) c b)
    last_hid {old} i [] p e f a b starts h =
        let slot = probe_slot (slots_of table) key i in
        let here : i ≡ i + 0 = omega arith in (
          begun_on table (hid_begun slot p e h.0 a h.1 h.2 starts) (on_same table h.3.1),
          (
            h.2.mid,
            subst (λ n. IsEvent table (count_done (probe_slot (slots_of table) key n)
                p.found.displacement (view h.2.mid)) h.2.mid b) here
                (subst (λ z. IsEvent table (count_done slot p.found.displacement (view h.2.mid))
                h.2.mid z) (sym h.3.1) h.2.event),
          ),
        )
    last_hid i (q ∷ ps) p e f a b starts h =
        let slot = probe_slot (slots_of table) key i in
        let rest = last_hid (i + 1) ps p h.0 f h.1 b
        (inr (hid_begun slot q e h.0 a h.1 h.2 starts)) h.3 in
        let on : i + 1 + length ps ≡ i + suc (length ps) = omega arith in (
          rest.0,
          (
            rest.1.0,
            subst (λ n. IsEvent table (count_done (probe_slot (slots_of table) key n)
                p.found.displacement (view rest.1.0)) rest.1.0 b) on rest.1.1,
          ),
        )

    module _ (room : Bool) (all : Erased) (before after : Effort) (old mid : SeatOf T)
        (m : HidesAll fits table key name room all before after old mid) where
      last : Begun table old mid × ((c : SeatOf T) × IsEvent table (count_done
          (probe_slot (slots_of table) key (0 + length m.earlier))
          m.last.found.displacement (view c)) c mid)
      last = last_hid 0 m.earlier m.last before after old mid (inl refl) m.probes

      -- where no trail went on, no later probe shows the key in the end
      pub beyond_unshown : (i : ℕ) → length m.earlier < i → i < slots_of table
          → m.last.found.displacement ≡ 0
          → ¬ ShowsKey (world_at table mid) key (probe_slot (slots_of table) key i)
      beyond_unshown i beyond inside none shows =
          let counts = probe_slot (slots_of table) key (0 + length m.earlier) in
          let done = count_done counts m.last.found.displacement (view last.1.0) in
          let led = event_leads table done last.1.0 mid last.1.1 in
          let told = count_tells led.0 (world_at table mid) (view last.1.0).client counts
          m.last.found.displacement led.1 in
          let found = some_and (shown_at (world_at table mid)
          (probe_slot (slots_of table) key i)) _ shows in
          let some = shown_counted (slots_of table) (world_at table mid) key i
          (0 + length m.earlier) found.0 table.limits.power
          (event_trails table done last.1.0 mid last.1.1) (omega arith) inside found.1 found.2 in
          absurd (omega arith)

    module _ (room : Bool) (all : Erased) (before after : Effort) (old mid new : SeatOf T)
        (m : HidesAll fits table key name room all before after old mid)
        (behind : GoesOn table mid new) where
      -- so it lacked the key at a moment
      beyond_lacked : (i : ℕ) → length m.earlier < i → i < slots_of table
          → m.last.found.displacement ≡ 0
          → LacksWithin table old new key (probe_slot (slots_of table) key i)
      beyond_lacked i beyond inside none =
          held_once table (λ w. ¬ ShowsKey w key (probe_slot (slots_of table) key i))
          (last room all before after old mid m).0 behind
          (beyond_unshown room all before after old mid m i beyond inside none)

      pub erased_lacked : (slot : ℕ) → slot < slots_of table → LacksWithin table old new key slot
      erased_lacked slot near =
          let at = probe_of_slot (slots_of table) key table.limits.power slot near in
          subst (λ s. LacksWithin table old new key s) at.2 (by at.0 at.1)
        where
          long : length (m.earlier ++ m.last ∷ []) ≡ length m.earlier + 1
          long = one_longer m.earlier m.last

          by : (i : ℕ) → i < slots_of table
              → LacksWithin table old new key (probe_slot (slots_of table) key i)
          by i inside = elim (cases_lt (length m.earlier) i) [
            | inl beyond ↦ elim m.ends [
              | inl none ↦ beyond_lacked i beyond inside none
              | inr whole ↦ absurd (omega arith)
            ]
            | inr visited ↦
                hides_lacked 0 (m.earlier ++ m.last ∷ []) before after old mid (inl refl) behind
                m.probes i (omega arith) (omega (arith, long))
          ]

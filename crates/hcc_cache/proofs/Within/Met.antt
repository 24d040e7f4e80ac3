-- What an insertion met at each probe of its key, at moments of its tries.
use Rattle.std.proofs.Common.{◌≡◌, ◌≢◌, inl, inr, ℕ, ◌+◌, ◌<◌, ◌≤◌, Bool, true, false, List, [], ◌∷◌, Some, Ok, length, option_map, slice_get, refl, sym, ap, subst, ◌∙◌, arith}
use Rattle.std.specs.Prelude.{if◌then◌else◌}
use Rattle.std.proofs.lemmas.Bool.{cases_lt}
use Rattle.hcc_word.specs.Word.{is_empty}
use Rattle.hcc_core.specs.declared.client.Client.{Client}
use Rattle.hcc_core.specs.declared.event.Event.TheVariants as events
use Rattle.hcc_core.specs.declared.event.Phase.TheVariants as phases
use Rattle.hcc_core.specs.declared.event.Reply.{Reply}
use Rattle.hcc_core.specs.declared.event.Reply.TheVariants as replies
use Rattle.hcc_core.specs.declared.slot.Entry.{Entry}
use Rattle.hcc_core.specs.declared.slot.Slot.{Slot}
use Rattle.hcc_core.specs.declared.slot.Slot.TheVariants as slots
use Rattle.hcc_core.specs.Entries.{occupied}
use Rattle.hcc_core.specs.Outcomes.{allow, live_at, slot_at}
use Rattle.hcc_core.specs.References.{look_of}
use Rattle.hcc_core.specs.Steps.{outcome_of}
use Rattle.hcc_core.specs.World.{State, owns_nothing, phase_if, phase_of}
use Rattle.hcc_core.proofs.Keeps.{found_ok}
use Rattle.hcc_rule.specs.declared.key.Key.{Key}
use Rattle.hcc_rule.specs.declared.table.RuleTable.{RuleTable}
use Rattle.hcc_rule.specs.Callers.{slots_of, world_at}
use Rattle.hcc_rule.specs.Events.{acquire_done, occupy_done, phase_in}
use Rattle.hcc_rule.specs.Probes.{probe_slot}
use Rattle.hcc_rule.specs.Seats.{SeatOf, view}
use Rattle.hcc_rule.specs.Words.{key_of}
use Rattle.hcc_rule.proofs.Probes.ProbeLaws.{probe_of_slot}
use Rattle.hcc_table.specs.declared.efforts.Effort.{Effort}
use Rattle.hcc_table.specs.declared.inserting.Insertion.{Insertion}
use Rattle.hcc_table.specs.declared.inserting.Insertion.TheVariants.{Placed, Matched, NoSlot}
use Rattle.hcc_table.specs.Probed.{AtProbes, FindsTaken, Passes}
use Rattle.hcc_table.specs.Standing.{shown_at}
use Rattle.hcc_table.specs.Tries.{Inserts, MatchesAt, PassesTaken, ShowsBy, UsesEntry}
use Rattle.hcc_table.proofs.Lasting.{met_there, reach_seeks, reached_seeks}
use Rattle.hcc_table.proofs.Moments.{event_leads}
use Rattle.hcc_table.proofs.Shown.{acquire_shows, bound, ruled, same_outcome}
use Rattle.hcc_cache.specs.Within.{LacksWithin, MeetsWithin, ShowsWithin, TakenWithin}
use Rattle.hcc_cache.proofs.Within.Begun.{Begun, GoesOn, Starts, begun_on, held_once, on_by, on_event, on_same, on_seeks, on_then}
use Rattle.hcc_cache.proofs.Within.Passed.{begun_first, passed_begun, passed_lacked, passed_on, passed_rest, taken_first}

-- an occupy of a slot that isn't empty leaves it so
still_taken : (w next : State) (client slot word : ℕ)
    → outcome_of w (events.Occupy client slot)
    ≡ Ok ((if is_empty word then replies.Taken else replies.Saw (phase_in word)), next)
    → is_empty word ≡ false
    → option_map phase_of (slice_get next.slots slot) ≢ Some phases.Empty
still_taken w next client slot word is taken =
    let first = bound (slot_at w slot) _ _ (ruled w (events.Occupy client slot) _ is) in
    let second = bound (live_at w client) _ _ first.2 in
    let third = bound (allow (owns_nothing second.0.owned)) _ _ second.2 in
    by second.0 first.0 (found_ok _ _ first.0 first.1)
    (subst (λ b. occupied w client second.0 slot first.0
    ≡ Ok ((if b then replies.Taken else replies.Saw (phase_in word)), next)) taken third.2)
  where
    stays : (reply : Reply) → look_of w client slot ≡ Ok (reply, next) → w.slots ≡ next.slots
    stays reply look =
        let first = bound (slot_at w slot) _ _ look in
        let second = bound (live_at w client) _ _ first.2 in
        ap (λ z. z.1.slots) (same_outcome _ _ second.2)

    there : (seen : Slot) → slice_get w.slots slot ≡ Some seen → phase_of seen ≢ phases.Empty
        → (reply : Reply) → look_of w client slot ≡ Ok (reply, next)
        → option_map phase_of (slice_get next.slots slot) ≢ Some phases.Empty
    there seen at some reply look empty =
        let same : Some (phase_of seen) ≡ Some phases.Empty =
        sym (ap (λ o. option_map phase_of o) (ap (λ xs. slice_get xs slot) (sym (stays reply look))
        ∙ at)) ∙ empty in
        some (let is : phase_of seen ≡ phases.Empty = cc in is)

    shown_some : (b : Bool) → phase_if b ≢ phases.Empty
    shown_some true is = cc
    shown_some false is = cc

    by : (found : Client) (seen : Slot) → slice_get w.slots slot ≡ Some seen
        → occupied w client found slot seen ≡ Ok (replies.Saw (phase_in word), next)
        → option_map phase_of (slice_get next.slots slot) ≢ Some phases.Empty
    by found (slots.Empty strays) at reply =
        let wrong : replies.Taken ≡ replies.Saw (phase_in word) =
        ap (λ z. z.0) (same_outcome _ _ reply) in
        absurd (let never : ⊥ = cc in never)
    by found (slots.Building other strays) at reply =
        there (slots.Building other strays) at (λ is. cc) _ reply
    by found (slots.Shareable r) at reply =
        there (slots.Shareable r) at (shown_some r.shown) _ reply

module _ {T A : Type 0} (fits : T → Key → List ℕ → Type 0) (table : RuleTable T A) (key : Key)
    (name weight : ℕ) where
  -- A slot that was taken, and passed.
  module _ (slot word : ℕ) (e f : Effort) (a b : SeatOf T)
      (h : Passes fits table key name (FindsTaken table slot) slot weight word e f a b) where
    pass_on : GoesOn table a b
    pass_on =
        passed_on table fits key name (FindsTaken table) (taken_first table) slot weight word e f a
        b h

    pass_begun : {old : SeatOf T} → Starts table old a → Begun table old b
    pass_begun starts =
        passed_begun table fits key name (FindsTaken table) (taken_first table) slot weight word e
        f a b h starts

    pub pass_lacked : {old new : SeatOf T} → Starts table old a → GoesOn table b new
        → LacksWithin table old new key slot
    pass_lacked starts behind =
        passed_lacked table fits key name (FindsTaken table) (taken_first table) slot weight word e
        f a b h starts behind

    pass_taken : {old new : SeatOf T} → Starts table old a → GoesOn table b new
        → TakenWithin table old new slot
    pass_taken starts behind =
        held_once table
        (λ w. option_map phase_of (slice_get w.slots slot) ≢ Some phases.Empty)
        (begun_first table starts (taken_first table slot h.seen a h.mid h.first))
        (on_then table
        (passed_rest table fits key name (FindsTaken table) (taken_first table) slot weight word e f
        a b h) behind)
        (let led = event_leads table (occupy_done slot h.seen (view a)) a h.mid h.first.3 in
        still_taken led.0 (world_at table h.mid) (view a).client slot h.seen led.1 h.first.2)

  -- So are the slots that were passed, one after the other.

  module _ (slot word : ℕ) (e f : Effort) (a b : SeatOf T)
      (h : PassesTaken fits table key name weight slot word e f a b) where
    taken_on : GoesOn table a b
    taken_on =
        on_then table (pass_on slot word h.between f a h.mid h.passes) (on_event table h.event)

    taken_begun : {old : SeatOf T} → Starts table old a → Begun table old b
    taken_begun starts =
        begun_on table (pass_begun slot word h.between f a h.mid h.passes starts)
        (on_event table h.event)

  each_on : (i : ℕ) (ps : List ℕ) (e f : Effort) (a b : SeatOf T)
      → AtProbes (slots_of table) key (PassesTaken fits table key name weight) i ps e f a b
      → GoesOn table a b
  each_on i [] e f a b h = on_same table h.1
  each_on i (p ∷ ps) e f a b h =
      on_then table (taken_on (probe_slot (slots_of table) key i) p e h.0 a h.1 h.2)
      (each_on (i + 1) ps h.0 f h.1 b h.3)

  each_starts : {old : SeatOf T} (i : ℕ) (ps : List ℕ) (e f : Effort) (a b : SeatOf T)
      → Starts table old a
      → AtProbes (slots_of table) key (PassesTaken fits table key name weight) i ps e f a b
      → Starts table old b
  each_starts {old} i [] e f a b starts h = subst (Starts table old) (sym h.1) starts
  each_starts i (p ∷ ps) e f a b starts h =
      each_starts (i + 1) ps h.0 f h.1 b
      (inr (taken_begun (probe_slot (slots_of table) key i) p e h.0 a h.1 h.2 starts)) h.3

  module _ {old new : SeatOf T} where
    pub each_met : (i : ℕ) (ps : List ℕ) (e f : Effort) (a b : SeatOf T) → Starts table old a
        → GoesOn table b new
        → AtProbes (slots_of table) key (PassesTaken fits table key name weight) i ps e f a b
        → (k : ℕ) → i ≤ k → k < i + length ps
        → LacksWithin table old new key (probe_slot (slots_of table) key k)
        × TakenWithin table old new (probe_slot (slots_of table) key k)
    each_met i [] e f a b starts behind h k low high = absurd (omega arith)
    each_met i (p ∷ ps) e f a b starts behind h k low high =
        let slot = probe_slot (slots_of table) key i in
        elim (cases_lt i k) [
          | inl later ↦
              each_met (i + 1) ps h.0 f h.1 b (inr (taken_begun slot p e h.0 a h.1 h.2 starts))
              behind h.3 k (omega arith) (omega arith)
          | inr here ↦
              let same : i ≡ k = omega arith in
              let after = on_then table (on_event table h.2.event)
              (on_then table (each_on (i + 1) ps h.0 f h.1 b h.3) behind) in
              subst (λ n. LacksWithin table old new key (probe_slot (slots_of table) key n)
              × TakenWithin table old new (probe_slot (slots_of table) key n)) same (
                pass_lacked slot p h.2.between h.0 a h.2.mid h.2.passes starts after,
                pass_taken slot p h.2.between h.0 a h.2.mid h.2.passes starts after,
              )
        ]

  -- An entry of the key was met.
  module _ (slot : ℕ) (e f : Effort) (a b : SeatOf T)
      (h : MatchesAt fits table key name weight slot e f a b) where
    abbrev uses : UsesEntry fits table key name weight slot h.word e f h.mid b
    uses = h.uses

    abbrev got : SeatOf T
    got = uses.reaches.by.mid

    got_on : GoesOn table got b
    got_on =
        on_then table
        (on_seeks table (reached_seeks table slot weight name h.word h.mid uses.mid
        uses.reaches.by))
        (on_then table (on_seeks table uses.seeks) (on_event table uses.by.1))

    match_on : GoesOn table a b
    match_on =
        on_then table (on_event table h.first.3)
        (on_then table (on_seeks table (reach_seeks table slot weight name h.word h.mid uses.mid
        uses.reaches.by)) got_on)

    pub match_shown : {old new : SeatOf T} → Starts table old a → GoesOn table b new
        → (entry : Entry) × (key_of entry ≡ key) × ShowsWithin table old new slot entry
    match_shown starts behind = (
      shown.0,
      met_there table slot weight name h.word h.mid uses.mid uses.reaches.by (λ e. key_of e ≡ key)
          uses.same shown.0 shown.1,
      held_once table (λ w. shown_at w slot ≡ Some shown.0)
          (begun_on table
          (begun_first table starts (taken_first table slot h.seen a h.mid h.first))
          (on_event table uses.reaches.by.adds)) (on_then table got_on behind) shown.1,
    )
      where
        shown : (entry : Entry) × (shown_at (world_at table got) slot ≡ Some entry)
        shown =
            let led = event_leads table (acquire_done slot weight name h.word (view h.mid)) h.mid
            got uses.reaches.by.adds in
            acquire_shows led.0 (world_at table got) (view h.mid).client slot weight name h.word
            led.1 uses.visible

  -- An entry was built and shown.
  shown_on : (slot : ℕ) (a b : SeatOf T) → ShowsBy fits table key name weight slot a b
      → GoesOn table a b
  shown_on slot a b h =
      on_then table (on_event table h.takes)
      (on_then table (on_by table h.builds.1) (on_event table h.builds.3))

  -- By the answer.
  module _ (before after : Effort) (old tried new : SeatOf T) (on : GoesOn table tried new) where
    none_met : (m : Inserts fits table key name weight NoSlot before after old tried) (slot : ℕ)
        → slot < slots_of table
        → LacksWithin table old new key slot × TakenWithin table old new slot
    none_met m slot near =
        let there = probe_of_slot (slots_of table) key table.limits.power slot near in
        subst (λ s. LacksWithin table old new key s × TakenWithin table old new s) there.2
        (elim (cases_lt there.0 (length m.earlier)) [
          | inl visited ↦
              each_met 0 m.earlier before m.between old m.mid (inl refl)
              (on_then table (pass_on at m.tries.0 m.counted after m.mid m.done m.tries.1) last)
              m.probes there.0 (omega arith) (omega arith)
          | inr here ↦
              let low = there.1 in
              let whole = m.all refl in
              let is : length m.earlier ≡ there.0 = omega arith in
              subst (λ n. LacksWithin table old new key (probe_slot (slots_of table) key n)
              × TakenWithin table old new (probe_slot (slots_of table) key n)) is (
                pass_lacked at m.tries.0 m.counted after m.mid m.done m.tries.1 starts last,
                pass_taken at m.tries.0 m.counted after m.mid m.done m.tries.1 starts last,
              )
        ])
      where
        at : ℕ
        at = probe_slot (slots_of table) key (length m.earlier)

        last : GoesOn table m.done new
        last = on_then table (on_by table m.rest) on

        starts : Starts table old m.mid
        starts = each_starts 0 m.earlier before m.between old m.mid (inl refl) m.probes

    pub insertion_met : (answer : Insertion)
        → Inserts fits table key name weight answer before after old tried
        → MeetsWithin table old new key answer
    insertion_met (Placed slot) m =
        let at = probe_slot (slots_of table) key (length m.earlier) in
        let later = on_then table (shown_on at m.mid m.done m.tries.3)
        (on_then table (on_by table m.rest) on) in (
          length m.earlier,
          m.tries.0,
          λ j less. (each_met 0 m.earlier before m.between old m.mid (inl refl) later m.probes j
              (omega arith) (omega arith)).0,
        )
    insertion_met Matched m =
        let at = probe_slot (slots_of table) key (length m.earlier) in
        let last = on_then table (on_by table m.rest) on in
        let starts = each_starts 0 m.earlier before m.between old m.mid (inl refl) m.probes in
        let shown = match_shown at m.counted after m.mid m.done m.tries starts last in
        let later = on_then table (match_on at m.counted after m.mid m.done m.tries) last in (
          length m.earlier,
          shown.0,
          shown.1,
          shown.2,
          λ j less. (each_met 0 m.earlier before m.between old m.mid (inl refl) later m.probes j
              (omega arith) (omega arith)).0,
        )
    insertion_met NoSlot m = λ slot near. none_met m slot near

-- A shard of one client never finds all of its slots taken.
use Rattle.std.proofs.Common.{◌≡◌, inl, inr, ℕ, zero, suc, ◌+◌, ◌*◌, ◌/◌, ◌<◌, ◌≤◌, Bool, true, false, List, [], ◌∷◌, Option, Some, None, Ok, length, slice_get, sym, refl, ap, ◌∙◌, subst, arith}
use Rattle.std.specs.Prelude.{if◌then◌else◌}
use Rattle.std.proofs.lemmas.Bool.{cases_lt}
use Rattle.hcc_word.specs.Word.{is_empty, is_visible}
use Rattle.hcc_core.specs.declared.client.Client.{Client}
use Rattle.hcc_core.specs.declared.client.Owned.{Owned}
use Rattle.hcc_core.specs.declared.client.Owned.TheVariants as owned
use Rattle.hcc_core.specs.declared.event.Event.TheVariants as events
use Rattle.hcc_core.specs.declared.event.Reply.{Reply}
use Rattle.hcc_core.specs.declared.event.Reply.TheVariants as replies
use Rattle.hcc_core.specs.declared.slot.Slot.{Slot}
use Rattle.hcc_core.specs.declared.slot.Slot.TheVariants as slots
use Rattle.hcc_core.specs.Entries.{occupied}
use Rattle.hcc_core.specs.Lawful.{Lawful, owned_by, owned_slot, owner_in, taken_by}
use Rattle.hcc_core.specs.Outcomes.{allow, live_at, slot_at}
use Rattle.hcc_core.specs.References.{look_of}
use Rattle.hcc_core.specs.Sums.{total}
use Rattle.hcc_core.specs.Steps.{outcome_of}
use Rattle.hcc_core.specs.World.{State, is_shareable, owns_nothing, taken_by_slot}
use Rattle.hcc_core.proofs.Keeps.{found_ok, live_ok, may_ok}
use Rattle.hcc_rule.specs.declared.key.Key.{Key}
use Rattle.hcc_rule.specs.declared.table.RuleTable.{RuleTable}
use Rattle.hcc_rule.specs.Acts.{events_of, past}
use Rattle.hcc_rule.specs.Callers.{clients_of, plan_of, slots_of, world_at}
use Rattle.hcc_rule.specs.Events.{phase_in}
use Rattle.hcc_rule.specs.Opening.{begun_world}
use Rattle.hcc_rule.specs.Probes.{probe_slot}
use Rattle.hcc_rule.specs.Rule.{setup_of}
use Rattle.hcc_rule.specs.Seats.{IsPlanned, SeatOf, view}
use Rattle.hcc_rule.proofs.Probes.ProbeLaws.{probe_of_slot}
use Rattle.hcc_rule.proofs.Seats.Runs.{run_lawful}
use Rattle.hcc_table.specs.declared.efforts.Effort.{Effort}
use Rattle.hcc_table.specs.declared.inserting.Insertion.TheVariants.{NoSlot}
use Rattle.hcc_table.specs.Probed.{AtProbes, FindsTaken, Passes}
use Rattle.hcc_table.specs.Still.{BeganWithin, is_still}
use Rattle.hcc_table.specs.Tries.{Inserts, PassesTaken}
use Rattle.hcc_table.proofs.Alone.{event_alone}
use Rattle.hcc_table.proofs.Lasting.{entry_seeks}
use Rattle.hcc_table.proofs.Seeking.{goes_event}
use Rattle.hcc_table.proofs.Setups.{setup_stays, slots_at}
use Rattle.hcc_table.proofs.Shown.{bound, ruled, same_outcome}
use Rattle.hcc_table.proofs.Still.{is_taken, leaves_taken, seeks_still, still_alone}

-- Worlds.

-- which slots have entries stays
abbrev SameTaken : State → State → Type 0
SameTaken w next = (s : ℕ) → is_taken (slice_get next.slots s) ≡ is_taken (slice_get w.slots s)

-- a look changes no slot
look_keeps : (w : State) {next : State} (client slot : ℕ) {reply : Reply}
    → look_of w client slot ≡ Ok (reply, next) → w.slots ≡ next.slots
look_keeps w client slot is =
    let first = bound (slot_at w slot) _ _ is in
    let second = bound (live_at w client) _ _ first.2 in
    ap (λ z. z.1.slots) (same_outcome _ _ second.2)

-- a list of one member has it at the front
at_front : {X : Type 0} (xs : List X) (i : ℕ) {x : X} → length xs ≡ 1 → slice_get xs i ≡ Some x
    → i ≡ 0
at_front [] i one at = cc
at_front (y ∷ ys) zero one at = refl
at_front (y ∷ []) (suc i) one at = cc
at_front (y ∷ z ∷ zs) (suc i) one at = absurd (omega arith)

-- who owns a slot is there, and doesn't own nothing
owner_there : (o : Option Client) {slot : ℕ} → owned_by o ≡ Some slot
    → (c : Client) × (o ≡ Some c) × (owned_slot c.owned ≡ Some slot)
owner_there None is = cc
owner_there (Some c) is = (c, refl, is)

owns_none : (o : Owned) {slot : ℕ} → owned_slot o ≡ Some slot → owns_nothing o ≡ true → ⊥
owns_none owned.Nothing is none = cc
owns_none (owned.ForBuilding s) is none = cc
owns_none (owned.ForFreeing s) is none = cc

-- An occupy of a slot that isn't empty, where there is one client: the slot has an entry, and each
-- slot stays.
occupy_takes : {w next : State} (client slot word : ℕ) → Lawful w → length w.clients ≡ 1
    → outcome_of w (events.Occupy client slot)
    ≡ Ok ((if is_empty word then replies.Taken else replies.Saw (phase_in word)), next)
    → is_empty word ≡ false
    → SameTaken w next × (is_taken (slice_get next.slots slot) ≡ true)
occupy_takes {w} {next} client slot word l one is taken =
    let first = bound (slot_at w slot) _ _ (ruled w (events.Occupy client slot) _ is) in
    let second = bound (live_at w client) _ _ first.2 in
    let third = bound (allow (owns_nothing second.0.owned)) _ _ second.2 in
    by second.0 first.0 (found_ok _ _ first.0 first.1) (live_ok w client second.0 second.1)
    (may_ok _ third.0 third.1)
    (subst (λ b. occupied w client second.0 slot first.0
    ≡ Ok ((if b then replies.Taken else replies.Saw (phase_in word)), next)) taken third.2)
  where
    stays : (seen : Slot) → slice_get w.slots slot ≡ Some seen → is_shareable seen ≡ true
        → look_of w client slot ≡ Ok (replies.Saw (phase_in word), next)
        → SameTaken w next × (is_taken (slice_get next.slots slot) ≡ true)
    stays seen at entry look =
        let same : w.slots ≡ next.slots = look_keeps w client slot look in (
          λ s. ap (λ xs. is_taken (slice_get xs s)) (sym same),
          ap (λ xs. is_taken (slice_get xs slot)) (sym same) ∙ ap is_taken at ∙ entry,
        )

    by : (found : Client) (seen : Slot) → slice_get w.slots slot ≡ Some seen
        → slice_get w.clients client ≡ Some found → owns_nothing found.owned ≡ true
        → occupied w client found slot seen ≡ Ok (replies.Saw (phase_in word), next)
        → SameTaken w next × (is_taken (slice_get next.slots slot) ≡ true)
    by found (slots.Empty strays) at live free reply =
        let wrong : replies.Taken ≡ replies.Saw (phase_in word) =
        ap (λ z. z.0) (same_outcome _ _ reply) in
        absurd (let never : ⊥ = cc in never)
    by found (slots.Building other strays) at live free reply =
        let owner = owner_there (slice_get w.clients other)
        (l.owners.owns slot other (ap owner_in at)) in
        let there : other ≡ client = at_front w.clients other one owner.1
        ∙ sym (at_front w.clients client one live) in
        let both : Some owner.0 ≡ Some found =
        sym owner.1 ∙ ap (slice_get w.clients) there ∙ live in
        let same : owner.0 ≡ found = cc in
        absurd
        (owns_none found.owned (ap (λ (c : Client). owned_slot c.owned) (sym same) ∙ owner.2) free)
    by found (slots.Shareable r) at live free reply = stays (slots.Shareable r) at refl reply

-- Where each slot has an entry, there are as many entries as slots.
all_taken : (xs : List Slot)
    → ((s : ℕ) → s < length xs → is_taken (slice_get xs s) ≡ true)
    → total taken_by_slot xs ≡ length xs
all_taken [] each = refl
all_taken (x ∷ xs) each =
    let rest : total taken_by_slot xs ≡ length xs =
    all_taken xs (λ s less. each (suc s) (omega arith)) in
    let first : taken_by_slot x ≡ 1 = by x (each 0 (omega arith)) in
    omega arith
  where
    by : (seen : Slot) → is_shareable seen ≡ true → taken_by_slot seen ≡ 1
    by (slots.Empty strays) is = cc
    by (slots.Building client strays) is = cc
    by (slots.Shareable r) is = refl

-- That is more than the limit.
limit_low : (n : ℕ) → 0 < n → n * 84 / 100 < n
limit_low n some = omega arith

full_never : {w : State} → Lawful w → 0 < length w.slots
    → ((s : ℕ) → s < length w.slots → is_taken (slice_get w.slots s) ≡ true) → ⊥
full_never {w} l some each =
    let all : total taken_by_slot w.slots ≡ length w.slots = all_taken w.slots each in
    let size = l.sized.slot_count in
    let few : total taken_by_slot w.slots + total taken_by w.clients ≤ w.setup.slots * 84 / 100 =
    l.ledgers.places in
    let low = limit_low w.setup.slots (omega arith) in
    omega arith

module _ {T A : Type 0} (fits : T → Key → List ℕ → Type 0) (table : RuleTable T A)
    (one : clients_of table ≡ 1) (began : BeganWithin table fits) where
  -- The worlds that a seat knows are lawful, and have one client.
  planned : IsPlanned (plan_of table).geometry (plan_of table).capacity
  planned =
      subst (λ g. IsPlanned g (plan_of table).capacity) (sym table.planned.0)
      (subst (IsPlanned table.geometry) (sym table.planned.1) table.limits)

  lawful_at : (a : SeatOf T) → Lawful (world_at table a)
  lawful_at a = run_lawful fits (plan_of table) planned began (events_of (past a))

  setup_at : (a : SeatOf T) → (world_at table a).setup ≡ setup_of (plan_of table)
  setup_at a = setup_stays (events_of (past a)) (begun_world (plan_of table))

  clients_at : (a : SeatOf T) → length (world_at table a).clients ≡ 1
  clients_at a =
      (lawful_at a).sized.client_count ∙ ap (λ z. z.clients) (setup_at a)
      ∙ ap (λ z. z.clients) table.planned.0 ∙ one

  -- there is an entry in the slot, in the world that the seat knows
  abbrev Taken : SeatOf T → (slot : ℕ) → Type 0
  Taken a slot = is_taken (slice_get (world_at table a).slots slot) ≡ true

  module _ (key : Key) (name weight : ℕ) where
    -- A slot that an insertion passed has an entry,
    passed_takes : {slot word : ℕ} {e f : Effort} {a b : SeatOf T}
        → Passes fits table key name (FindsTaken table slot) slot weight word e f a b
        → SameTaken (world_at table a) (world_at table b) × Taken b slot
    passed_takes {slot} {word} {e} {f} {a} {b} h = by (is_visible h.seen) refl
      where
        found : SameTaken (world_at table a) (world_at table h.mid) × Taken h.mid slot
        found =
            occupy_takes (view a).client slot h.seen (lawful_at a) (clients_at a)
            (event_alone table one _ a h.mid h.first.3) h.first.2

        by : (shown : Bool) → is_visible h.seen ≡ shown
            → SameTaken (world_at table a) (world_at table b) × Taken b slot
        by false off =
            subst (λ z. SameTaken (world_at table a) (world_at table z) × Taken z slot)
            (sym (h.unshown off).2) found
        by true on =
            let same = still_alone leaves_taken one h.mid b (seeks_still table h.mid b
            (entry_seeks fits table key name slot weight word e f h.mid b (h.shown on))) in
            (λ s. same s ∙ found.0 s, same slot ∙ found.1)

    -- and so has each of those that it passed, one after the other.
    probes_take : (i : ℕ) (ps : List ℕ) (e f : Effort) (a b : SeatOf T)
        → AtProbes (slots_of table) key (PassesTaken fits table key name weight) i ps e f a b
        → SameTaken (world_at table a) (world_at table b)
        × ((k : ℕ) → i ≤ k → k < i + length ps → Taken b (probe_slot (slots_of table) key k))
    probes_take i [] e f a b h = (
      λ s. ap (λ z. is_taken (slice_get (world_at table z).slots s)) h.1,
      λ k low high. absurd (omega arith),
    )
    probes_take i (p ∷ ps) e f a b h =
        let at = h.2 in
        let slot = probe_slot (slots_of table) key i in
        let first = passed_takes at.passes in
        let rest = probes_take (i + 1) ps h.0 f h.1 b h.3 in
        let on = still_alone leaves_taken one at.mid h.1
        (goes_event table is_still _ at.mid h.1 at.event refl) in (
          λ s. rest.0 s ∙ on s ∙ first.0 s,
          λ k low high. elim (cases_lt i k) [
            | inl later ↦ rest.1 k (omega arith) (omega arith)
            | inr here ↦
                let is : i ≡ k = omega arith in
                subst (λ n. Taken b (probe_slot (slots_of table) key n)) is
                (rest.0 slot ∙ on slot ∙ first.1)
          ],
        )

    -- So an insertion never finds all slots taken.
    pub never_full : {before after : Effort} {old new : SeatOf T}
        → Inserts fits table key name weight NoSlot before after old new → ⊥
    never_full {before} {after} {old} m =
        full_never (lawful_at m.done)
        (let size = slots_at table m.done in let some = table.limits.some_slots in omega arith)
        (λ s less. every s (let size = slots_at table m.done in omega arith))
      where
        earlier : SameTaken (world_at table old) (world_at table m.mid)
            × ((k : ℕ) → 0 ≤ k → k < 0 + length m.earlier
            → Taken m.mid (probe_slot (slots_of table) key k))
        earlier = probes_take 0 m.earlier before m.between old m.mid m.probes

        last : SameTaken (world_at table m.mid) (world_at table m.done)
            × Taken m.done (probe_slot (slots_of table) key (length m.earlier))
        last = passed_takes m.tries.1

        at : (i : ℕ) → i < slots_of table → Taken m.done (probe_slot (slots_of table) key i)
        at i inside = elim (cases_lt i (length m.earlier)) [
          | inl before ↦
              last.0 (probe_slot (slots_of table) key i) ∙ earlier.1 i (omega arith) (omega arith)
          | inr here ↦
              let all = m.all refl in
              let is : length m.earlier ≡ i = omega arith in
              subst (λ n. Taken m.done (probe_slot (slots_of table) key n)) is last.1
        ]

        every : (s : ℕ) → s < slots_of table → Taken m.done s
        every s near =
            let probe = probe_of_slot (slots_of table) key table.limits.power s near in
            subst (λ n. Taken m.done n) probe.2 (at probe.0 probe.1)

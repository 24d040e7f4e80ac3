-- Hiding in a shard of one client: of the key just what the shard shows.
use Rattle.std.proofs.Common.{◌≡◌, ◌≢◌, ◌⊎◌, inl, inr, ℕ, zero, suc, ◌+◌, ◌==◌, ◌&&◌, ◌<◌, ◌≤◌, Bool, true, false, List, [], ◌∷◌, ◌++◌, Option, Some, None, length, slice_get, sym, refl, ap, ◌∙◌, subst, arith, zero-add}
use Rattle.std.specs.Int.{from_bool}
use Rattle.std.specs.Prelude.{IfNone, IfSome, IsSomeAnd, bit_and, option_and_then, if◌then◌else◌}
use Rattle.std.proofs.lemmas.Bool.{cases_eq, cases_lt, eq-eqb, eqb-true}
use Rattle.hcc_word.specs.declared.layout.TheConstants.{HIDING_MASK}
use Rattle.hcc_word.specs.Word.{is_visible}
use Rattle.hcc_core.specs.declared.client.Owned.TheVariants as owned
use Rattle.hcc_core.specs.declared.event.Event.TheVariants as events
use Rattle.hcc_core.specs.declared.event.Reply.TheVariants as replies
use Rattle.hcc_core.specs.declared.slot.Entry.{Entry}
use Rattle.hcc_core.specs.declared.slot.Slot.{Slot}
use Rattle.hcc_core.specs.declared.slot.Slot.TheVariants as slots
use Rattle.hcc_core.specs.declared.slot.Stamp.{Stamp}
use Rattle.hcc_core.specs.Runs.{FindsOne, held_at}
use Rattle.hcc_core.specs.Sums.{total, when}
use Rattle.hcc_core.specs.World.{State}
use Rattle.hcc_rule.specs.declared.key.Key.{Key}
use Rattle.hcc_rule.specs.declared.table.RuleTable.{RuleTable}
use Rattle.hcc_rule.specs.declared.view.Record.{Record}
use Rattle.hcc_rule.specs.declared.view.View.{View}
use Rattle.hcc_rule.specs.Addresses.{address_of_meta}
use Rattle.hcc_rule.specs.Acts.{events_of, past}
use Rattle.hcc_rule.specs.Callers.{IsEvent, clients_of, plan_of, slots_of, world_at}
use Rattle.hcc_rule.specs.Events.{count_done, give_done, hide_done}
use Rattle.hcc_rule.specs.Probes.{probe_slot}
use Rattle.hcc_rule.specs.Records.{record_in}
use Rattle.hcc_rule.specs.Seats.{SeatOf, Makes, view}
use Rattle.hcc_rule.specs.ToldReferences.{after_hide}
use Rattle.hcc_rule.specs.Words.{key_of}
use Rattle.hcc_rule.proofs.Basics.Lists.{within}
use Rattle.hcc_rule.proofs.Probes.ProbeLaws.{probe_inside, probe_of_slot, some_slots}
use Rattle.hcc_rule.proofs.Seats.Runs.{run_finds}
use Rattle.hcc_table.specs.declared.efforts.Effort.{Effort}
use Rattle.hcc_table.specs.declared.hiding.Erased.{Erased}
use Rattle.hcc_table.specs.Freed.{TakesByWhereDue, free_event}
use Rattle.hcc_table.specs.Hides.{HidAt, HideProbe, HidesAll, HidesHeld, PassesOrHides, is_alone}
use Rattle.hcc_table.specs.Probed.{AtProbes, Catches, Looks}
use Rattle.hcc_table.specs.Searched.{is_key}
use Rattle.hcc_table.specs.Seeking.{Empties, GoesOnBy, Seeks, is_settling}
use Rattle.hcc_table.specs.Standing.{HidesShown, ShowsKey, counts_shown, entry_shown, shown_at, shown_of}
use Rattle.hcc_table.proofs.Alone.{event_alone}
use Rattle.hcc_table.proofs.Lasting.{alone_shows, lacks_alone, looks_seek, passes_lack, passes_seek, reach_seeks, reached_seeks}
use Rattle.hcc_table.proofs.Moments.{event_trails, led_none, none_shown, some_and}
use Rattle.hcc_table.proofs.Probings.{one_longer}
use Rattle.hcc_table.proofs.Seeking.{seeks_none, seeks_one, seeks_then}
use Rattle.hcc_table.proofs.Setups.{slots_at}
use Rattle.hcc_table.proofs.Shown.{count_tells, shown_counted}
use Rattle.hcc_table.proofs.Unshown.{KeepsOwned, empty_tells, free_tells, goes_keep, hide_tells, owned_at, settling_after, unpass_after}

-- Keys.

pub both_true : (a : Bool) {b : Bool} → (a && b) ≡ true → (a ≡ true) × (b ≡ true)
both_true true is = (refl, is)
both_true false is = cc

pub key_equal : (a b : Key) → is_key a b ≡ true → b ≡ a
key_equal a b is =
    let both = both_true (a.w0 == b.w0) is in
    let first : a.w0 ≡ b.w0 = eqb-true a.w0 b.w0 both.0 in
    let second : a.w1 ≡ b.w1 = eqb-true a.w1 b.w1 both.1 in
    λ k. record { w0 = sym first k; w1 = sym second k }

module _ (key : Key) where
  -- an entry of the key counts
  counts_one : (e : Entry) → key_of e ≡ key → counts_shown key (Some e) ≡ 1
  counts_one e asked =
      ap (λ z. when (is_key key z) 1) asked
      ∙ (λ k. when (eq-eqb key.w0 key.w0 refl k && eq-eqb key.w1 key.w1 refl k) 1)

  -- and what shows none doesn't
  pub counts_none : (o : Option Entry) → ¬ IsSomeAnd o (λ e. key_of e ≡ key)
      → counts_shown key o ≡ 0
  counts_none None lacks = refl
  counts_none (Some e) lacks = by (is_key key (key_of e)) refl
    where
      by : (b : Bool) → is_key key (key_of e) ≡ b → when (is_key key (key_of e)) 1 ≡ 0
      by true is = absurd (lacks (key_equal key (key_of e) is))
      by false is = ap (λ b. when b 1) is

  -- Sums over slots.

  shown_same : (n : ℕ) (w next : State) → ((s : ℕ) → s < n → shown_at next s ≡ shown_at w s)
      → shown_of n key next ≡ shown_of n key w
  shown_same zero w next same = refl
  shown_same (suc n) w next same =
      let rest : shown_of n key next ≡ shown_of n key w =
      shown_same n w next (λ s less. same s (omega arith)) in
      let here : counts_shown key (shown_at next n) ≡ counts_shown key (shown_at w n) =
      ap (counts_shown key) (same n (omega arith)) in
      omega arith

  pub nothing_shown : (n : ℕ) (w : State) → ((s : ℕ) → s < n → ¬ ShowsKey w key s)
      → shown_of n key w ≡ 0
  nothing_shown zero w none = refl
  nothing_shown (suc n) w none =
      let rest : shown_of n key w ≡ 0 = nothing_shown n w (λ s less. none s (omega arith)) in
      let here : counts_shown key (shown_at w n) ≡ 0 =
      counts_none (shown_at w n) (none n (omega arith)) in
      omega arith

  -- one slot stopped to show the key
  shown_less : (n : ℕ) {slot c : ℕ} (w next : State) → slot < n
      → counts_shown key (shown_at next slot) ≡ 0 → counts_shown key (shown_at w slot) ≡ c
      → ((s : ℕ) → s ≢ slot → shown_at next s ≡ shown_at w s)
      → shown_of n key next + c ≡ shown_of n key w
  shown_less zero w next low none had others = absurd (omega arith)
  shown_less (suc n) {slot} {c} w next low none had others = elim (cases_eq n slot) [
    | inl here ↦
        let rest : shown_of n key next ≡ shown_of n key w =
        shown_same n w next (λ s less. others s (λ e. omega (arith, e, here, less))) in
        let now : counts_shown key (shown_at next n) ≡ 0 =
        subst (λ s. counts_shown key (shown_at next s) ≡ 0) (sym here) none in
        let was : counts_shown key (shown_at w n) ≡ c =
        subst (λ s. counts_shown key (shown_at w s) ≡ c) (sym here) had in
        omega arith
    | inr other ↦
        let rest : shown_of n key next + c ≡ shown_of n key w = shown_less n w next (omega arith)
        none had others in
        let same : counts_shown key (shown_at next n) ≡ counts_shown key (shown_at w n) =
        ap (counts_shown key) (others n other) in
        omega arith
  ]

module _ (size : ℕ) (key : Key) where
  -- So many slots fewer show the key, and each that didn't shows what it showed. Each that shows
  -- another thing than it did shows nothing.
  pub record Loses (n : ℕ) (w next : State) : Type 0 where
    pub count : shown_of size key next + n ≡ shown_of size key w
    pub others : (s : ℕ) → ¬ ShowsKey w key s → shown_at next s ≡ shown_at w s
    pub less : (s : ℕ) → (shown_at next s ≡ shown_at w s) ⊎ (shown_at next s ≡ None)

  loses_same : {w next : State} → ((s : ℕ) → shown_at next s ≡ shown_at w s) → Loses 0 w next
  loses_same {w} {next} same = record {
    count =
        let all : shown_of size key next ≡ shown_of size key w =
        shown_same key size w next (λ s less. same s) in
        omega arith;
    others = λ s lacks. same s;
    less = λ s. inl (same s);
  }

  still_lacks : {n : ℕ} {w next : State} → Loses n w next → (s : ℕ) → ¬ ShowsKey w key s
      → ¬ ShowsKey next key s
  still_lacks h s lacks shows =
      lacks (subst (λ o. IsSomeAnd o (λ e. key_of e ≡ key)) (h.others s lacks) shows)

  loses_then : {m n : ℕ} {u v w : State} → Loses m u v → Loses n v w → Loses (m + n) u w
  loses_then {m} {n} {u} {v} h g = record {
    count = let first = h.count in let second = g.count in omega arith;
    others = λ s lacks. g.others s (still_lacks h s lacks) ∙ h.others s lacks;
    less = λ s. elim (g.less s) [
      | inl same ↦ elim (h.less s) [
        | inl was ↦ inl (same ∙ was)
        | inr none ↦ inr (same ∙ none)
      ]
      | inr none ↦ inr none
    ];
  }

module _ {T A : Type 0} (table : RuleTable T A) (one : clients_of table ≡ 1) where
  finds_at : (a : SeatOf T) → FindsOne (world_at table a)
  finds_at a = run_finds (plan_of table) (events_of (past a))

  -- A slot that shows a key is one of the table.
  shows_inside : (a : SeatOf T) (key : Key) {slot : ℕ} → ShowsKey (world_at table a) key slot
      → slot < slots_of table
  shows_inside a key {slot} shows = by (slice_get (world_at table a).slots slot) refl shows
    where
      by : (o : Option Slot) → slice_get (world_at table a).slots slot ≡ o
          → IsSomeAnd (option_and_then entry_shown o) (λ e. key_of e ≡ key)
          → slot < slots_of table
      by None at shows = absurd shows
      by (Some seen) at shows =
          let low = within (world_at table a).slots slot seen at in
          let all = slots_at table a in
          omega arith

  -- An entry that isn't shown was taken, and its slot freed: what is shown stays.
  freed_keeps : {slot charge : ℕ} {name : Option ℕ} (a : SeatOf T) {took : SeatOf T} (b : SeatOf T)
      → IsEvent table (free_event slot name charge (view a)) a took
      → Empties table (view a).client took b → shown_at (world_at table a) slot ≡ None
      → (s : ℕ) → shown_at (world_at table b) s ≡ shown_at (world_at table a) s
  freed_keeps {slot} {charge} {name} a {took} b event empties none s =
      empty_tells (world_at table mid) (world_at table b) (view a).client slot (view a).client 0
      (event_alone table one _ mid b empties.2) (ap (λ xs. slice_get xs slot) kept.0 ∙ told.1)
      (kept.1 (view a).client ∙ told.2) s
      ∙ ap (λ xs. option_and_then entry_shown (slice_get xs s)) kept.0
      ∙ told.0 s
    where
      mid : SeatOf T
      mid = empties.0

      told : ((s : ℕ) → shown_at (world_at table took) s ≡ shown_at (world_at table a) s)
          × (slice_get (world_at table took).slots slot
          ≡ Some (slots.Building (view a).client 0))
          × (owned_at (world_at table took) (view a).client ≡ Some (owned.ForFreeing slot))
      told =
          free_tells (world_at table a) (world_at table took) (view a).client slot charge name
          (event_alone table one _ a took event) none

      kept : KeepsOwned (world_at table took) (world_at table mid)
      kept = goes_keep unpass_after one empties.1

  -- What settles changes nothing of what is shown.
  pub settled_keeps : (a b : SeatOf T) → GoesOnBy table is_settling a b → (s : ℕ)
      → shown_at (world_at table b) s ≡ shown_at (world_at table a) s
  settled_keeps a b h s =
      ap (λ xs. option_and_then entry_shown (slice_get xs s)) (goes_keep settling_after one h).0

  -- To try to take an entry that isn't shown changes nothing of what is.
  takes_keep : {slot word : ℕ} {name : Option ℕ} (due : Bool) (freed : Option ℕ) {a b : SeatOf T}
      → TakesByWhereDue table slot word name due freed a b
      → shown_at (world_at table a) slot ≡ None
      → (s : ℕ) → shown_at (world_at table b) s ≡ shown_at (world_at table a) s
  takes_keep false freed h none s = ap (λ z. shown_at (world_at table z) s) (h.1 refl)
  takes_keep {slot} true None {a} {b} h none s =
      let lost = (h.0 refl).lost in
      alone_shows table one (seeks_one table _ a b lost.2 refl) s
  takes_keep {slot} {word} {name} true (Some charge) {a} {b} h none s =
      let won = (h.0 refl).won in
      freed_keeps a b won.1 won.2 none s

  -- The entry of a record was hidden by one step.
  hid_tells : {slot name : ℕ} (found : ℕ) (a hid : SeatOf T)
      → IsEvent table (hide_done name found (view a)) a hid
      → view hid ≡ after_hide name found (view a) → {r : Record}
      → record_in name (view a).records ≡ Some r → r.slot ≡ slot
      → (shown_at (world_at table hid) slot ≡ None)
      × (shown_at (world_at table a) slot ≡ (if is_visible found then Some r.entry else None))
      × ((s : ℕ) → s ≢ slot
      → shown_at (world_at table hid) s ≡ shown_at (world_at table a) s)
  hid_tells {slot} {name} found a hid event told {r} there on =
      hide_tells (world_at table a) (world_at table hid) (view a).client name slot
      (is_visible found) r.entry (finds_at a) (finds_at hid) (event_alone table one _ a hid event)
      held
    where
      held : held_at (world_at table hid) (view a).client name slot ≡ Some r.entry
      held =
          subst (λ n. held_at (world_at table hid) (view a).client name n ≡ Some r.entry) on
          (subst (λ n. held_at (world_at table hid) n name r.slot ≡ Some r.entry)
          (ap (λ (z : View T). z.client) told)
          (event.0.stand name r
          (ap (λ (z : View T). record_in name z.records) told ∙ there)))

  module _ (key : Key) where
    hid_loses : {slot name : ℕ} (found : ℕ) (a hid : SeatOf T) → slot < slots_of table
        → IsEvent table (hide_done name found (view a)) a hid
        → view hid ≡ after_hide name found (view a) → {r : Record}
        → record_in name (view a).records ≡ Some r → r.slot ≡ slot → key_of r.entry ≡ key
        → Loses (slots_of table) key (from_bool (is_visible found)) (world_at table a)
        (world_at table hid)
        × (shown_at (world_at table hid) slot ≡ None)
    hid_loses {slot} {name} found a hid low event told {r} there on asked = (
      record {
        count =
            shown_less key (slots_of table) (world_at table a) (world_at table hid) low
            (ap (counts_shown key) is.0) (ap (counts_shown key) is.1 ∙ had (is_visible found)) is.2;
        others = λ s lacks. elim (cases_eq s slot) [
          | inl here ↦
              subst (λ n. shown_at (world_at table hid) n ≡ shown_at (world_at table a) n)
              (sym here)
              (is.0 ∙ sym (is.1 ∙ was (is_visible found)
              (subst (λ o. ¬ IsSomeAnd o (λ e. key_of e ≡ key)) is.1
              (subst (λ n. ¬ ShowsKey (world_at table a) key n) here lacks))))
          | inr other ↦ is.2 s other
        ];
        less = λ s. elim (cases_eq s slot) [
          | inl here ↦ inr (subst (λ n. shown_at (world_at table hid) n ≡ None) (sym here) is.0)
          | inr other ↦ inl (is.2 s other)
        ];
      },
      is.0,
    )
      where
        is : (shown_at (world_at table hid) slot ≡ None)
            × (shown_at (world_at table a) slot ≡ (if is_visible found then Some r.entry else None))
            × ((s : ℕ) → s ≢ slot
            → shown_at (world_at table hid) s ≡ shown_at (world_at table a) s)
        is = hid_tells found a hid event told there on

        had : (b : Bool) → counts_shown key (if b then Some r.entry else None) ≡ from_bool b
        had true = counts_one key r.entry asked
        had false = refl

        was : (b : Bool) → ¬ IsSomeAnd (if b then Some r.entry else None) (λ e. key_of e ≡ key)
            → (if b then Some r.entry else None) ≡ None
        was true lacks = absurd (lacks asked)
        was false lacks = refl

    -- What was hidden, and tried to take then.
    held_loses : {slot name : ℕ} {room : Bool} {done : Erased} {e f : Effort} {a b : SeatOf T}
        → slot < slots_of table → HidesHeld table slot name room done e f a b
        → IsSomeAnd (record_in name (view a).records)
        (λ r. (r.slot ≡ slot) × (key_of r.entry ≡ key))
        → Loses (slots_of table) key done.hidden (world_at table a) (world_at table b)
        × (shown_at (world_at table b) slot ≡ None)
    held_loses {slot} {name} {room} {done} {e} {f} {a} {b} low h holds =
        let r = some_and (record_in name (view a).records) _ holds in
        let hid = hid_loses h.found a h.hid low h.event h.told r.1 r.2.0 r.2.1 in (
          subst (λ n. Loses (slots_of table) key n (world_at table a) (world_at table b)) count
              (loses_then (slots_of table) key hid.0
              (loses_same (slots_of table) key (rest hid.1))),
          rest hid.1 slot ∙ hid.1,
        )
      where
        count : from_bool (is_visible h.found) + 0 ≡ done.hidden
        count = let is = h.hidden in omega arith

        last : (freed : Option ℕ) → h.freed ≡ freed → (s : ℕ)
            → shown_at (world_at table b) s ≡ shown_at (world_at table h.tried) s
        last None is s =
            let given = subst (λ o. IfNone o ((left : ℕ)
            × Makes (address_of_meta table slot) 1 0 left h.tried b
            × (done.slots ≡ 0) × (done.charge ≡ 0)
            × IsEvent table (give_done 1 name left (view h.tried)) h.tried b)) is h.given in
            alone_shows table one (seeks_one table _ h.tried b given.4 refl) s
        last (Some charge) is s =
            let won = subst (λ o. IfSome o (λ charge.
            (b ≡ h.tried) × (done.slots ≡ 1) × (done.charge ≡ charge))) is h.won in
            ap (λ z. shown_at (world_at table z) s) won.0

        rest : shown_at (world_at table h.hid) slot ≡ None → (s : ℕ)
            → shown_at (world_at table b) s ≡ shown_at (world_at table h.hid) s
        rest none s =
            last h.freed refl s
            ∙ takes_keep (room && is_alone (bit_and h.found HIDING_MASK)) h.freed h.takes none s

    module _ (fits : T → Key → List ℕ → Type 0) (name : ℕ) where
      catches_seek : {slot word : ℕ} {e f : Effort} {a b : SeatOf T}
          → Catches fits table key name (Looks table slot) slot 1 word e f a b → Seeks table a b
      catches_seek {slot} {word} {e} {f} {a} {b} h =
          seeks_then table a _ b (looks_seek table slot h.seen a h.looked h.first) (seeks_then table
          _ h.mid b (seeks_then table _ _ h.mid
          (reach_seeks table slot 1 name word h.looked h.mid h.reaches.by)
          (reached_seeks table slot 1 name word h.looked h.mid h.reaches.by)) h.seeks)

      -- What was done at one slot: there nothing shows the key any more.
      passed_loses : {room : Bool} {slot word : ℕ} {caught : Option Stamp} {done : Erased}
          {e f : Effort} {a b : SeatOf T} → slot < slots_of table
          → PassesOrHides fits table key name room slot word caught done e f a b
          → Loses (slots_of table) key done.hidden (world_at table a) (world_at table b)
          × ¬ ShowsKey (world_at table b) key slot
      passed_loses {room} {slot} {word} {caught} {done} {e} {f} {a} {b} low (inl passes) =
          let seeks = passes_seek fits table key name slot word e f a b passes.0 in
          let stays = loses_same (slots_of table) key (alone_shows table one seeks) in (
            subst (λ (d : Erased). Loses (slots_of table) key d.hidden (world_at table a)
                (world_at table b)) (sym passes.1) stays,
            still_lacks (slots_of table) key stays slot (lacks_alone table key slot a b one
                (passes_lack fits table key name a b slot word e f a b (led_none table a)
                (seeks_none table b) passes.0)),
          )
      passed_loses {room} {slot} {word} {caught} {done} {e} {f} {a} {b} low (inr h) =
          let seeks = catches_seek h.catches in
          let hid = held_loses low h.hides h.holds in (
            subst (λ n. Loses (slots_of table) key n (world_at table a) (world_at table b))
                (zero-add done.hidden) (loses_then (slots_of table) key
                (loses_same (slots_of table) key (alone_shows table one seeks)) hid.0),
            none_shown (world_at table b) key slot hid.1,
          )

      hid_at_loses : {slot : ℕ} {p : HideProbe} {e f : Effort} {a b : SeatOf T}
          → slot < slots_of table → HidAt fits table key name slot p e f a b
          → Loses (slots_of table) key p.done.hidden (world_at table a) (world_at table b)
          × ¬ ShowsKey (world_at table b) key slot
      hid_at_loses {slot} {p} {e} {f} {a} {b} low h =
          let done = passed_loses low h.does in
          let stays = loses_same (slots_of table) key
          (alone_shows table one (seeks_one table _ h.mid b h.event refl)) in (
            subst (λ n. Loses (slots_of table) key n (world_at table a) (world_at table b)) nothing
                (loses_then (slots_of table) key done.0 stays),
            still_lacks (slots_of table) key stays slot done.1,
          )
        where
          nothing : p.done.hidden + 0 ≡ p.done.hidden
          nothing = omega arith

      probe_low : (i : ℕ) → probe_slot (slots_of table) key i < slots_of table
      probe_low i =
          probe_inside (slots_of table) key i (some_slots (slots_of table) table.limits.power)

      -- So it is at the probes, one after the other.
      probes_lose : (i : ℕ) (ps : List HideProbe) (e f : Effort) (a b : SeatOf T)
          → AtProbes (slots_of table) key (HidAt fits table key name) i ps e f a b
          → Loses (slots_of table) key (total (λ (p : HideProbe). p.done.hidden) ps)
          (world_at table a) (world_at table b)
          × ((k : ℕ) → i ≤ k → k < i + length ps
          → ¬ ShowsKey (world_at table b) key (probe_slot (slots_of table) key k))
      probes_lose i [] e f a b h = (
        loses_same (slots_of table) key (λ s. ap (λ z. shown_at (world_at table z) s) h.1),
        λ k low high. absurd (omega arith),
      )
      probes_lose i (p ∷ ps) e f a b h =
          let first = hid_at_loses (probe_low i) h.2 in
          let rest = probes_lose (i + 1) ps h.0 f h.1 b h.3 in (
            loses_then (slots_of table) key first.0 rest.0,
            λ k low high. elim (cases_lt i k) [
              | inl later ↦ rest.1 k (omega arith) (omega arith)
              | inr here ↦
                  let same : i ≡ k = omega arith in
                  subst (λ n. ¬ ShowsKey (world_at table b) key (probe_slot (slots_of table) key n))
                  same (still_lacks (slots_of table) key rest.0 (probe_slot (slots_of table) key i)
                  first.1)
            ],
          )

      -- the count at the last of them
      last_counted : (i : ℕ) (ps : List HideProbe) (p : HideProbe) (e f : Effort) (a b : SeatOf T)
          → AtProbes (slots_of table) key (HidAt fits table key name) i (ps ++ p ∷ []) e f a b
          → (c : SeatOf T) × IsEvent table (count_done
          (probe_slot (slots_of table) key (i + length ps)) p.found.displacement (view c)) c b
      last_counted i [] p e f a b h = (
        h.2.mid,
        subst (λ n. IsEvent table (count_done (probe_slot (slots_of table) key n)
            p.found.displacement (view h.2.mid)) h.2.mid b) here
            (subst (λ z. IsEvent table (count_done (probe_slot (slots_of table) key i)
            p.found.displacement (view h.2.mid)) h.2.mid z) (sym h.3.1) h.2.event),
      )
        where
          here : i ≡ i + 0
          here = omega arith
      last_counted i (q ∷ ps) p e f a b h =
          let rest = last_counted (i + 1) ps p h.0 f h.1 b h.3 in (
            rest.0,
            subst (λ n. IsEvent table (count_done (probe_slot (slots_of table) key n)
                p.found.displacement (view rest.0)) rest.0 b) on rest.1,
          )
        where
          on : i + 1 + length ps ≡ i + suc (length ps)
          on = omega arith

      module _ (room : Bool) (all : Erased) (before after : Effort) (old new : SeatOf T)
          (m : HidesAll fits table key name room all before after old new) where
        -- where no trail went on, no later probe shows the key
        beyond_none : {i : ℕ} → length m.earlier < i → i < slots_of table
            → m.last.found.displacement ≡ 0
            → ¬ ShowsKey (world_at table new) key (probe_slot (slots_of table) key i)
        beyond_none {i} beyond inside none shows =
            let count = last_counted 0 m.earlier m.last before after old new m.probes in
            let done = count_done (probe_slot (slots_of table) key (0 + length m.earlier))
            m.last.found.displacement (view count.0) in
            let told = count_tells (world_at table count.0) (world_at table new)
            (view count.0).client (probe_slot (slots_of table) key (0 + length m.earlier))
            m.last.found.displacement (event_alone table one done count.0 new count.1) in
            let found = some_and (shown_at (world_at table new)
            (probe_slot (slots_of table) key i)) _ shows in
            let some = shown_counted (slots_of table) (world_at table new) key i
            (0 + length m.earlier) found.0 table.limits.power
            (event_trails table done count.0 new count.1) (omega arith) inside found.1 found.2 in
            absurd (omega arith)

        -- Nothing shows the key any more.
        none_left : (slot : ℕ) → slot < slots_of table → ¬ ShowsKey (world_at table new) key slot
        none_left slot near =
            let at = probe_of_slot (slots_of table) key table.limits.power slot near in
            subst (λ s. ¬ ShowsKey (world_at table new) key s) at.2 (by at.0 at.1)
          where
            long : length (m.earlier ++ m.last ∷ []) ≡ length m.earlier + 1
            long = one_longer m.earlier m.last

            by : (i : ℕ) → i < slots_of table
                → ¬ ShowsKey (world_at table new) key (probe_slot (slots_of table) key i)
            by i inside = elim (cases_lt (length m.earlier) i) [
              | inl beyond ↦ elim m.ends [
                | inl none ↦ beyond_none beyond inside none
                | inr whole ↦ absurd (omega arith)
              ]
              | inr visited ↦
                  (probes_lose 0 (m.earlier ++ m.last ∷ []) before after old new m.probes).1 i
                  (omega arith) (omega (arith, long))
            ]

        pub hides_shown : HidesShown (slots_of table) key all.hidden (world_at table old)
            (world_at table new)
        hides_shown =
            let h = probes_lose 0 (m.earlier ++ m.last ∷ []) before after old new m.probes in
            record {
              all =
                  let left : shown_of (slots_of table) key (world_at table new) ≡ 0 =
                  nothing_shown key (slots_of table) (world_at table new) none_left in
                  let count = h.0.count in
                  let sum = m.hidden in
                  omega arith;
              none = none_left;
              gone = λ slot shows. elim (h.0.less slot) [
                | inl same ↦
                    absurd (none_left slot (shows_inside old key shows)
                    (subst (λ o. IsSomeAnd o (λ e. key_of e ≡ key)) (sym same) shows))
                | inr none ↦ none
              ];
              others = h.0.others;
            }

-- What hiding an entry, and freeing a hidden one, leave of what a world shows.
use Rattle.std.proofs.Common.{◌≡◌, ◌≢◌, ℕ, ◌+◌, Bool, true, false, List, [], ◌∷◌, Option, Some, None, Result, Ok, Err, nat_lt, option_map, slice_get, slice_set, sym, refl, ap, ◌∙◌, subst}
use Rattle.std.specs.List.{list_any}
use Rattle.std.specs.Prelude.{option_and_then, if◌then◌else◌}
use Rattle.hcc_core.specs.declared.client.Client.{Client}
use Rattle.hcc_core.specs.declared.client.Owned.{Owned}
use Rattle.hcc_core.specs.declared.client.Owned.TheVariants as owned
use Rattle.hcc_core.specs.declared.event.CoreError.{CoreError}
use Rattle.hcc_core.specs.declared.event.CoreError.TheVariants.{NotAllowed}
use Rattle.hcc_core.specs.declared.event.Event.{Event}
use Rattle.hcc_core.specs.declared.event.Event.TheVariants as events
use Rattle.hcc_core.specs.declared.event.Reply.TheVariants as replies
use Rattle.hcc_core.specs.declared.slot.Entry.{Entry}
use Rattle.hcc_core.specs.declared.slot.Slot.{Slot}
use Rattle.hcc_core.specs.declared.slot.Slot.TheVariants as slots
use Rattle.hcc_core.specs.Entries.{client_freeing, empty_of, free_of, freed_by, hidden, hide_of, may_free, slot_hidden}
use Rattle.hcc_core.specs.Ledgers.{may_settle, place_granted, settle_of, slots_of}
use Rattle.hcc_core.specs.Outcomes.{◌>>=◌, Outcome, allow, dropped, has_no_member, holding, live_at, slot_at, with_both, with_client}
use Rattle.hcc_core.specs.References.{client_noticed}
use Rattle.hcc_core.specs.Runs.{FindsOne, after, after_all, entry_held, held_at, world_after}
use Rattle.hcc_core.specs.Steps.{in_range, outcome_of, rule_of}
use Rattle.hcc_core.specs.Trails.{is_slot, unpass_of}
use Rattle.hcc_core.specs.World.{State, has_reference, slot_holding}
use Rattle.hcc_core.proofs.Keeps.{found_ok, live_ok}
use Rattle.hcc_core.proofs.ListLemmas.{read_here, read_other, read_same}
use Rattle.hcc_rule.specs.declared.table.RuleTable.{RuleTable}
use Rattle.hcc_rule.specs.declared.view.Done.{Done}
use Rattle.hcc_rule.specs.Acts.{events_of, past, world_of}
use Rattle.hcc_rule.specs.Callers.{clients_of, plan_of, world_at}
use Rattle.hcc_rule.specs.Opening.{begun_world}
use Rattle.hcc_rule.specs.Seats.{SeatOf}
use Rattle.hcc_rule.specs.Views.{Each}
use Rattle.hcc_rule.proofs.Seats.Histories.{after_more}
use Rattle.hcc_table.specs.Seeking.{GoesOnBy, is_settling, is_unpass}
use Rattle.hcc_table.specs.Standing.{entry_shown, shown_at}
use Rattle.hcc_table.proofs.Shown.{bound, ruled, same_outcome}

-- Hiding.

held_is : (b : Bool) (o : Option Entry) {e : Entry} → (if b then o else None) ≡ Some e
    → o ≡ Some e
held_is true o is = is
held_is false o is = cc

-- whether it was shown, by the reply
hid_is : (a b : Bool) → (if a then replies.Hid else replies.Again)
    ≡ (if b then replies.Hid else replies.Again) → a ≡ b
hid_is true true same = refl
hid_is true false same = cc
hid_is false true same = cc
hid_is false false same = refl

-- what a hidden slot shows, and what a reference there is on, by what was there
hidden_none : (seen : Slot) → entry_shown (slot_hidden seen) ≡ None
hidden_none (slots.Empty strays) = refl
hidden_none (slots.Building client strays) = refl
hidden_none (slots.Shareable r) = refl

hidden_held : (client name : ℕ) (seen : Slot)
    → entry_held client name (slot_hidden seen) ≡ entry_held client name seen
hidden_held client name (slots.Empty strays) = refl
hidden_held client name (slots.Building other strays) = refl
hidden_held client name (slots.Shareable r) = refl

shown_before : (client name : ℕ) (seen : Slot) {entry : Entry} (b : Bool)
    → entry_held client name seen ≡ Some entry
    → hidden seen ≡ (if b then replies.Hid else replies.Again)
    → entry_shown seen ≡ (if b then Some entry else None)
shown_before client name (slots.Empty strays) {entry} b held reply =
    let wrong = held_is (has_reference client name (slots.Empty strays)) None held in cc
shown_before client name (slots.Building other strays) {entry} b held reply =
    let wrong = held_is (has_reference client name (slots.Building other strays)) None held in
    cc
shown_before client name (slots.Shareable r) {entry} b held reply =
    let is = held_is (has_reference client name (slots.Shareable r)) (Some r.entry) held in
    let same : r.entry ≡ entry = cc in
    let shown : r.shown ≡ b = hid_is r.shown b reply in
    λ k. if shown k then Some (same k) else None

-- What an entry that was hidden showed, and shows. It is the one that the reference is on.
pub hide_tells : (w next : State) (client name slot : ℕ) (b : Bool) (entry : Entry)
    → FindsOne w → FindsOne next
    → outcome_of w (events.Hide client name)
    ≡ Ok ((if b then replies.Hid else replies.Again), next)
    → held_at next client name slot ≡ Some entry
    → (shown_at next slot ≡ None) × (shown_at w slot ≡ (if b then Some entry else None))
    × ((s : ℕ) → s ≢ slot → shown_at next s ≡ shown_at w s)
unfolding hide_of
hide_tells w next client name slot b entry one later is held =
    let first = bound (live_at w client) _ _ (ruled w (events.Hide client name) _ is) in
    let second = bound (holding w client name) _ _ first.2 in
    let third = bound (slot_at w second.0) _ _ second.2 in
    by first.0 second.0 third.0 (found_ok _ _ second.0 second.1) (found_ok _ _ third.0 third.1)
    (ap (λ z. z.0) (same_outcome _ _ third.2)) (ap (λ z. z.1) (same_outcome _ _ third.2))
  where
    by : (found : Client) (there : ℕ) (seen : Slot)
        → slot_holding w.slots client name ≡ Some there → slice_get w.slots there ≡ Some seen
        → hidden seen ≡ (if b then replies.Hid else replies.Again)
        → with_both w there (slot_hidden seen) client
        (client_noticed client (slot_hidden seen) found) ≡ next
        → (shown_at next slot ≡ None) × (shown_at w slot ≡ (if b then Some entry else None))
        × ((s : ℕ) → s ≢ slot → shown_at next s ≡ shown_at w s)
    by found there seen holds at reply left = (
      subst (λ s. shown_at next s ≡ None) here none,
      subst (λ s. shown_at w s ≡ (if b then Some entry else None)) here before,
      λ s other. slots_are s ∙ ap (option_and_then entry_shown)
          (read_other w.slots there s (slot_hidden seen) (λ e. other (e ∙ here))),
    )
      where
        slots_are : (s : ℕ) → shown_at next s
            ≡ option_and_then entry_shown (slice_get (slice_set w.slots there (slot_hidden seen)) s)
        slots_are s = ap (λ z. shown_at z s) (sym left)

        now : slice_get next.slots there ≡ Some (slot_hidden seen)
        now = ap (λ (z : State). slice_get z.slots there) (sym left)
            ∙ read_here w.slots there seen (slot_hidden seen) at

        stood : (e : Entry) × (held_at w client name there ≡ Some e)
        stood = one.stands client name there holds

        stands : held_at next client name there ≡ Some stood.0
        stands =
            ap (option_and_then (entry_held client name)) now ∙ hidden_held client name seen
            ∙ ap (option_and_then (entry_held client name)) (sym at) ∙ stood.1

        here : there ≡ slot
        here =
            let both : Some there ≡ Some slot =
            sym (later.found client name there stood.0 stands)
            ∙ later.found client name slot entry held in
            cc

        none : shown_at next there ≡ None
        none = ap (option_and_then entry_shown) now ∙ hidden_none seen

        before : shown_at w there ≡ (if b then Some entry else None)
        before =
            ap (option_and_then entry_shown) at
            ∙ shown_before client name seen b (sym (hidden_held client name seen)
            ∙ sym (ap (option_and_then (entry_held client name)) now)
            ∙ subst (λ s. held_at next client name s ≡ Some entry) (sym here) held)
            reply

-- Freeing.

-- what a client owns
abbrev pub owned_at : State → ℕ → Option Owned
owned_at w client = option_map (λ (c : Client). c.owned) (slice_get w.clients client)

-- To take a hidden entry changes nothing of what is shown. The slot is the client's then.
pub free_tells : (w next : State) (client slot charge : ℕ) (name : Option ℕ)
    → outcome_of w (events.Free client slot name) ≡ Ok (replies.Freed charge, next)
    → shown_at w slot ≡ None
    → ((s : ℕ) → shown_at next s ≡ shown_at w s)
    × (slice_get next.slots slot ≡ Some (slots.Building client 0))
    × (owned_at next client ≡ Some (owned.ForFreeing slot))
unfolding free_of
free_tells w next client slot charge name is none =
    let first = bound (slot_at w slot) _ _ (ruled w (events.Free client slot name) _ is) in
    let second = bound (live_at w client) _ _ first.2 in
    let third = bound (allow (may_free client second.0 first.0 name)) _ _ second.2 in
    by first.0 second.0 (found_ok _ _ first.0 first.1) (live_ok w client second.0 second.1)
    (ap (λ z. z.1) (same_outcome _ _ third.2))
  where
    by : (seen : Slot) (found : Client) → slice_get w.slots slot ≡ Some seen
        → slice_get w.clients client ≡ Some found
        → with_both w slot (slots.Building client 0) client (client_freeing client slot seen found)
        ≡ next
        → ((s : ℕ) → shown_at next s ≡ shown_at w s)
        × (slice_get next.slots slot ≡ Some (slots.Building client 0))
        × (owned_at next client ≡ Some (owned.ForFreeing slot))
    by seen found at live left = (
      λ s. ap (λ z. shown_at z s) (sym left)
          ∙ read_same (option_and_then entry_shown) w.slots slot s seen (slots.Building client 0) at
          (sym none ∙ ap (option_and_then entry_shown) at),
      ap (λ (z : State). slice_get z.slots slot) (sym left)
          ∙ read_here w.slots slot seen (slots.Building client 0) at,
      ap (λ z. owned_at z client) (sym left)
          ∙ ap (option_map (λ (c : Client). c.owned))
          (read_here w.clients client found (client_freeing client slot seen found) live),
    )

-- A slot that leaves a trail changes no slot, and nothing of what clients own.
abbrev pub KeepsOwned : State → State → Type 0
KeepsOwned w next = (next.slots ≡ w.slots) × ((c : ℕ) → owned_at next c ≡ owned_at w c)

-- what each event of a kind keeps, all of them keep
pub each_keeps : {kind : Event → Bool}
    → ((w : State) (event : Event) → kind event ≡ true → KeepsOwned w (after w event))
    → (ds : List Done) → Each (λ (done : Done). kind done.event ≡ true) ds
    → (w : State) → KeepsOwned w (after_all w (events_of ds))
each_keeps keeps [] only w = (refl, λ c. refl)
each_keeps keeps (d ∷ ds) only w =
    let first = keeps w d.event only.0 in
    let rest = each_keeps keeps ds only.1 (after w d.event) in
    (rest.0 ∙ first.0, λ c. rest.1 c ∙ first.1 c)

-- so in a shard of one client does all that a call did of that kind
pub goes_keep : {T A : Type 0} {table : RuleTable T A} {kind : Event → Bool}
    → ((w : State) (event : Event) → kind event ≡ true → KeepsOwned w (after w event))
    → clients_of table ≡ 1 → {a b : SeatOf T} → GoesOnBy table kind a b
    → KeepsOwned (world_at table a) (world_at table b)
goes_keep {table = table} keeps one {a} h =
    subst (KeepsOwned (world_at table a)) (sym (ap (world_of (plan_of table)) h.goes_on
    ∙ after_more (past a) h.more (begun_world (plan_of table))))
    (each_keeps keeps h.more (h.alone one) (world_at table a))

pub on_the_way : (w : State) {A : Type 0} (r : Result A CoreError) (f : A → Outcome)
    → ((x : A) → r ≡ Ok x → KeepsOwned w (world_after w (f x)))
    → KeepsOwned w (world_after w (r >>= f))
on_the_way w (Ok x) f h = h x refl
on_the_way w (Err e) f h = (refl, λ c. refl)

unpass_keeps : (w : State) (client slot : ℕ)
    → KeepsOwned w (world_after w (unpass_of w client slot))
unfolding unpass_of
unpass_keeps w client slot =
    on_the_way w (slot_at w slot) _ (λ seen at. on_the_way w (live_at w client) _ (λ found live.
    on_the_way w (allow (list_any (is_slot slot) found.trail))
    (λ u. Ok (
      replies.Ok,
      with_client w client
          (record found { trail = dropped (is_slot slot) found.trail }),
    )) (λ u may. (
      refl,
      λ c. read_same (option_map (λ (z : Client). z.owned)) w.clients client c found
          (record found { trail = dropped (is_slot slot) found.trail })
          (live_ok w client found live) refl,
    ))))

-- an event whose rule does so
pub event_keeps : (w : State) (event : Event) → KeepsOwned w (world_after w (rule_of w event))
    → KeepsOwned w (after w event)
unfolding outcome_of
event_keeps w event h = by (in_range event)
  where
    by : (b : Bool)
        → KeepsOwned w (world_after w (if b then rule_of w event else Err NotAllowed))
    by true = h
    by false = (refl, λ c. refl)

pub unpass_after : (w : State) (event : Event) → is_unpass event ≡ true
    → KeepsOwned w (after w event)
unpass_after w (events.Unpass client slot) is =
    event_keeps w (events.Unpass client slot) (unpass_keeps w client slot)
unpass_after w other is = cc

-- What settles changes no slot.

slots_keep : (w : State) (client : ℕ) → KeepsOwned w (world_after w (slots_of w client))
unfolding slots_of
slots_keep w client =
    on_the_way w (live_at w client) _ (λ found live.
    on_the_way w (allow (nat_lt 0 found.freed_slots))
    (λ u. Ok (
      replies.Ok,
      with_client w client
          (record found { freed_slots = 0; place = place_granted found.place }),
    )) (λ u may. (
      refl,
      λ c. read_same (option_map (λ (z : Client). z.owned)) w.clients client c found
          (record found { freed_slots = 0; place = place_granted found.place })
          (live_ok w client found live) refl,
    )))

settle_keeps : (w : State) (client : ℕ) → KeepsOwned w (world_after w (settle_of w client))
unfolding settle_of
settle_keeps w client =
    on_the_way w (live_at w client) _ (λ found live.
    on_the_way w (allow (may_settle found))
    (λ u. Ok (
      replies.Ok,
      with_client w client
          (record found { granted = found.granted + found.needed; needed = 0; freed = 0 }),
    )) (λ u may. (
      refl,
      λ c. read_same (option_map (λ (z : Client). z.owned)) w.clients client c found
          (record found { granted = found.granted + found.needed; needed = 0; freed = 0 })
          (live_ok w client found live) refl,
    )))

pub settling_after : (w : State) (event : Event) → is_settling event ≡ true
    → KeepsOwned w (after w event)
settling_after w (events.Slots client) is =
    event_keeps w (events.Slots client) (slots_keep w client)
settling_after w (events.Settle client) is =
    event_keeps w (events.Settle client) (settle_keeps w client)
settling_after w other is = cc

-- To empty the slot that the client took changes nothing of what is shown.
pub empty_tells : (w next : State) (client slot builder strays : ℕ)
    → outcome_of w (events.Empty client) ≡ Ok (replies.Ok, next)
    → slice_get w.slots slot ≡ Some (slots.Building builder strays)
    → owned_at w client ≡ Some (owned.ForFreeing slot)
    → (s : ℕ) → shown_at next s ≡ shown_at w s
unfolding empty_of
empty_tells w next client slot builder strays is at owns s =
    let first = bound (live_at w client) _ _ (ruled w (events.Empty client) _ is) in
    let second = bound _ _ _ first.2 in
    let third = bound (allow (has_no_member first.0.trail)) _ _ second.2 in
    by first.0 second.0 (live_ok w client first.0 first.1) (found_ok _ _ second.0 second.1)
    (ap (λ z. z.1) (same_outcome _ _ third.2))
  where
    by : (found : Client) (there : ℕ) → slice_get w.clients client ≡ Some found
        → freed_by found.owned ≡ Some there
        → with_both w there (slots.Empty 0) client (record found { owned = owned.Nothing }) ≡ next
        → shown_at next s ≡ shown_at w s
    by found there live freed left =
        let mine : Some found.owned ≡ Some (owned.ForFreeing slot) =
        sym (ap (option_map (λ (c : Client). c.owned)) live) ∙ owns in
        let own : found.owned ≡ owned.ForFreeing slot = cc in
        let both : Some there ≡ Some slot = sym freed ∙ ap freed_by own in
        let here : there ≡ slot = cc in
        ap (λ z. shown_at z s) (sym left)
        ∙ read_same (option_and_then entry_shown) w.slots there s (slots.Building builder strays)
        (slots.Empty 0) (subst (λ n. slice_get w.slots n ≡ Some (slots.Building builder strays))
        (sym here) at) refl

-- What taking a slot, building an entry there and showing it leave of what a world shows.
use Rattle.std.proofs.Common.{◌≡◌, ◌≢◌, ◌++◌, ℕ, true, false, List, [], ◌∷◌, Option, Some, None, Ok, length, nat_lt, option_map, slice_get, slice_set, sym, refl, ap, ◌∙◌, subst}
use Rattle.std.specs.Option.{ok_or}
use Rattle.std.specs.Prelude.{option_and_then, if◌then◌else◌}
use Rattle.hcc_word.specs.Word.{is_empty, is_visible}
use Rattle.hcc_core.specs.declared.client.Client.{Client}
use Rattle.hcc_core.specs.declared.client.Owned.TheVariants as owned
use Rattle.hcc_core.specs.declared.event.CoreError.TheVariants.{NotAllowed}
use Rattle.hcc_core.specs.declared.event.Event.{Event}
use Rattle.hcc_core.specs.declared.event.Event.TheVariants as events
use Rattle.hcc_core.specs.declared.event.Phase.{Phase}
use Rattle.hcc_core.specs.declared.event.Reply.{Reply}
use Rattle.hcc_core.specs.declared.event.Reply.TheVariants as replies
use Rattle.hcc_core.specs.declared.slot.Entry.{Entry}
use Rattle.hcc_core.specs.declared.slot.Reference.{Reference}
use Rattle.hcc_core.specs.declared.slot.Slot.{Slot}
use Rattle.hcc_core.specs.declared.slot.Slot.TheVariants as slots
use Rattle.hcc_core.specs.Entries.{built_by, client_shown, is_building, may_show, occupied, resident_new, show_of, write_of}
use Rattle.hcc_core.specs.Outcomes.{allow, holding, live_at, slot_at, with_both, with_client}
use Rattle.hcc_core.specs.References.{counting_in, look_of, slot_used, use_of}
use Rattle.hcc_core.specs.Runs.{after, after_all, world_after}
use Rattle.hcc_core.specs.Steps.{outcome_of}
use Rattle.hcc_core.specs.Trails.{pass_of}
use Rattle.hcc_core.specs.World.{State, owns_nothing, phase_of, references_of}
use Rattle.hcc_core.proofs.Keeps.{found_ok, live_ok}
use Rattle.hcc_core.proofs.ListLemmas.{read_here, read_other, read_same}
use Rattle.hcc_rule.specs.declared.view.Done.{Done}
use Rattle.hcc_rule.specs.Acts.{events_of}
use Rattle.hcc_rule.specs.Events.{phase_in}
use Rattle.hcc_rule.specs.Views.{Each}
use Rattle.hcc_table.specs.Seeking.{is_write}
use Rattle.hcc_table.specs.Standing.{entry_shown, shown_at}
use Rattle.hcc_table.proofs.Shown.{bound, ruled, same_outcome, same_phase, unshown_phase}
use Rattle.hcc_table.proofs.Unshown.{KeepsOwned, each_keeps, event_keeps, on_the_way, owned_at}

-- A look: the slot has this phase, and the world stays.
looked_tells : (w : State) {next : State} (client slot : ℕ) {p : Phase} {seen : Slot}
    → slice_get w.slots slot ≡ Some seen
    → look_of w client slot ≡ Ok (replies.Saw p, next)
    → (phase_of seen ≡ p) × (w.slots ≡ next.slots)
looked_tells w client slot {p} {seen} at is =
    let first = bound (slot_at w slot) _ _ is in
    let second = bound (live_at w client) _ _ first.2 in
    let there : Some first.0 ≡ Some seen = sym (found_ok _ _ first.0 first.1) ∙ at in
    let same : first.0 ≡ seen = cc in
    let both = same_outcome _ _ second.2 in (
      ap phase_of (sym same) ∙ same_phase (ap (λ z. z.0) both),
      ap (λ z. z.1.slots) both,
    )

-- An occupy of a slot that isn't empty changes nothing of what is shown. What isn't visible shows
-- nothing.
pub occupy_tells : (w next : State) (client slot word : ℕ)
    → outcome_of w (events.Occupy client slot)
    ≡ Ok ((if is_empty word then replies.Taken else replies.Saw (phase_in word)), next)
    → is_empty word ≡ false
    → ((s : ℕ) → shown_at next s ≡ shown_at w s)
    × (is_visible word ≡ false → shown_at next slot ≡ None)
occupy_tells w next client slot word is taken =
    let first = bound (slot_at w slot) _ _ (ruled w (events.Occupy client slot) _ is) in
    let second = bound (live_at w client) _ _ first.2 in
    let third = bound (allow (owns_nothing second.0.owned)) _ _ second.2 in
    by second.0 first.0 (found_ok _ _ first.0 first.1)
    (subst (λ b. occupied w client second.0 slot first.0
    ≡ Ok ((if b then replies.Taken else replies.Saw (phase_in word)), next)) taken third.2)
  where
    stays : (seen : Slot) → slice_get w.slots slot ≡ Some seen
        → look_of w client slot ≡ Ok (replies.Saw (phase_in word), next)
        → ((s : ℕ) → shown_at next s ≡ shown_at w s)
        × (is_visible word ≡ false → shown_at next slot ≡ None)
    stays seen at look =
        let told = looked_tells w client slot at look in (
          λ s. ap (λ xs. option_and_then entry_shown (slice_get xs s)) (sym told.1),
          λ off.
              ap (λ xs. option_and_then entry_shown (slice_get xs slot)) (sym told.1)
              ∙ ap (option_and_then entry_shown) at
              ∙ unshown_phase w next client slot word seen (sym told.0) off,
        )

    by : (found : Client) (seen : Slot) → slice_get w.slots slot ≡ Some seen
        → occupied w client found slot seen ≡ Ok (replies.Saw (phase_in word), next)
        → ((s : ℕ) → shown_at next s ≡ shown_at w s)
        × (is_visible word ≡ false → shown_at next slot ≡ None)
    by found (slots.Empty strays) at reply =
        let wrong : replies.Taken ≡ replies.Saw (phase_in word) =
        ap (λ z. z.0) (same_outcome _ _ reply) in
        absurd (let never : ⊥ = cc in never)
    by found (slots.Building other strays) at reply = stays (slots.Building other strays) at reply
    by found (slots.Shareable r) at reply = stays (slots.Shareable r) at reply

-- An occupy of an empty slot: it showed nothing, and is the client's to build then.
pub taken_tells : (w next : State) (client slot word : ℕ)
    → outcome_of w (events.Occupy client slot)
    ≡ Ok ((if is_empty word then replies.Taken else replies.Saw (phase_in word)), next)
    → is_empty word ≡ true
    → (shown_at w slot ≡ None) × ((s : ℕ) → shown_at next s ≡ shown_at w s)
    × ((left : Slot) × (slice_get next.slots slot ≡ Some left))
    × (owned_at next client ≡ Some (owned.ForBuilding slot))
taken_tells w next client slot word is empty =
    let first = bound (slot_at w slot) _ _ (ruled w (events.Occupy client slot) _ is) in
    let second = bound (live_at w client) _ _ first.2 in
    let third = bound (allow (owns_nothing second.0.owned)) _ _ second.2 in
    by second.0 first.0 (found_ok _ _ first.0 first.1) (live_ok w client second.0 second.1)
    (subst (λ b. occupied w client second.0 slot first.0
    ≡ Ok ((if b then replies.Taken else replies.Saw (phase_in word)), next)) empty third.2)
  where
    never : (seen : Slot) → slice_get w.slots slot ≡ Some seen
        → look_of w client slot ≡ Ok (replies.Taken, next) → ⊥
    never seen at look =
        let first = bound (slot_at w slot) _ _ look in
        let second = bound (live_at w client) _ _ first.2 in
        let reply : replies.Saw (phase_of first.0) ≡ replies.Taken =
        ap (λ z. z.0) (same_outcome _ _ second.2) in
        cc

    by : (found : Client) (seen : Slot) → slice_get w.slots slot ≡ Some seen
        → slice_get w.clients client ≡ Some found
        → occupied w client found slot seen ≡ Ok (replies.Taken, next)
        → (shown_at w slot ≡ None) × ((s : ℕ) → shown_at next s ≡ shown_at w s)
        × ((left : Slot) × (slice_get next.slots slot ≡ Some left))
        × (owned_at next client ≡ Some (owned.ForBuilding slot))
    by found (slots.Building other strays) at live reply =
        absurd (never (slots.Building other strays) at reply)
    by found (slots.Shareable r) at live reply = absurd (never (slots.Shareable r) at reply)
    by found (slots.Empty strays) at live reply =
        let left : with_both w slot (slots.Building client strays) client
        (record found { owned = owned.ForBuilding slot }) ≡ next =
        ap (λ z. z.1) (same_outcome _ _ reply) in (
          ap (option_and_then entry_shown) at,
          λ s. ap (λ z. shown_at z s) (sym left)
              ∙ read_same (option_and_then entry_shown) w.slots slot s (slots.Empty strays)
              (slots.Building client strays) at refl,
          (
            slots.Building client strays,
            ap (λ (z : State). slice_get z.slots slot) (sym left)
                ∙ read_here w.slots slot (slots.Empty strays) (slots.Building client strays) at,
          ),
          ap (λ z. owned_at z client) (sym left)
              ∙ ap (option_map (λ (c : Client). c.owned))
              (read_here w.clients client found (record found { owned = owned.ForBuilding slot })
              live),
        )

-- A slot that joins a trail changes no slot.
pass_keeps : (w : State) (client slot : ℕ) → KeepsOwned w (world_after w (pass_of w client slot))
unfolding pass_of
pass_keeps w client slot =
    on_the_way w (slot_at w slot) _ (λ seen at. on_the_way w (live_at w client) _ (λ found live.
    on_the_way w (allow (nat_lt (length found.trail) w.setup.slots))
    (λ u. Ok (replies.Ok, with_client w client (record found { trail = found.trail ++ slot ∷ [] })))
    (λ u may. (
      refl,
      λ c. read_same (option_map (λ (z : Client). z.owned)) w.clients client c found
          (record found { trail = found.trail ++ slot ∷ [] }) (live_ok w client found live) refl,
    ))))

pub passed_keeps : (w : State) {next : State} (client slot : ℕ) {reply : Reply}
    → outcome_of w (events.Pass client slot) ≡ Ok (reply, next)
    → (s : ℕ) → shown_at next s ≡ shown_at w s
passed_keeps w client slot is s =
    ap (λ o. shown_at (world_after w o) s) (sym is)
    ∙ ap (λ xs. option_and_then entry_shown (slice_get xs s))
    (event_keeps w (events.Pass client slot) (pass_keeps w client slot)).0

-- Writes change nothing.
write_keeps : (w : State) (client : ℕ) → KeepsOwned w (world_after w (write_of w client))
write_keeps w client =
    on_the_way w (live_at w client) _ (λ found live.
    on_the_way w (allow (is_building found.owned)) (λ u. Ok (replies.Ok, w))
    (λ u may. (refl, λ c. refl)))

pub write_after : (w : State) (event : Event) → is_write event ≡ true → KeepsOwned w (after w event)
write_after w (events.Write client) is = event_keeps w (events.Write client) (write_keeps w client)
write_after w other is = cc

pub writes_keep : (ds : List Done) → Each (λ (done : Done). is_write done.event ≡ true) ds
    → (w : State) → KeepsOwned w (after_all w (events_of ds))
writes_keep = each_keeps write_after

-- A use changes nothing of what is shown.
used_shows : (client name : ℕ) (k : Reference) (seen : Slot)
    → entry_shown (slot_used client name k seen) ≡ entry_shown seen
used_shows client name k (slots.Empty strays) = refl
used_shows client name k (slots.Building other strays) = refl
used_shows client name k (slots.Shareable r) = refl

pub use_tells : (w next : State) (client name : ℕ) (reply : Reply)
    → outcome_of w (events.Use client name) ≡ Ok (reply, next)
    → (s : ℕ) → shown_at next s ≡ shown_at w s
unfolding use_of
use_tells w next client name reply is s =
    let first = bound (live_at w client) _ _ (ruled w (events.Use client name) _ is) in
    let second = bound (holding w client name) _ _ first.2 in
    let third = bound (slot_at w second.0) _ _ second.2 in
    let fourth = bound (ok_or (counting_in client name (references_of third.0)) NotAllowed) _ _
    third.2 in
    ap (λ z. shown_at z s) (sym (ap (λ z. z.1) (same_outcome _ _ fourth.2)))
    ∙ read_same (option_and_then entry_shown) w.slots second.0 s third.0
    (slot_used client name fourth.0 third.0) (found_ok _ _ third.0 third.1)
    (used_shows client name fourth.0 third.0)

-- The slot that the client builds shows the entry of a show.
pub show_tells : (w next : State) (client key0 key1 charge countdown : ℕ) (name : Option ℕ)
    (value : List ℕ) (slot : ℕ) (built : Slot) (reply : Reply)
    → outcome_of w (events.Show client key0 key1 charge countdown name value) ≡ Ok (reply, next)
    → owned_at w client ≡ Some (owned.ForBuilding slot) → slice_get w.slots slot ≡ Some built
    → ((e : Entry) × (shown_at next slot ≡ Some e) × (e.key0 ≡ key0) × (e.key1 ≡ key1))
    × ((s : ℕ) → s ≢ slot → shown_at next s ≡ shown_at w s)
unfolding show_of
show_tells w next client key0 key1 charge countdown name value slot built reply is owns at =
    let first = bound (live_at w client) _ _
    (ruled w (events.Show client key0 key1 charge countdown name value) _ is) in
    let second = bound _ _ _ first.2 in
    let third = bound (allow (may_show w.slots client first.0 charge countdown name)) _ _ second.2
    in
    by first.0 second.0 (live_ok w client first.0 first.1) (found_ok _ _ second.0 second.1)
    (ap (λ z. z.1) (same_outcome _ _ third.2))
  where
    by : (found : Client) (there : ℕ) → slice_get w.clients client ≡ Some found
        → built_by found.owned ≡ Some there
        → with_both w there
        (slots.Shareable (resident_new client found key0 key1 charge countdown name value)) client
        (client_shown charge found) ≡ next
        → ((e : Entry) × (shown_at next slot ≡ Some e) × (e.key0 ≡ key0) × (e.key1 ≡ key1))
        × ((s : ℕ) → s ≢ slot → shown_at next s ≡ shown_at w s)
    by found there live builds left =
        let mine : Some found.owned ≡ Some (owned.ForBuilding slot) =
        sym (ap (option_map (λ (c : Client). c.owned)) live) ∙ owns in
        let own : found.owned ≡ owned.ForBuilding slot = cc in
        let both : Some there ≡ Some slot = sym builds ∙ ap built_by own in
        let here : there ≡ slot = cc in
        let made = slots.Shareable
        (resident_new client found key0 key1 charge countdown name value) in (
          (
            (resident_new client found key0 key1 charge countdown name value).entry,
            ap (λ z. shown_at z slot) (sym left)
                ∙ ap (λ n. option_and_then entry_shown (slice_get (slice_set w.slots n made) slot))
                here
                ∙ ap (option_and_then entry_shown) (read_here w.slots slot built made at),
            refl,
            refl,
          ),
          λ s other. ap (λ z. shown_at z s) (sym left)
              ∙ ap (option_and_then entry_shown)
              (read_other w.slots there s made (λ e. other (e ∙ here))),
        )

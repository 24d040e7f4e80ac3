-- The or of the occupied bit: an empty slot is taken, and any other is looked at.
use Rattle.std.proofs.Common.{◌≡◌, ℕ, ◌+◌, ◌^◌, ◌<◌, true, false, List, [], Some, Ok, slice_get, slice_index, bit_or, refl, ap, ◌∙◌, arith, Option, cond, sym}
use mathlib.Core.Option.{none}
use Rattle.atomic_table.specs.Table.{step}
use Rattle.hcc_word.specs.declared.layout.TheConstants.{OCCUPIED_BIT}
use Rattle.hcc_word.specs.Word.{is_empty}
use Rattle.hcc_word.proofs.CodeLaws.{is_empty-empty, is_empty-building, is_empty-shareable}
use Rattle.hcc_word.proofs.StepLaws.{or_occupied-empty, or_occupied-building, or_occupied-shareable}
use Rattle.hcc_core.specs.declared.event.Event.{Event}
use Rattle.hcc_core.specs.declared.event.Event.TheVariants as events
use Rattle.hcc_core.specs.declared.event.Reply.{Reply}
use Rattle.hcc_core.specs.declared.event.Reply.TheVariants as replies
use Rattle.hcc_core.specs.declared.client.Client.{Client}
use Rattle.hcc_core.specs.declared.client.Owned.TheVariants as owned
use Rattle.hcc_core.specs.declared.slot.Resident.{Resident}
use Rattle.hcc_core.specs.declared.slot.Slot.{Slot}
use Rattle.hcc_core.specs.declared.slot.Slot.TheVariants as slots
use Rattle.hcc_core.specs.World.{State, phase_of, owns_nothing}
use Rattle.hcc_core.specs.Outcomes.{with_both}
use Rattle.hcc_core.specs.References.{client_looked}
use Rattle.hcc_core.specs.Steps.{outcome_of}
use Rattle.hcc_core.specs.Lawful.{Lawful}
use Rattle.hcc_core.proofs.ListLemmas.{set_same}
use Rattle.hcc_core.proofs.Opening.{is_lawful}
use Rattle.hcc_rule.specs.declared.key.Key.{Key}
use Rattle.hcc_rule.specs.declared.layout.TheConstants.{META}
use Rattle.hcc_rule.specs.declared.rule.Plan.{Plan}
use Rattle.hcc_rule.specs.declared.view.View.{View}
use Rattle.hcc_rule.specs.Told.{Held}
use Rattle.hcc_rule.specs.Looked.{after_look}
use Rattle.hcc_rule.specs.ToldOwners.{after_occupy, occupies}
use Rattle.hcc_rule.specs.Views.{is_seated}
use Rattle.hcc_rule.specs.Words.{field_at, code_of}
use Rattle.hcc_rule.specs.Rule.{Holds}
use Rattle.hcc_rule.proofs.Basics.Lists.{within, read_at}
use Rattle.hcc_rule.proofs.Parts.Codes.{few_strays, is_near, tells_entry, tells_phase}
use Rattle.hcc_rule.proofs.Parts.Clients.{dead_told}
use Rattle.hcc_rule.proofs.References.Looks.{slot_fits, client_fits, slot_there, backed, looks_there}
use Rattle.hcc_rule.proofs.Parts.Tags.{not_building}
use Rattle.hcc_rule.proofs.Parts.Owners.{owned_step}
use Rattle.hcc_rule.proofs.Parts.SlotSteps.{Shard}
use Rattle.hcc_rule.proofs.Parts.Touches.{by_client, touched, goes, client_is, live_is}
use Rattle.hcc_rule.specs.Acts.{Acts, Goes, did}
use Rattle.hcc_rule.specs.declared.view.Done.{Done}
use Rattle.hcc_rule.specs.Events.{phase_in}

-- an empty slot is taken
occupy_takes : (w : State) (c i strays : ℕ) (found : Client) → Lawful w
    → slice_get w.slots i ≡ Some (slots.Empty strays) → slice_get w.clients c ≡ Some found
    → found.live ≡ true → owns_nothing found.owned ≡ true
    → outcome_of w (events.Occupy c i) ≡ Ok (
      replies.Taken,
      with_both w i (slots.Building c strays) c
          (record found { owned = owned.ForBuilding i }),
    )
unfolding outcome_of
occupy_takes w c i strays found l at_slot at_client live free =
    rw (
      client_fits w c l (within w.clients c found at_client),
      slot_fits w i l
          (within w.slots i (slots.Empty strays) at_slot),
      at_slot,
      at_client,
      live,
      free,
    ) refl

-- any other is looked at
occupy_looks_building : (w : State) (c i d strays : ℕ) (found : Client) → Lawful w
    → slice_get w.slots i ≡ Some (slots.Building d strays) → slice_get w.clients c ≡ Some found
    → found.live ≡ true → owns_nothing found.owned ≡ true
    → outcome_of w (events.Occupy c i) ≡ Ok (
      replies.Saw (phase_of (slots.Building d strays)),
      with_both w i (slots.Building d strays) c
          (client_looked c i (slots.Building d strays) found),
    )
unfolding outcome_of
occupy_looks_building w c i d strays found l at_slot at_client live free =
    rw (
      client_fits w c l (within w.clients c found at_client),
      slot_fits w i l
          (within w.slots i (slots.Building d strays) at_slot),
      at_slot,
      at_client,
      live,
      free,
    )
    (rw (at_slot, set_same w.slots i (slots.Building d strays) at_slot) refl)

occupy_looks_entry : (w : State) (c i : ℕ) (k : Resident) (found : Client) → Lawful w
    → slice_get w.slots i ≡ Some (slots.Shareable k) → slice_get w.clients c ≡ Some found
    → found.live ≡ true → owns_nothing found.owned ≡ true
    → outcome_of w (events.Occupy c i) ≡ Ok (
      replies.Saw (phase_of (slots.Shareable k)),
      with_both w i (slots.Shareable k) c
          (client_looked c i (slots.Shareable k) found),
    )
unfolding outcome_of
occupy_looks_entry w c i k found l at_slot at_client live free =
    rw (
      client_fits w c l (within w.clients c found at_client),
      slot_fits w i l
          (within w.slots i (slots.Shareable k) at_slot),
      at_slot,
      at_client,
      live,
      free,
    )
    (rw (at_slot, set_same w.slots i (slots.Shareable k) at_slot) refl)

module _ {T : Type 0} (fits : T → Key → List ℕ → Type 0) (p : Plan T) where
  -- What the cases share.
  module _ (s : Shard fits p) (r : Holds fits p s) (id i a : ℕ) (me : Held T)
      (at : slice_get s.views id ≡ Some me.0) (seated : is_seated me.0 ≡ true)
      (address : a ≡ field_at p.geometry.room i META) where
    abbrev word : ℕ
    word = slice_index s.words a

    abbrev then : ℕ → Held T → Option Done → Type 0
    then = occupies i (step 0 a OCCUPIED_BIT 0 none) me

    abbrev Next : Type 0
    Next = Goes fits p s r a (bit_or word OCCUPIED_BIT) id me then

    -- A slot that isn't empty is looked at.
    sees : (t : Slot) → slice_get r.world.slots i ≡ Some t
        → bit_or (code_of t) OCCUPIED_BIT ≡ code_of t → is_empty (code_of t) ≡ false
        → outcome_of r.world (events.Occupy me.0.client i)
        ≡ Ok (
          replies.Saw (phase_of t),
          with_both r.world i t me.0.client
              (client_looked me.0.client i t me.0.work),
        )
        → Next
    sees t at_slot stays full allowed =
        goes fits p s r a (bit_or word OCCUPIED_BIT) id i me new t t event reply then address
        (ap (λ y. bit_or y OCCUPIED_BIT) word_is ∙ stays) (refl, refl)
        (touched fits p s r id i me.0 new t t event reply record {
          at_view = at;
          at_slot = at_slot;
          seated = seated;
          same = record { tag = refl; client = refl; others = refl; turns = refl; glimpse = refl };
          work = refl;
          store = record { written = refl; made = refl; takings = refl; gone = refl };
          allowed = by_client r.world event reply i me.0.client t
              (client_looked me.0.client i t me.0.work) new.work becomes allowed;
          like = record { entry = refl; trail = refl };
          here = λ h. refl;
          elsewhere = λ j h other. refl;
          holding = let old = r.holding id me.0 at in record
              { recorded = old.recorded; once = old.once; few = old.few };
          looked = looks_there r.world (is_lawful r.world r.lawful) i t word me.0 at_slot word_is;
        }) (
          refl,
          told,
          backed fits p s r id i word me.0 t at_slot at word_is,
          ap (λ answer. Some (did event answer)) (sym answered),
        )
      where
        event : Event
        event = events.Occupy me.0.client i

        reply : Reply
        reply = replies.Saw (phase_of t)

        new : View T
        new = record (after_look i word me.0) { saw = me.0.saw + 1 }

        word_is : word ≡ code_of t
        word_is = ap (slice_index s.words) address ∙ r.coded.meta i t at_slot

        told : new ≡ after_occupy i word me.0
        told = let no : is_empty word ≡ false = ap is_empty word_is ∙ full in rw no refl

        -- the reply is what the word tells
        answered : cond (is_empty word) replies.Taken (replies.Saw (phase_in word)) ≡ reply
        answered =
            ap (λ b. cond b replies.Taken (replies.Saw (phase_in word)))
            (ap is_empty word_is ∙ full)
            ∙ ap replies.Saw (ap phase_in word_is
            ∙ tells_phase r.world (is_lawful r.world r.lawful) i t at_slot)

        becomes : client_looked me.0.client i t me.0.work ≡ new.work
        becomes =
            let l = is_lawful r.world r.lawful in
            let dead = dead_told p.tag r.world r.books s.views id i me.0 t l r.references r.seats
            (r.holding id me.0 at).recorded at seated at_slot in
            rw (word_is, dead, tells_entry r.world l i t at_slot) refl

    -- An empty one is the client's to build.
    takes : (strays : ℕ) → slice_get r.world.slots i ≡ Some (slots.Empty strays)
        → owns_nothing me.0.work.owned ≡ true → Next
    takes strays at_slot free =
        goes fits p s r a (bit_or word OCCUPIED_BIT) id i me new t left event replies.Taken then
        address
        (ap (λ y. bit_or y OCCUPIED_BIT) word_is
        ∙ or_occupied-empty strays (let few = low in omega arith)) (refl, refl)
        (owned_step fits p s r id i me.0 new t left event replies.Taken record {
          at_view = at;
          at_slot = at_slot;
          seated = seated;
          same = record { tag = refl; client = refl; others = refl; turns = refl; glimpse = refl };
          work = refl;
          store = record {
            records = refl;
            made = refl;
            takings = refl;
            gone = refl;
            written = refl;
          };
          allowed = occupy_takes r.world me.0.client i strays me.0.work l at_slot
              (client_is fits p s r id me.0 at seated) (live_is fits p s r id me.0 at seated) free;
          bare = refl;
          left_bare = refl;
          free = λ slot. not_building me.0.work.owned slot free;
        }) (
          refl,
          told,
          backed fits p s r id i word me.0 t at_slot at word_is,
          ap (λ b. Some (did event (cond b replies.Taken (replies.Saw (phase_in word)))))
              (sym empty),
        )
      where
        l : Lawful r.world
        l = is_lawful r.world r.lawful

        t : Slot
        t = slots.Empty strays

        left : Slot
        left = slots.Building me.0.client strays

        event : Event
        event = events.Occupy me.0.client i

        new : View T
        new = record me.0 { work = record me.0.work { owned = owned.ForBuilding i }; written = [] }

        word_is : word ≡ code_of t
        word_is = ap (slice_index s.words) address ∙ r.coded.meta i t at_slot

        low : strays + 3 < 2 ^ 30
        low = few_strays r.world l i t at_slot

        empty : is_empty word ≡ true
        empty = ap is_empty word_is ∙ is_empty-empty strays (let few = low in omega arith)

        told : new ≡ after_occupy i word me.0
        told = let yes = empty in rw yes refl

    by : (t : Slot) → slice_get r.world.slots i ≡ Some t → owns_nothing me.0.work.owned ≡ true
        → Next
    by (slots.Empty strays) at_slot free = takes strays at_slot free
    by (slots.Building d strays) at_slot free =
        let l = is_lawful r.world r.lawful in
        let few = few_strays r.world l i (slots.Building d strays) at_slot in
        sees (slots.Building d strays) at_slot (or_occupied-building strays (omega arith))
        (is_empty-building strays (omega arith))
        (occupy_looks_building r.world me.0.client i d strays me.0.work l at_slot
        (client_is fits p s r id me.0 at seated) (live_is fits p s r id me.0 at seated) free)
    by (slots.Shareable k) at_slot free =
        let l = is_lawful r.world r.lawful in
        let near = is_near r.world l i k at_slot in
        sees (slots.Shareable k) at_slot (or_occupied-shareable k.hit k.shown near)
        (is_empty-shareable k.hit k.shown near)
        (occupy_looks_entry r.world me.0.client i k me.0.work l at_slot
        (client_is fits p s r id me.0 at seated) (live_is fits p s r id me.0 at seated) free)

  -- The or of the occupied bit keeps the rule, and tells what it found.
  pub occupy_step : (count id i a : ℕ) (me : Held T) → i < p.geometry.slots → is_seated me.0 ≡ true
      → owns_nothing me.0.work.owned ≡ true → a ≡ field_at p.geometry.room i META
      → Acts fits p count id me a (λ y. bit_or y OCCUPIED_BIT)
      (occupies i (step count a OCCUPIED_BIT 0 none) me)
  occupy_step count id i a me near seated free address s r homes at low =
      let slot = slot_there fits p s r i near in
      by s r id i a me (read_at s.views id me.0 at) seated address slot.0 slot.1 free

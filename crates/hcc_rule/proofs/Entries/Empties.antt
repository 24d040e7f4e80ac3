-- The store that empties a slot: the slot that was taken to be freed is given back.
use Rattle.std.proofs.Common.{◌≡◌, ℕ, ◌<◌, true, List, [], Some, Ok, slice_get, sym, refl, ap, ◌∙◌, Option}
use mathlib.Core.Option.{none}
use Rattle.atomic_table.specs.Table.{step}
use Rattle.hcc_word.specs.declared.layout.TheConstants.{EMPTY_WORD}
use Rattle.hcc_word.proofs.StepLaws.{store_empty}
use Rattle.hcc_core.specs.declared.event.Event.TheVariants as events
use Rattle.hcc_core.specs.declared.event.Reply.TheVariants as replies
use Rattle.hcc_core.specs.declared.client.Client.{Client}
use Rattle.hcc_core.specs.declared.client.Owned.TheVariants as owned
use Rattle.hcc_core.specs.declared.slot.Slot.{Slot}
use Rattle.hcc_core.specs.declared.slot.Slot.TheVariants as slots
use Rattle.hcc_core.specs.World.{State}
use Rattle.hcc_core.specs.Outcomes.{with_both, has_no_member}
use Rattle.hcc_core.specs.Entries.{freed_by}
use Rattle.hcc_core.specs.Steps.{outcome_of}
use Rattle.hcc_core.specs.Lawful.{Lawful, owner_of, owner_in, owned_slot, owned_by}
use Rattle.hcc_core.proofs.Opening.{is_lawful}
use Rattle.hcc_core.proofs.StepLemmas.{empty_gives}
use Rattle.hcc_rule.specs.declared.key.Key.{Key}
use Rattle.hcc_rule.specs.declared.layout.TheConstants.{META}
use Rattle.hcc_rule.specs.declared.rule.Plan.{Plan}
use Rattle.hcc_rule.specs.declared.view.View.{View}
use Rattle.hcc_rule.specs.Told.{Held}
use Rattle.hcc_rule.specs.ToldOwners.{after_empty, empties}
use Rattle.hcc_rule.specs.Views.{is_seated}
use Rattle.hcc_rule.specs.Words.{field_at}
use Rattle.hcc_rule.specs.Rule.{Holds}
use Rattle.hcc_rule.proofs.Basics.Lists.{within, read_at}
use Rattle.hcc_rule.proofs.References.Looks.{client_fits, slot_there}
use Rattle.hcc_rule.proofs.Parts.Owners.{owned_step}
use Rattle.hcc_rule.proofs.Parts.SlotSteps.{Shard}
use Rattle.hcc_rule.proofs.Parts.Touches.{goes, client_is, live_is}
use Rattle.hcc_rule.specs.Acts.{Acts, Goes}
use Rattle.hcc_rule.specs.declared.view.Done.{Done}

-- an owner may empty the slot that it took to free
empty_allowed : (w : State) (c i : ℕ) (found : Client) → Lawful w
    → slice_get w.clients c ≡ Some found
    → found.live ≡ true → found.owned ≡ owned.ForFreeing i → found.trail ≡ []
    → outcome_of w (events.Empty c) ≡ Ok
    (replies.Ok, with_both w i (slots.Empty 0) c (record found { owned = owned.Nothing }))
unfolding outcome_of
empty_allowed w c i found l at_client live owns back =
    rw (client_fits w c l (within w.clients c found at_client))
    (empty_gives w c i found (record found { owned = owned.Nothing }) at_client live
    (ap freed_by owns) (ap has_no_member back) refl)

module _ {T : Type 0} (fits : T → Key → List ℕ → Type 0) (p : Plan T) where
  module _ (s : Shard fits p) (r : Holds fits p s) (id i : ℕ) (v : View T)
      (at : slice_get s.views id ≡ Some v) (seated : is_seated v ≡ true) where
    -- a slot that the seat's client owns is under construction by it
    pub owner_there : (t : Slot) → owned_slot v.work.owned ≡ Some i
        → slice_get r.world.slots i ≡ Some t
        → owner_of t ≡ Some v.client
    owner_there t owns at_slot =
        let owned : owned_by (slice_get r.world.clients v.client) ≡ Some i =
        ap owned_by (client_is fits p s r id v at seated) ∙ owns in
        sym (ap owner_in at_slot) ∙ (is_lawful r.world r.lawful).owners.owned i v.client owned

  -- The owner's store keeps the rule.
  pub empty_step : (count id i a : ℕ) (me : Held T) → i < p.geometry.slots → is_seated me.0 ≡ true
      → me.0.work.owned ≡ owned.ForFreeing i → me.0.work.trail ≡ []
      → a ≡ field_at p.geometry.room i META
      → Acts fits p count id me a (λ y. EMPTY_WORD)
      (λ y. empties (step count a EMPTY_WORD 0 none) me EMPTY_WORD)
  empty_step count id i a me near seated owns back address s r homes at low =
      let slot = slot_there fits p s r i near in
      by slot.0 slot.1 (owner_there s r id i me.0 at_view seated slot.0 (ap owned_slot owns) slot.1)
    where
      at_view : slice_get s.views id ≡ Some me.0
      at_view = read_at s.views id me.0 at

      then : ℕ → Held T → Option Done → Type 0
      then y = empties (step count a EMPTY_WORD 0 none) me EMPTY_WORD

      by : (t : Slot) → slice_get r.world.slots i ≡ Some t → owner_of t ≡ Some me.0.client
          → Goes fits p s r a EMPTY_WORD id me then
      by (slots.Empty strays) at_slot owner = cc
      by (slots.Shareable k) at_slot owner = cc
      by (slots.Building d strays) at_slot owner =
          goes fits p s r a EMPTY_WORD id i me (after_empty me.0) (slots.Building d strays)
          (slots.Empty 0) (events.Empty me.0.client) replies.Ok then address store_empty
          (refl, refl)
          (owned_step fits p s r id i me.0 (after_empty me.0) (slots.Building d strays)
          (slots.Empty 0) (events.Empty me.0.client) replies.Ok record {
            at_view = at_view;
            at_slot = at_slot;
            seated = seated;
            same =
                record { tag = refl; client = refl; others = refl; turns = refl; glimpse = refl };
            work = refl;
            store = record {
              records = refl;
              made = refl;
              takings = refl;
              gone = refl;
              written = refl;
            };
            allowed = empty_allowed r.world me.0.client i me.0.work (is_lawful r.world r.lawful)
                (client_is fits p s r id me.0 at_view seated)
                (live_is fits p s r id me.0 at_view seated) owns back;
            bare = refl;
            left_bare = refl;
            free = λ slot is. let bad = sym owns ∙ is in cc;
          })
          (refl, refl, refl)

-- The opening world is lawful, and the name that tactics do not open.
use Rattle.std.proofs.Common.{refl, arith, ◌⊎◌, inl, inr, true, Option, None, Some, sym, ap, ◌∙◌}
use Rattle.std.proofs.Common.{replicate, slice_get, ◌≡◌, ℕ}
use Rattle.std.proofs.lemmas.Bool.{false≢true}
use Rattle.hcc_core.specs.declared.slot.Stamp.{Stamp}
use Rattle.std.proofs.lemmas.List.{length-replicate}
use Rattle.hcc_core.specs.declared.setup.Setup.{Setup}
use Rattle.hcc_core.specs.declared.client.Client.{Client}
use Rattle.hcc_core.specs.Sums.{when}
use Rattle.hcc_core.specs.World.{State, charge_of, taken_by_slot, charged_to}
use Rattle.hcc_core.specs.References.{looks_at}
use Rattle.hcc_core.specs.Opening.{opening_of, CanOpen, new_slot, new_client}
use Rattle.hcc_core.specs.Lawful.{Lawful, IsLawful, owner_in, owned_by, stamp_in, taken_by, real_to}
use Rattle.hcc_core.specs.Lawful.{dead_by, is_in}
use Rattle.hcc_core.proofs.ListLemmas.{nothing_in, in_replicate, replicate_is}
use Rattle.hcc_core.proofs.SumLemmas.{total-zero}

pub lawful_is : (w : State) → Lawful w → IsLawful w
unfolding IsLawful
lawful_is w l = l

pub is_lawful : (w : State) → IsLawful w → Lawful w
unfolding IsLawful
is_lawful w l = l

pub lawful_opening : (setup : Setup) → CanOpen setup → Lawful (opening_of setup)
unfolding opening_of
lawful_opening setup can = record {
  sized = record {
    few_slots = can.slots;
    few_clients = can.clients;
    slot_count = length-replicate setup.slots new_slot;
    client_count = length-replicate setup.clients new_client;
  };
  bounded = λ s slot h. rw (replicate_is setup.slots s new_slot slot h)
      (record { references = omega arith; uses = omega arith });
  strayed = λ s slot h.
      let none = total-zero (λ (c : Client). when (looks_at c s) 1) setup.clients new_client refl in
      rw (replicate_is setup.slots s new_slot slot h) (omega arith);
  owners = record {
    owns = λ s c h. absurd (nothing_in owner_in setup.slots s new_slot c refl refl h);
    owned = λ s c h. absurd (nothing_in owned_by setup.clients c new_client s refl refl h);
  };
  stamped = record {
    made = λ s m h. absurd (nothing_in stamp_in setup.slots s new_slot m refl refl h);
    apart = λ s t m h k. absurd (nothing_in stamp_in setup.slots s new_slot m refl refl h);
  };
  dead = record {
    made = λ c m h. absurd (nobody_dead setup.clients c m h);
    unshown = λ c s m h shown. absurd (nobody_dead setup.clients c m h);
  };
  trailed = record {
    entries = λ s slot h. rw (replicate_is setup.slots s new_slot slot h) (omega arith);
    hands = λ c client h. rw (replicate_is setup.clients c new_client client h) (omega arith);
  };
  ledgers = record {
    real = λ strict.
        let entries = total-zero charge_of setup.slots new_slot refl in
        let amounts = total-zero real_to setup.clients new_client refl in
        omega arith;
    usage =
        let entries = total-zero charge_of setup.slots new_slot refl in
        let amounts = total-zero charged_to setup.clients new_client refl in
        omega arith;
    places =
        let entries = total-zero taken_by_slot setup.slots new_slot refl in
        let places = total-zero taken_by setup.clients new_client refl in
        omega arith;
  };
}
  where
    none_dead : (o : Option Client) (m : Stamp) → (o ≡ None) ⊎ (o ≡ Some new_client)
        → is_in m (dead_by o) ≡ true → ⊥
    none_dead o m (inl e) h = false≢true (sym (ap (λ k. is_in m (dead_by k)) e) ∙ h)
    none_dead o m (inr e) h = false≢true (sym (ap (λ k. is_in m (dead_by k)) e) ∙ h)

    nobody_dead : (n c : ℕ) (m : Stamp)
        → is_in m (dead_by (slice_get (replicate n new_client) c)) ≡ true → ⊥
    nobody_dead n c m h =
        none_dead (slice_get (replicate n new_client) c) m (in_replicate n c new_client) h

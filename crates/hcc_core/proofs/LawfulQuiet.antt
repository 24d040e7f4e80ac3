-- Changes that move no entry and nothing in hand, and changes within the ledgers alone.
use Rattle.std.proofs.Common.{◌≡◌, ◌⊎◌, inl, inr, ℕ, ◌+◌, ◌*◌, ◌≤◌, Bool, true, List, None, Option}
use Rattle.std.proofs.Common.{Some, length, slice_get, slice_set, refl, ap, sym, ◌∙◌, arith}
use Rattle.std.proofs.lemmas.Bool.{cases_eq}
use Rattle.std.proofs.lemmas.List.{length-set}
use Rattle.hcc_core.specs.declared.client.Client.{Client}
use Rattle.hcc_core.specs.declared.slot.Stamp.{Stamp}
use Rattle.hcc_core.specs.declared.slot.Slot.{Slot}
use Rattle.hcc_core.specs.declared.slot.Slot.TheVariants as slots
use Rattle.hcc_core.specs.declared.slot.Reference.{Reference}
use Rattle.hcc_core.specs.declared.slot.Resident.{Resident}
use Rattle.hcc_core.specs.World.{State, stamp_of, strays_of, charge_of, trail_of, taken_by_slot}
use Rattle.hcc_core.specs.World.{charged_to}
use Rattle.hcc_core.specs.Outcomes.{with_client, with_both}
use Rattle.hcc_core.specs.Lawful.{Lawful, IsBounded, Ledgers, owner_of, owner_in, owned_slot}
use Rattle.hcc_core.specs.Lawful.{owned_by, stamp_in, stamps_by, taken_by, real_to, shown_stamp}
use Rattle.hcc_core.specs.Lawful.{shown_in, is_in}
use Rattle.hcc_core.proofs.ListLemmas.{read_same, read_here, read_other}
use Rattle.hcc_core.proofs.DeadParts.{grave, dead_kept, lists_changed}
use Rattle.hcc_core.proofs.LawfulParts.{looking, sized_kept, bounded_set, strayed_client}
use Rattle.hcc_core.proofs.LawfulParts.{strayed_both, owners_same, stamped_fewer, trailed_slot}
use Rattle.hcc_core.proofs.LawfulParts.{trailed_client, ledgers_both}

-- A change of one slot that moves no entry, and of one client that moves nothing in hand.
pub record QuietSlot (seen left : Slot) : Type 0 where
  pub owner : owner_of left ≡ owner_of seen
  pub stamp : stamp_of left ≡ stamp_of seen
  pub trail : trail_of left ≡ trail_of seen
  pub charge : charge_of left ≡ charge_of seen
  pub taken : taken_by_slot left ≡ taken_by_slot seen
  pub shown : (m : Stamp) → shown_stamp left ≡ Some m → shown_stamp seen ≡ Some m

pub record QuietClient (old new : Client) : Type 0 where
  pub owned : owned_slot new.owned ≡ owned_slot old.owned
  pub stamps : new.stamps ≡ old.stamps
  pub trail : new.trail ≡ old.trail
  pub charged : charged_to new ≡ charged_to old
  pub real : real_to new ≡ real_to old
  pub taken : taken_by new ≡ taken_by old

-- nothing moves in a slot that stays as it is
pub calm : (slot : Slot) → QuietSlot slot slot
calm slot = record {
  owner = refl;
  stamp = refl;
  trail = refl;
  charge = refl;
  taken = refl;
  shown = λ m h. h;
}

-- nor where only references, uses and the mark of an entry change
pub changed : (r : Resident) (references : List Reference) (uses : ℕ) (hit : Bool)
    → QuietSlot (slots.Shareable r)
    (slots.Shareable (record r { references = references; uses = uses; hit = hit }))
changed r references uses hit = record {
  owner = refl;
  stamp = refl;
  trail = refl;
  charge = refl;
  taken = refl;
  shown = λ m h. h;
}

-- nor in the hand of a client that only looked, or noticed what is dead
pub noticed_more : (found : Client) (looked : Option ℕ) (dead : List Stamp)
    → QuietClient found (record found { looked = looked; dead = dead })
noticed_more found looked dead =
    record { owned = refl; stamps = refl; trail = refl; charged = refl; real = refl; taken = refl }

-- a slot that comes to show nothing new
pub shown_fewer : (all : List Slot) (slot s : ℕ) (seen left : Slot) (m : Stamp)
    → slice_get all slot ≡ Some seen
    → ((m : Stamp) → shown_stamp left ≡ Some m → shown_stamp seen ≡ Some m)
    → shown_in (slice_get (slice_set all slot left) s) ≡ Some m
    → shown_in (slice_get all s) ≡ Some m
shown_fewer all slot s seen left m at_slot fewer h = elim (cases_eq s slot) [
  | inl same ↦
      let here = ap shown_in (read_here all slot seen left at_slot) in
      let moved = ap (λ k. shown_in (slice_get (slice_set all slot left) k)) (sym same) in
      ap (λ k. shown_in (slice_get all k)) same ∙ ap shown_in at_slot
      ∙ fewer m (sym here ∙ moved ∙ h)
  | inr other ↦ sym (ap shown_in (read_other all slot s left other)) ∙ h
]

-- one slot and one client change, and neither an entry nor anything in hand moves
pub quiet : (w : State) (slot client : ℕ) (seen left : Slot) (old new : Client) → Lawful w
    → slice_get w.slots slot ≡ Some seen → slice_get w.clients client ≡ Some old
    → QuietSlot seen left → QuietClient old new → IsBounded w.setup left
    → (strays_of left + 3 * looking new slot ≤ strays_of seen + 3 * looking old slot)
    ⊎ (strays_of left ≡ 0)
    → ((s : ℕ) → (s ≡ slot → ⊥) → looking new s ≤ looking old s)
    → ((m : Stamp) → is_in m new.dead ≡ true → (is_in m old.dead ≡ true)
    ⊎ ((stamp_of seen ≡ Some m) × (shown_stamp left ≡ None)))
    → Lawful (with_both w slot left client new)
quiet w slot client seen left old new l at_slot at_client calm hand bound first fewer dies =
    record {
      sized =
          sized_kept w _ _ l.sized (length-set w.slots slot left) (length-set w.clients client new);
      bounded = bounded_set w.setup w.slots slot left l.bounded bound;
      strayed = strayed_both w.setup w.slots w.clients slot client
          seen left old new l.strayed l.sized.client_count at_slot at_client first fewer;
      owners = owners_same w.slots _ w.clients _ l.owners
          (λ s. read_same owner_in w.slots slot s seen left at_slot calm.owner)
          (λ c. read_same owned_by w.clients client c old new at_client hand.owned);
      stamped = stamped_fewer w.slots _ w.clients _ l.stamped
          (λ s m h. sym (read_same stamp_in w.slots slot s seen left at_slot calm.stamp) ∙ h)
          (λ c. read_same stamps_by w.clients client c old new at_client hand.stamps);
      dead = dead_kept w.slots _ w.clients _ l.dead
          (λ s m h. shown_fewer w.slots slot s seen left m at_slot calm.shown h)
          (λ c. read_same stamps_by w.clients client c old new at_client hand.stamps)
          (lists_changed _ w.clients client old new at_client (λ m h. elim (dies m h) [
            | inl e ↦ inl e
            | inr e ↦ inr (grave w.slots w.clients slot seen left m l.stamped at_slot e.0 e.1)
          ]));
      trailed =
          let entry = l.trailed.entries slot seen at_slot in
          let own = l.trailed.hands client old at_client in
          trailed_client _ _ _ client new
          (trailed_slot _ _ _ slot left l.trailed (rw calm.trail entry))
          (rw hand.trail own);
      ledgers =
          let charge = calm.charge in
          let charged = hand.charged in
          let taken = calm.taken in
          let places = hand.taken in
          let real = hand.real in
          ledgers_both w slot client seen left old new l.ledgers
          at_slot at_client (omega arith) (omega arith) (omega arith);
    }

-- one client changes in its looks, its amounts, its place or its trail, within the ledgers
pub one_client : (w : State) (client : ℕ) (old new : Client) → Lawful w
    → slice_get w.clients client ≡ Some old
    → ((s : ℕ) → looking new s ≤ looking old s) → new.owned ≡ old.owned → new.stamps ≡ old.stamps
    → new.dead ≡ old.dead
    → length new.trail ≤ w.setup.slots → Ledgers (with_client w client new)
    → Lawful (with_client w client new)
one_client w client old new l at_client looks owned stamps dead trail ledgers = record {
  sized = sized_kept w _ _ l.sized refl (length-set w.clients client new);
  bounded = l.bounded;
  strayed = strayed_client w.setup w.slots w.clients client old new l.strayed at_client looks;
  owners = owners_same w.slots _ w.clients _ l.owners (λ s. refl)
      (λ c. read_same owned_by w.clients client c old new at_client (ap owned_slot owned));
  stamped = stamped_fewer w.slots _ w.clients _ l.stamped (λ s m h. h)
      (λ c. read_same stamps_by w.clients client c old new at_client stamps);
  dead = dead_kept w.slots _ w.clients _ l.dead (λ s m h. h)
      (λ c. read_same stamps_by w.clients client c old new at_client stamps)
      (lists_changed _ w.clients client old new at_client
      (λ m h. inl (ap (is_in m) (sym dead) ∙ h)));
  trailed = trailed_client _ _ _ client new l.trailed trail;
  ledgers = ledgers;
}

-- one client changes in its amounts or its place alone
pub in_ledgers : (w : State) (client : ℕ) (old new : Client) → Lawful w
    → slice_get w.clients client ≡ Some old
    → new.looked ≡ old.looked → new.owned ≡ old.owned → new.stamps ≡ old.stamps
    → new.dead ≡ old.dead → new.trail ≡ old.trail
    → Ledgers (with_client w client new) → Lawful (with_client w client new)
in_ledgers w client old new l at_client looked owned stamps dead trail ledgers =
    one_client w client old new l at_client (λ s. rw looked (omega arith)) owned stamps dead
    (rw trail (l.trailed.hands client old at_client)) ledgers

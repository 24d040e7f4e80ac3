-- The events on uses, marks, trails and the hand keep a world lawful: clock, mark, correct, end,
-- pass, unpass, turn.
use Rattle.std.proofs.Common.{◌≡◌, inl, inr, ℕ, ◌<◌, ◌≤◌, true, false, nat_lt, [], ◌∷◌, ◌++◌, Some}
use Rattle.std.proofs.Common.{slice_get, refl, arith, None, length}
use Rattle.std.proofs.lemmas.Bool.{ltb-true}
use Rattle.hcc_core.specs.declared.client.Client.{Client}
use Rattle.hcc_core.specs.declared.setup.Setup.{Setup}
use Rattle.hcc_core.specs.declared.slot.Slot.{Slot}
use Rattle.hcc_core.specs.declared.slot.Slot.TheVariants as slots
use Rattle.hcc_core.specs.World.{State, strays_of}
use Rattle.hcc_core.specs.Outcomes.{with_client, with_both, with_slot, dropped}
use Rattle.hcc_core.specs.References.{client_noticed}
use Rattle.hcc_core.specs.Lawful.{Lawful, IsBounded}
use Rattle.hcc_core.proofs.ListLemmas.{set_same}
use Rattle.hcc_core.proofs.LawfulParts.{ledgers_client}
use Rattle.hcc_core.proofs.LawfulQuiet.{calm, changed, noticed_more, QuietSlot, quiet}
use Rattle.hcc_core.specs.World.{uses_of}
use Rattle.hcc_core.specs.Uses.{slot_with_uses, slot_marked}
use Rattle.hcc_core.specs.Trails.{is_slot}
use Rattle.hcc_core.proofs.SumLemmas.{length-push}
use Rattle.hcc_core.proofs.LawfulQuiet.{one_client}
use Rattle.hcc_core.proofs.LawfulParts.{ledgers_client}
use Rattle.hcc_core.proofs.LawfulReferences.{dies_here, still_hidden}
use Rattle.hcc_core.proofs.DroppedLemmas.{dropped-length}

calm_uses : (uses : ℕ) (seen : Slot) → QuietSlot seen (slot_with_uses uses seen)
calm_uses uses (slots.Empty strays) = calm _
calm_uses uses (slots.Building other strays) = calm _
calm_uses uses (slots.Shareable r) = changed r r.references uses r.hit

uses_strays : (uses : ℕ) (seen : Slot) → strays_of (slot_with_uses uses seen) ≡ strays_of seen
uses_strays uses (slots.Empty strays) = refl
uses_strays uses (slots.Building other strays) = refl
uses_strays uses (slots.Shareable r) = refl

-- fewer uses are within the bounds of more
fewer_bounded : (setup : Setup) (uses : ℕ) (seen : Slot) → uses ≤ uses_of seen
    → IsBounded setup seen → IsBounded setup (slot_with_uses uses seen)
fewer_bounded setup uses (slots.Empty strays) few b = b
fewer_bounded setup uses (slots.Building other strays) few b = b
fewer_bounded setup uses (slots.Shareable r) few b = let before = b.uses in
    record { references = b.references; uses = omega arith }

pub lawful_clock : (w : State) (client slot uses : ℕ) (found : Client) (seen : Slot) → Lawful w
    → slice_get w.slots slot ≡ Some seen → slice_get w.clients client ≡ Some found
    → uses ≤ uses_of seen
    → Lawful (with_slot w slot (slot_with_uses uses seen))
lawful_clock w client slot uses found seen l at_slot at_client few =
    rw (set_same w.clients client found at_client) at both
  where
    both : Lawful (with_both w slot (slot_with_uses uses seen) client found)
    both =
        quiet w slot client seen (slot_with_uses uses seen) found
        found l at_slot at_client (calm_uses uses seen) (noticed_more found found.looked found.dead)
        (fewer_bounded w.setup uses seen few (l.bounded slot seen at_slot))
        (inl (let same = uses_strays uses seen in omega arith)) (λ s n. omega arith) (λ m h. inl h)

pub lawful_correct : (w : State) (client slot uses : ℕ) (found : Client) (seen : Slot) → Lawful w
    → slice_get w.slots slot ≡ Some seen → slice_get w.clients client ≡ Some found
    → uses ≤ uses_of seen
    → Lawful (with_both w slot (slot_with_uses uses seen) client (client_noticed client seen found))
lawful_correct w client slot uses found seen l at_slot at_client few =
    quiet w slot client seen (slot_with_uses uses seen) found
    (client_noticed client seen found) l at_slot at_client
    (calm_uses uses seen)
    (noticed_more found _ _)
    (fewer_bounded w.setup uses seen few (l.bounded slot seen at_slot))
    (inl (let same = uses_strays uses seen in omega arith)) (λ s n. omega arith)
    (λ m h. elim (dies_here client found.dead seen m h) [
      | inl e ↦ inl e
      | inr e ↦
          inr (e.0, still_hidden seen (slot_with_uses uses seen) e.1 (calm_uses uses seen).shown)
    ])

calm_marked : (seen : Slot) → QuietSlot seen (slot_marked seen)
calm_marked (slots.Empty strays) = calm _
calm_marked (slots.Building other strays) = calm _
calm_marked (slots.Shareable r) = changed r r.references r.uses true

marked_strays : (seen : Slot) → strays_of (slot_marked seen) ≡ strays_of seen
marked_strays (slots.Empty strays) = refl
marked_strays (slots.Building other strays) = refl
marked_strays (slots.Shareable r) = refl

marked_bounded : (setup : Setup) (seen : Slot) → IsBounded setup seen
    → IsBounded setup (slot_marked seen)
marked_bounded setup (slots.Empty strays) b = b
marked_bounded setup (slots.Building other strays) b = b
marked_bounded setup (slots.Shareable r) b = record { references = b.references; uses = b.uses }

pub lawful_mark : (w : State) (client slot : ℕ) (found : Client) (seen : Slot) → Lawful w
    → slice_get w.slots slot ≡ Some seen → slice_get w.clients client ≡ Some found
    → Lawful (with_both w slot (slot_marked seen) client (client_noticed client seen found))
lawful_mark w client slot found seen l at_slot at_client =
    quiet w slot client seen (slot_marked seen) found (client_noticed client seen found)
    l at_slot at_client
    (calm_marked seen)
    (noticed_more found _ _)
    (marked_bounded w.setup seen (l.bounded slot seen at_slot))
    (inl (let same = marked_strays seen in omega arith)) (λ s n. omega arith)
    (λ m h. elim (dies_here client found.dead seen m h) [
      | inl e ↦ inl e
      | inr e ↦ inr (e.0, still_hidden seen (slot_marked seen) e.1 (calm_marked seen).shown)
    ])

pub lawful_end : (w : State) (client : ℕ) (found : Client) → Lawful w
    → slice_get w.clients client ≡ Some found
    → Lawful (with_client w client (record found { live = false; looked = None }))
lawful_end w client found l at_client =
    let new : Client = record found { live = false; looked = None } in
    one_client w client found new l at_client (λ s. omega arith)
    refl refl refl (l.trailed.hands client found at_client)
    (ledgers_client w client found new l.ledgers at_client (omega arith)
    (omega arith) (omega arith))

pub lawful_pass : (w : State) (client slot : ℕ) (found : Client) → Lawful w
    → slice_get w.clients client ≡ Some found
    → nat_lt (length found.trail) w.setup.slots ≡ true
    → Lawful (with_client w client (record found { trail = found.trail ++ slot ∷ [] }))
lawful_pass w client slot found l at_client room =
    let new : Client = record found { trail = found.trail ++ slot ∷ [] } in
    let short : length found.trail < w.setup.slots =
    ltb-true (length found.trail) w.setup.slots room in
    let one = length-push found.trail slot in
    one_client w client found new l at_client (λ s. omega arith) refl refl refl (omega arith)
    (ledgers_client w client found new l.ledgers at_client (omega arith)
    (omega arith) (omega arith))

pub lawful_unpass : (w : State) (client slot : ℕ) (found : Client) → Lawful w
    → slice_get w.clients client ≡ Some found
    → Lawful (with_client w client (record found { trail = dropped (is_slot slot) found.trail }))
lawful_unpass w client slot found l at_client =
    let new : Client = record found { trail = dropped (is_slot slot) found.trail } in
    let short = l.trailed.hands client found at_client in
    let shorter = dropped-length (is_slot slot) found.trail in
    one_client w client found new l at_client (λ s. omega arith) refl refl refl (omega arith)
    (ledgers_client w client found new l.ledgers at_client (omega arith)
    (omega arith) (omega arith))

pub lawful_turn : (w : State) (hand : ℕ) → Lawful w → Lawful (record w { hand = hand })
lawful_turn w hand l = record {
  sized = record {
    few_slots = l.sized.few_slots;
    few_clients = l.sized.few_clients;
    slot_count = l.sized.slot_count;
    client_count = l.sized.client_count;
  };
  bounded = l.bounded;
  strayed = l.strayed;
  owners = l.owners;
  stamped = l.stamped;
  dead = l.dead;
  trailed = l.trailed;
  ledgers = record { usage = l.ledgers.usage; real = l.ledgers.real; places = l.ledgers.places };
}

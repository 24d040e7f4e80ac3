-- In a lawful world no sum that a reader or a step makes wraps.
use Rattle.std.proofs.Common.{◌≡◌, ℕ, suc, ◌+◌, ◌*◌, ◌<◌, ◌≤◌, ◌==◌, Bool, true, false, List, []}
use Rattle.std.proofs.Common.{◌∷◌, Some, length, slice_get, refl, arith}
use Rattle.hcc_core.specs.declared.limits.TheConstants.{MOST_SLOTS, MOST_CLIENTS, MOST_USAGE}
use Rattle.hcc_core.specs.declared.client.Client.{Client}
use Rattle.hcc_core.specs.declared.slot.Reference.{Reference}
use Rattle.hcc_core.specs.declared.client.Place.{Place}
use Rattle.hcc_core.specs.declared.client.Place.TheVariants as places
use Rattle.hcc_core.specs.declared.client.Standalone.{Standalone}
use Rattle.hcc_core.specs.declared.slot.Slot.{Slot}
use Rattle.hcc_core.specs.Ledgers.{is_standing}
use Rattle.std.specs.List.{find}
use Rattle.hcc_core.specs.Sums.{when, total}
use Rattle.hcc_core.specs.World.{State, is_named, strays_of, references_of, reference_in, uses_of}
use Rattle.hcc_core.specs.World.{weight_of, charge_of, trail_of, charged_to, standing_of, is_placed}
use Rattle.hcc_core.specs.World.{is_granted, occupied_by, times, passed_by, usage_of, occupancy_of}
use Rattle.hcc_core.specs.World.{standing_in, limit_of}
use Rattle.hcc_core.specs.Lawful.{Lawful, IsLawful, IsBounded, taken_by}
use Rattle.hcc_core.proofs.SumLemmas.{total-le, total-member}
use Rattle.hcc_core.proofs.DroppedLemmas.{dropped-total}
use Rattle.hcc_core.proofs.Opening.{is_lawful}

pub usage_fits : (w : State) → IsLawful w → usage_of w ≤ MOST_USAGE
usage_fits w l = (is_lawful w l).ledgers.usage

-- what stands in standalone entries is part of the usage
pub standing_fits : (w : State) → IsLawful w → standing_in w ≤ MOST_USAGE
standing_fits w l =
    let usage = (is_lawful w l).ledgers.usage in
    let part = total-le standing_of charged_to w.clients (λ i c h. within c) in
    omega arith
  where
    within : (c : Client) → standing_of c ≤ charged_to c
    within c = omega arith

placed_few : (place : Place) → when (is_placed place) 1 ≤ when (is_granted place) 1 + 1
placed_few places.Absent = omega arith
placed_few places.Open = omega arith
placed_few places.Granted = omega arith

-- besides the places taken, each client may have one that is open
occupied_few : (clients : List Client)
    → total occupied_by clients ≤ total taken_by clients + length clients
occupied_few [] = omega arith
occupied_few (c ∷ cs) = let one = placed_few c.place in let rest = occupied_few cs in omega arith

-- the occupancy is at most the limit and the clients
pub occupancy_fits : (w : State) → IsLawful w → occupancy_of w ≤ limit_of w.setup + w.setup.clients
occupancy_fits w l =
    let places = (is_lawful w l).ledgers.places in
    let count = (is_lawful w l).sized.client_count in
    let few = occupied_few w.clients in
    omega arith

pub few_slots : (w : State) → IsLawful w → length w.slots ≤ MOST_SLOTS
few_slots w l =
    let few = (is_lawful w l).sized.few_slots in
    let count = (is_lawful w l).sized.slot_count in
    omega arith

-- the setup's numbers are small
pub few_setup : (w : State) → IsLawful w
    → (w.setup.slots ≤ MOST_SLOTS) × (w.setup.clients ≤ MOST_CLIENTS)
few_setup w l = ((is_lawful w l).sized.few_slots, (is_lawful w l).sized.few_clients)

pub few_clients : (w : State) → IsLawful w → length w.clients ≤ MOST_CLIENTS
few_clients w l =
    let few = (is_lawful w l).sized.few_clients in
    let count = (is_lawful w l).sized.client_count in
    omega arith

when_few : (b : Bool) → when b 1 ≤ 1
when_few true = omega arith
when_few false = omega arith

-- a slot stands in a trail no more often than the trail has members
times-le : (slot : ℕ) (trail : List ℕ) → times slot trail ≤ length trail
times-le slot [] = omega arith
times-le slot (t ∷ ts) = let one = when_few (t == slot) in let rest = times-le slot ts in
    omega arith

-- a total of as much from each as there may be slots
total-few : {X : Type 0} (f : X → ℕ) (xs : List X)
    → ((i : ℕ) (x : X) → slice_get xs i ≡ Some x → f x ≤ MOST_SLOTS)
    → total f xs ≤ length xs * MOST_SLOTS
total-few f [] h = omega arith
total-few f (x ∷ xs) h =
    let first = h 0 x refl in
    let rest = total-few f xs (λ i y e. h (suc i) y e) in
    omega arith

pub passed_fits : (w : State) → IsLawful w → (slot : ℕ)
    → passed_by w.slots w.clients slot ≤ MOST_SLOTS * MOST_SLOTS + MOST_CLIENTS * MOST_SLOTS
passed_fits w l slot =
    let law = is_lawful w l in
    let few = law.sized.few_slots in
    let slots_few = few_slots w l in
    let clients_few = few_clients w l in
    let entries = total-few (λ s. times slot (trail_of s)) w.slots
    (λ i s e. let short = law.trailed.entries i s e in let some = times-le slot (trail_of s) in
    omega arith) in
    let hands = total-few (λ (c : Client). times slot c.trail)
    w.clients (λ i c e. let short = law.trailed.hands i c e in
    let some = times-le slot c.trail in omega arith) in
    omega arith

-- Of one slot and one client.

-- a slot's references weigh what a word can say
pub bounded_weight : (w : State) (slot : Slot) → Lawful w → IsBounded w.setup slot
    → weight_of slot < 4294967296
bounded_weight w slot l b =
    let few = l.sized.few_clients in
    let references = b.references in
    omega arith

pub strays_few : (w : State) (s : ℕ) (slot : Slot) → Lawful w → slice_get w.slots s ≡ Some slot
    → strays_of slot ≤ 3 * MOST_CLIENTS
strays_few w s slot l at_slot =
    let few = l.sized.few_clients in
    let strays = l.strayed s slot at_slot in
    omega arith

-- what a use adds was counted before
pub used_fits : (w : State) (client name : ℕ) (k : Reference) (slot : Slot) → IsBounded w.setup slot
    → reference_in client name (references_of slot) ≡ Some k → k.counting ≡ true
    → uses_of slot + k.weight < 4294967296
used_fits w client name k slot b there counts =
    let whole : when k.counting k.weight ≡ k.weight = rw counts refl in
    let part = dropped-total (is_named client name) (λ (k : Reference). when k.counting k.weight)
    (references_of slot) k there in
    let uses = b.uses in
    omega arith

-- a client's amounts are part of the usage, and so is a slot's charge beside them
pub charged_fits : (w : State) (c : ℕ) (client : Client) → Lawful w
    → slice_get w.clients c ≡ Some client → charged_to client ≤ MOST_USAGE
charged_fits w c client l at_client =
    let part = total-member charged_to w.clients c client at_client in
    let usage = l.ledgers.usage in
    omega arith

pub both_charged_fit : (w : State) (s c : ℕ) (slot : Slot) (client : Client) → Lawful w
    → slice_get w.slots s ≡ Some slot → slice_get w.clients c ≡ Some client
    → charge_of slot + charged_to client ≤ MOST_USAGE
both_charged_fit w s c slot client l at_slot at_client =
    let entry = total-member charge_of w.slots s slot at_slot in
    let part = total-member charged_to w.clients c client at_client in
    let usage = l.ledgers.usage in
    omega arith

pub freed_slots_few : (w : State) (c : ℕ) (client : Client) → Lawful w
    → slice_get w.clients c ≡ Some client
    → client.freed_slots ≤ MOST_SLOTS
freed_slots_few w c client l at_client =
    let part = total-member taken_by w.clients c client at_client in
    let places = l.ledgers.places in
    let few = l.sized.few_slots in
    omega arith

-- a standalone entry's charge is part of the usage
pub fallen_fits : (w : State) (c name : ℕ) (client : Client) (gone : Standalone) → Lawful w
    → slice_get w.clients c ≡ Some client
    → find (is_standing name) client.standalones ≡ Some gone
    → client.freed + gone.charge ≤ MOST_USAGE
fallen_fits w c name client gone l at_client there =
    let all = charged_fits w c client l at_client in
    let one = dropped-total (is_standing name) (λ (s : Standalone). s.charge)
    client.standalones gone there in
    omega arith

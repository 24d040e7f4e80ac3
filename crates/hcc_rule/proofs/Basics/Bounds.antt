-- The sums that stand in words stay far below a word's end.
use Rattle.std.proofs.Common.{◌≡◌, ℕ, zero, suc, ◌+◌, ◌-◌, ◌*◌, ◌^◌, ◌<◌, ◌≤◌, ◌==◌, Bool, true, false, List, [], ◌∷◌, Some, length, slice_get, refl, ap, ◌∙◌, arith}
use Rattle.hcc_core.specs.declared.client.Client.{Client}
use Rattle.hcc_core.specs.declared.slot.Entry.{Entry}
use Rattle.hcc_core.specs.declared.slot.Slot.{Slot}
use Rattle.hcc_core.specs.declared.slot.Slot.TheVariants as slots
use Rattle.hcc_core.specs.declared.client.Place.{Place}
use Rattle.hcc_core.specs.declared.client.Place.TheVariants as places
use Rattle.hcc_core.specs.declared.client.Standalone.{Standalone}
use Rattle.hcc_core.specs.Sums.{when, total}
use Rattle.hcc_core.specs.World.{State, charge_of, charged_to, trail_of, times, usage_of, passed_by, occupied_by, occupancy_of, is_placed, is_granted, limit_of}
use Rattle.hcc_core.specs.Lawful.{Lawful, taken_by}
use Rattle.hcc_rule.specs.declared.key.Key.{Key}
use Rattle.hcc_rule.specs.declared.view.View.{View}
use Rattle.hcc_rule.specs.Views.{Each}
use Rattle.hcc_rule.specs.Rule.{Books, entry_in, Stored, Stamps, IsModest}
use Rattle.hcc_rule.proofs.Basics.Lists.{within}

-- a sum of members that are at most k each
pub total-bound : {A : Type 0} (f : A → ℕ) (k : ℕ) (xs : List A)
    → ((i : ℕ) (x : A) → slice_get xs i ≡ Some x → f x ≤ k) → total f xs ≤ k * length xs
total-bound f k [] h = omega arith
total-bound f k (x ∷ xs) h =
    let first = h 0 x refl in
    let rest = total-bound f k xs (λ i y at. h (suc i) y at) in
    let n : ℕ = length xs in
    let p : ℕ = k * n in
    let step : k * suc n ≡ p + k = omega arith in
    omega arith

-- one member, and others that are at most k each
pub total_beside : {A : Type 0} (f : A → ℕ) (k : ℕ) (xs : List A) (i : ℕ) (x : A)
    → slice_get xs i ≡ Some x → ((j : ℕ) (y : A) → slice_get xs j ≡ Some y → f y ≤ k)
    → total f xs ≤ f x + k * (length xs - 1)
total_beside f k [] i x at h = cc
total_beside f k (y ∷ ys) zero x at h =
    let same : f y ≡ f x = ap f (let e : y ≡ x = cc in e) in
    let rest = total-bound f k ys (λ j z there. h (suc j) z there) in
    let n : ℕ = length ys in
    let one : suc n - 1 ≡ n = omega arith in
    rw one (omega arith)
total_beside f k (y ∷ ys) (suc i) x at h =
    let first = h 0 y refl in
    let rest = total_beside f k ys i x at (λ j z there. h (suc j) z there) in
    let some = within ys i x at in
    let n : ℕ = length ys in
    let m : ℕ = n - 1 in
    let more : n ≡ suc m = omega arith in
    let whole : k * n ≡ k * m + k = ap (λ (z : ℕ). k * z) more ∙ omega arith in
    let one : suc n - 1 ≡ n = omega arith in
    rw one (omega arith)

-- a sum of what is left of each member
pub total_minus : {A : Type 0} (f g : A → ℕ) (xs : List A)
    → ((j : ℕ) (y : A) → slice_get xs j ≡ Some y → f y ≤ g y)
    → total (λ y. g y - f y) xs + total f xs ≡ total g xs
total_minus f g [] h = refl
total_minus f g (y ∷ ys) h =
    let first = h 0 y refl in
    let rest = total_minus f g ys (λ j z there. h (suc j) z there) in
    omega arith

-- what stands for one client
standing_few : (xs : List Standalone) → Each (λ (s : Standalone). s.charge < 2 ^ 32) xs
    → total (λ (s : Standalone). s.charge) xs ≤ 4294967296 * length xs
standing_few [] h = omega arith
standing_few (x ∷ xs) h = let first = h.0 in let rest = standing_few xs h.1 in omega arith

-- a modest client's amounts, in sum: at most 2^49 + 2^47
charged_few : (client : Client) → IsModest client → charged_to client ≤ 703687441776640
charged_few client m =
    let asked = m.asked in
    let freed = m.freed in
    let few = m.few in
    let standing = standing_few client.standalones m.small in
    let n : ℕ = length client.standalones in
    omega arith

-- the usage of a world of small charges and modest clients
pub usage_small : (w : State) → Lawful w
    → ((i : ℕ) (slot : Slot) → slice_get w.slots i ≡ Some slot → charge_of slot ≤ 4294967296)
    → ((c : ℕ) (client : Client) → slice_get w.clients c ≡ Some client → IsModest client)
    → usage_of w < 2 ^ 60
usage_small w l small modest =
    let entries = total-bound charge_of 4294967296 w.slots small in
    let clients = total-bound charged_to 703687441776640 w.clients
    (λ c client at. charged_few client (modest c client at)) in
    let few_slots = l.sized.few_slots in
    let few_clients = l.sized.few_clients in
    let slot_count = l.sized.slot_count in
    let client_count = l.sized.client_count in
    let n : ℕ = length w.slots in
    let m : ℕ = length w.clients in
    omega arith

-- an entry that was shown rightly has a small charge
module _ {T : Type 0} (fits : T → Key → List ℕ → Type 0) (tag : T) (room : ℕ) (all : List Slot)
    (clients : List Client) (books : Books) (views : List (View T)) (words : List ℕ) where
  pub charge_small : Stamps fits tag room all clients books views → Stored room all words books
      → (i : ℕ) (slot : Slot) → slice_get all i ≡ Some slot → charge_of slot ≤ 4294967296
  charge_small stamps stored i (slots.Empty strays) at = omega arith
  charge_small stamps stored i (slots.Building client strays) at = omega arith
  charge_small stamps stored i (slots.Shareable r) at =
      let old = stored i r.entry (ap entry_in at) in
      let small = (stamps.right r.entry.stamp old.made old.listed).small in
      let same : r.entry.charge ≡ old.made.charge = ap (λ (e : Entry). e.charge) old.same in
      omega arith

-- a trail has a slot at most as often as it has members
pub times_few : (i : ℕ) (trail : List ℕ) → times i trail ≤ length trail
times_few i [] = omega arith
times_few i (s ∷ trail) =
    let one : when (s == i) 1 ≤ 1 = one_of (s == i) in
    let rest = times_few i trail in
    omega arith
  where
    one_of : (b : Bool) → when b 1 ≤ 1
    one_of true = omega arith
    one_of false = omega arith

-- how often a slot is passed
pub passed_few : (w : State) (i : ℕ) → Lawful w → passed_by w.slots w.clients i ≤ 2 ^ 34
passed_few w i l =
    let most = l.sized.few_slots in
    let few_clients = l.sized.few_clients in
    let slot_count = l.sized.slot_count in
    let client_count = l.sized.client_count in
    let entries = total-bound (λ s. times i (trail_of s)) 65536 w.slots (λ j slot at.
    let few = times_few i (trail_of slot) in
    let short = l.trailed.entries j slot at in
    omega arith) in
    let hands = total-bound (λ (c : Client). times i c.trail) 65536 w.clients (λ j client at.
    let few = times_few i client.trail in
    let short = l.trailed.hands j client at in
    omega arith) in
    let n : ℕ = length w.slots in
    let m : ℕ = length w.clients in
    omega arith

-- a place that is asked for is one more at most than a granted one
occupied_few : (client : Client) → occupied_by client ≤ 1 + taken_by client
occupied_few client = let one = placed_few client.place in omega arith
  where
    placed_few : (place : Place) → when (is_placed place) 1 ≤ 1 + when (is_granted place) 1
    placed_few places.Absent = omega arith
    placed_few places.Open = omega arith
    placed_few places.Granted = omega arith

occupied_all : (clients : List Client) → total occupied_by clients
    ≤ length clients + total taken_by clients
occupied_all [] = omega arith
occupied_all (client ∷ clients) = let one = occupied_few client in let rest =
    occupied_all clients in omega arith

-- and one less where one of them has no place
occupied_rest : (clients : List Client) (c : ℕ) (client : Client)
    → slice_get clients c ≡ Some client
    → is_placed client.place ≡ false
    → 1 + total occupied_by clients ≤ length clients + total taken_by clients
occupied_rest [] c client at absent = cc
occupied_rest (x ∷ xs) zero client at absent =
    let same : x ≡ client = cc in
    let none : when (is_placed x.place) 1 ≡ 0 =
    ap (λ (k : Client). when (is_placed k.place) 1) same ∙ ap (λ b. when b 1) absent in
    let rest = occupied_all xs in
    omega arith
occupied_rest (x ∷ xs) (suc c) client at absent =
    let one = occupied_few x in
    let rest = occupied_rest xs c client at absent in
    omega arith

-- the occupancy is within the limit, with an open place for each client
pub occupancy_near : (w : State) → Lawful w → occupancy_of w ≤ limit_of w.setup + w.setup.clients
occupancy_near w l =
    let clients = occupied_all w.clients in
    let most = l.ledgers.places in
    let client_count = l.sized.client_count in
    let limit : ℕ = limit_of w.setup in
    omega arith

-- a client with no place leaves an open place out
pub occupancy_beside : (w : State) → Lawful w → (c : ℕ) (client : Client)
    → slice_get w.clients c ≡ Some client
    → client.place ≡ places.Absent → occupancy_of w < limit_of w.setup + w.setup.clients
occupancy_beside w l c client at absent =
    let rest = occupied_rest w.clients c client at (ap is_placed absent) in
    let most = l.ledgers.places in
    let client_count = l.sized.client_count in
    let limit : ℕ = limit_of w.setup in
    omega arith

-- so it is small
pub occupancy_small : (w : State) → Lawful w → occupancy_of w ≤ 2 ^ 32
occupancy_small w l =
    let near = occupancy_near w l in
    let few_slots = l.sized.few_slots in
    let few_clients = l.sized.few_clients in
    let limit : limit_of w.setup ≤ 65536 = omega arith in
    omega arith

-- What the readers add up is what the definitions say.
use Rattle.std.proofs.Common.{◌≡◌, ℕ, ◌+◌, ◌==◌, Bool, true, false, cond, List, [], ◌∷◌, sum_by}
use Rattle.std.proofs.Common.{count_by, refl, ◌∙◌, arith}
use Rattle.hcc_core.specs.declared.client.Client.{Client}
use Rattle.hcc_core.specs.declared.slot.Slot.{Slot}
use Rattle.hcc_core.specs.declared.slot.Slot.TheVariants as slots
use Rattle.hcc_core.specs.Sums.{when, total}
use Rattle.hcc_core.specs.World.{is_shareable, taken_by_slot, is_placed, trail_of, standing_of}
use Rattle.hcc_core.specs.World.{charged_to, occupied_by, times, passed_by}
use Rattle.hcc_core.proofs.SumLemmas.{sum_by_total}

-- totals of two functions that agree
total-same : {X : Type 0} (f g : X → ℕ) (xs : List X) → ((x : X) → f x ≡ g x)
    → total f xs ≡ total g xs
total-same f g [] h = refl
total-same f g (x ∷ xs) h = let first = h x in let rest = total-same f g xs h in omega arith

-- std's test of a count is a summand
count_is_when : (b : Bool) → cond b 1 0 ≡ when b 1
count_is_when true = refl
count_is_when false = refl

-- a count is a total of ones
pub count_by_total : {X : Type 0} (p : X → Bool) (xs : List X)
    → count_by p xs ≡ total (λ x. when (p x) 1) xs
count_by_total p xs =
    sum_by_total (λ x. cond (p x) 1 0) xs
    ∙ total-same (λ x. cond (p x) 1 0) (λ x. when (p x) 1) xs (λ x. count_is_when (p x))

total-plus : {X : Type 0} (f g : X → ℕ) (xs : List X)
    → total (λ x. f x + g x) xs ≡ total f xs + total g xs
total-plus f g [] = refl
total-plus f g (x ∷ xs) = let rest = total-plus f g xs in omega arith

-- what clients are charged, amount by amount
pub amounts_total : (clients : List Client)
    → sum_by (λ (c : Client). c.granted) clients + sum_by (λ (c : Client). c.needed) clients
    + sum_by (λ (c : Client). c.freed) clients + total standing_of clients
    ≡ total charged_to clients
amounts_total clients =
    let granted = sum_by_total (λ (c : Client). c.granted) clients in
    let needed = sum_by_total (λ (c : Client). c.needed) clients in
    let freed = sum_by_total (λ (c : Client). c.freed) clients in
    let first = total-plus (λ (c : Client). c.granted) (λ c. c.needed) clients in
    let second = total-plus (λ (c : Client). c.granted + c.needed) (λ c. c.freed) clients in
    let third = total-plus (λ (c : Client). c.granted + c.needed + c.freed) standing_of clients in
    omega arith

resident_is_one : (slot : Slot) → when (is_shareable slot) 1 ≡ taken_by_slot slot
resident_is_one (slots.Empty strays) = refl
resident_is_one (slots.Building client strays) = refl
resident_is_one (slots.Shareable r) = refl

-- how many slots have an entry
pub residents_total : (all : List Slot) → count_by is_shareable all ≡ total taken_by_slot all
residents_total all =
    count_by_total is_shareable all
    ∙ total-same (λ s. when (is_shareable s) 1) taken_by_slot all resident_is_one

-- what clients occupy
pub occupied_total : (clients : List Client)
    → count_by (λ (c : Client). is_placed c.place) clients
    + sum_by (λ (c : Client). c.freed_slots) clients
    ≡ total occupied_by clients
occupied_total clients =
    let placed = count_by_total (λ (c : Client). is_placed c.place) clients in
    let freed = sum_by_total (λ (c : Client). c.freed_slots) clients in
    let both = total-plus (λ (c : Client). when (is_placed c.place) 1)
    (λ c. c.freed_slots) clients in
    omega arith

-- how often a slot stands in the trails that a list of things have
trails_total : {X : Type 0} (f : X → List ℕ) (xs : List X) (slot : ℕ)
    → sum_by (λ x. count_by (λ t. t == slot) (f x)) xs ≡ total (λ x. times slot (f x)) xs
trails_total f xs slot =
    sum_by_total (λ x. count_by (λ t. t == slot) (f x)) xs
    ∙ total-same (λ x. count_by (λ t. t == slot) (f x)) (λ x. times slot (f x))
    xs (λ x. count_by_total (λ t. t == slot) (f x))

-- how often it stands in the trails of entries and clients
pub passed_total : (all : List Slot) (clients : List Client) (slot : ℕ)
    → sum_by (λ s. count_by (λ t. t == slot) (trail_of s)) all
    + sum_by (λ (c : Client). count_by (λ t. t == slot) c.trail) clients
    ≡ passed_by all clients slot
passed_total all clients slot =
    let entries = trails_total trail_of all slot in
    let hands = trails_total (λ (c : Client). c.trail) clients slot in
    omega arith

-- What holds at every moment: between any two steps the words show some lawful world, and these are
-- its limits.
use Rattle.std.proofs.Common.{◌≡◌, ℕ, zero, suc, ◌+◌, ◌-◌, ◌*◌, ◌^◌, ◌<◌, ◌≤◌, true, List, [], ◌∷◌, slice_get, length, Some, refl, ap, ◌∙◌, arith}
use Rattle.hcc_core.specs.declared.client.Client.{Client}
use Rattle.hcc_core.specs.Sums.{total}
use Rattle.hcc_core.specs.World.{State, charged_to, standing_of, standing_in, usage_of, limit_of}
use Rattle.hcc_core.specs.Lawful.{real_to, real_in, taken_in}
use Rattle.hcc_rule.specs.declared.key.Key.{Key}
use Rattle.hcc_rule.specs.declared.layout.TheConstants.{USAGE, OCCUPANCY, STANDING}
use Rattle.hcc_rule.specs.declared.rule.Plan.{Plan}
use Rattle.hcc_rule.specs.declared.view.Record.{Record}
use Rattle.hcc_rule.specs.Views.{Each}
use Rattle.hcc_rule.specs.Records.{charge_held}
use Rattle.hcc_rule.specs.Laws.{ledger_word}
use Rattle.hcc_rule.specs.Rule.{setup_of, IsRecorded, Holds}
use Rattle.hcc_core.proofs.SumLemmas.{total-le, total-member}
use Rattle.hcc_rule.proofs.Basics.Different.{charges_within}
use Rattle.hcc_rule.proofs.Parts.Asides.{law_is, usage_low}
use Rattle.hcc_rule.proofs.Basics.Bounds.{occupancy_near, total_beside}
use Rattle.hcc_rule.proofs.Parts.SlotSteps.{Shard}

-- what is charged to clients is their real charge with what they still need
charged_real : (clients : List Client)
    → total charged_to clients ≡ total real_to clients + total (λ (c : Client). c.needed) clients
charged_real [] = refl
charged_real (client ∷ clients) = let rest = charged_real clients in omega arith

-- what stands is within the usage
pub standing_used : (w : State) → standing_in w ≤ usage_of w
standing_used w = let each = total-le standing_of charged_to w.clients
    (λ i client at. part client) in omega arith
  where
    part : (client : Client) → standing_of client ≤ charged_to client
    part client = omega arith

-- what stands is within the real charge, with what one client was granted and freed
standing_real : (clients : List Client) (c : ℕ) (client : Client)
    → slice_get clients c ≡ Some client
    → total standing_of clients + client.granted + client.freed ≤ total real_to clients
standing_real [] c client at = cc
standing_real (x ∷ xs) zero client at =
    let same : x ≡ client = cc in
    let granted = ap (λ (k : Client). k.granted) same in
    let freed = ap (λ (k : Client). k.freed) same in
    let rest = total-le standing_of real_to xs (λ i k there. part k) in
    omega arith
  where
    part : (k : Client) → standing_of k ≤ real_to k
    part k = omega arith
standing_real (x ∷ xs) (suc c) client at = let rest = standing_real xs c client at in omega arith

module _ {T : Type 0} (fits : T → Key → List ℕ → Type 0) (p : Plan T) (s : Shard fits p)
    (r : Holds fits p s) where
  -- under strict, all charges with what is granted and what was freed are at most the capacity
  pub real_limit : p.strict ≡ true → real_in r.world.slots r.world.clients ≤ p.capacity
  real_limit strict =
      let most = (law_is fits p s r).ledgers.real (ap (λ x. x.strict) r.setup ∙ strict) in
      let same : r.world.setup.capacity ≡ p.capacity = ap (λ x. x.capacity) r.setup in
      omega arith

  -- in them are one client's, with the entries of records, each once
  pub real_beside : p.strict ≡ true → (c : ℕ) (client : Client)
      → slice_get r.world.clients c ≡ Some client
      → (rs : List Record) → Each (IsRecorded r.world.slots) rs
      → real_to client + charge_held rs ≤ p.capacity
  real_beside strict c client at rs recorded =
      let most = real_limit strict in
      let member = total-member real_to r.world.clients c client at in
      let entries = charges_within r.world.slots rs recorded in
      omega arith

  -- and all that stands
  pub standing_beside : p.strict ≡ true → (c : ℕ) (client : Client)
      → slice_get r.world.clients c ≡ Some client
      → (rs : List Record) → Each (IsRecorded r.world.slots) rs
      → standing_in r.world + client.granted + client.freed + charge_held rs ≤ p.capacity
  standing_beside strict c client at rs recorded =
      let most = real_limit strict in
      let standing = standing_real r.world.clients c client at in
      let entries = charges_within r.world.slots rs recorded in
      omega arith

  -- under strict the usage is above the capacity by what clients still need at most
  pub usage_most : p.strict ≡ true → (c : ℕ) (client : Client)
      → slice_get r.world.clients c ≡ Some client
      → usage_of r.world ≤ p.capacity + client.needed + 2 ^ 32 * (p.geometry.clients - 1)
  usage_most strict c client at =
      let most = real_limit strict in
      let parts = charged_real r.world.clients in
      let others = total_beside (λ (k : Client). k.needed) 4294967296 r.world.clients c client at
      (λ j k there. let asked = (r.ledgers.modest j k there).asked in omega arith) in
      let count : length r.world.clients ≡ p.geometry.clients =
      (law_is fits p s r).sized.client_count ∙ ap (λ x. x.clients) r.setup in
      let rest : ℕ = length r.world.clients - 1 in
      let same : rest ≡ p.geometry.clients - 1 = ap (λ (n : ℕ). n - 1) count in
      omega arith

  -- the usage word is these, with what clients still need
  pub usage_real : ledger_word p s USAGE
      ≡ real_in r.world.slots r.world.clients + total (λ (c : Client). c.needed) r.world.clients
  usage_real = let word = r.ledgers.usage in let parts = charged_real r.world.clients in omega arith

  -- and is below 2^60
  pub usage_limit : ledger_word p s USAGE < 2 ^ 60
  usage_limit = rw r.ledgers.usage (usage_low fits p s r)

  -- the places that are taken, with the freed slots, are at most the limit
  pub places_limit : taken_in r.world.slots r.world.clients ≤ limit_of (setup_of p)
  places_limit =
      let most = (law_is fits p s r).ledgers.places in
      let limit : limit_of r.world.setup ≡ limit_of (setup_of p) = ap limit_of r.setup in
      omega arith

  -- the occupancy word is at most the limit, with an open place for each client
  pub occupancy_limit : ledger_word p s OCCUPANCY ≤ limit_of (setup_of p) + p.geometry.clients
  occupancy_limit =
      let near = occupancy_near r.world (law_is fits p s r) in
      let word = r.ledgers.occupancy in
      let limit : limit_of r.world.setup ≡ limit_of (setup_of p) = ap limit_of r.setup in
      let clients : r.world.setup.clients ≡ p.geometry.clients = ap (λ x. x.clients) r.setup in
      omega arith

  -- the standing word is at most the usage word
  pub standing_limit : ledger_word p s STANDING ≤ ledger_word p s USAGE
  standing_limit =
      let used = standing_used r.world in
      let word = r.ledgers.standing in
      let all = r.ledgers.usage in
      omega arith

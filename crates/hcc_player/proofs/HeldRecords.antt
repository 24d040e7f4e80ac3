-- A client's records at a shard, each found by its name; and those that stand for entries.
use Rattle.std.proofs.Common.{◌≡◌, ◌≢◌, ℕ, zero, suc, ◌+◌, ◌≤◌, ◌==◌, ◌⊎◌, inl, inr, true, false, not, Bool}
use Rattle.std.proofs.Common.{List, [], ◌∷◌, ◌++◌, Option, Some, None, filter, length, map, refl}
use Rattle.std.proofs.Common.{sym, ap, ◌∙◌, subst, arith, rules, tests}
use Rattle.std.specs.Prelude.{slice_get, slice_index_or}
use Rattle.std.proofs.lemmas.Bool.{cases_eq}
use Rattle.hcc_core.specs.Sums.{total, when}
use Rattle.hcc_core.proofs.SumLemmas.{total-append}
use Rattle.hcc_rule.proofs.Basics.Lists.{there}
use Rattle.hcc_rule.specs.declared.view.Record.{Record}
use Rattle.hcc_rule.specs.Records.{different, off, record_in}
use Rattle.hcc_rule.specs.Views.{is_called, is_on}
use Rattle.hcc_shard.specs.declared.seat.ShardSeat.{ShardSeat}
use Rattle.hcc_shard.specs.Callers.{view_of}
use Rattle.hcc_cache.specs.declared.cache.Cache.{Cache}
use Rattle.hcc_cache.specs.declared.client.Client.{Client}
use Rattle.hcc_cache.specs.declared.holding.Hold.{Hold}
use Rattle.hcc_cache.specs.declared.holding.Kept.{Kept}
use Rattle.hcc_cache.specs.declared.holding.Kept.TheVariants.{Pinned, Standing}
use Rattle.hcc_cache.specs.declared.seeded.Seeded.{Seeded}
use Rattle.hcc_cache.specs.Clients.{view_by}
use Rattle.hcc_cache.specs.Known.{IsKeptAs, Knows, is_pinned, records_at}
use Rattle.hcc_player.proofs.SumsWithin.{Member, all_pass, each_as_large, fewer_pass, in_back}
use Rattle.hcc_player.proofs.SumsWithin.{in_front, in_map, passes_in, sum_within, was_in}

-- Of the records of a shard.

-- the first record of each name
abbrev pub named : List Record → List Record
named [] = []
named (r ∷ rs) = r ∷ filter (λ (q : Record). not (is_called r.name q)) (named rs)

-- another name passes
other_name : (q r : Record) → r.name ≢ q.name → not (is_called q.name r) ≡ true
other_name q r other =
    let no : (r.name == q.name) ≡ false = search (rules, tests) in ap not no

-- a record that is found by its name is one of those
pub named_in : (n : ℕ) (rs : List Record) (r : Record) → record_in n rs ≡ Some r
    → Member r (named rs) × (r.name ≡ n)
named_in n [] r is = cc
named_in n (q ∷ qs) r is =
    elim (cases_eq q.name n) [
      | inl same ↦
          let yes : (q.name == n) ≡ true = search (rules, tests) in
          let first : Some q ≡ Some r = rw yes at is in
          let it : r ≡ q = cc in (inl it, ap (λ (x : Record). x.name) it ∙ same)
      | inr other ↦
          let no : (q.name == n) ≡ false = search (rules, tests) in
          let rest = named_in n qs r (rw no at is) in
          let far : r.name ≢ q.name = λ e. other (sym e ∙ rest.1) in (
            inr (passes_in (λ (x : Record). not (is_called q.name x)) r (named qs)
                (other_name q r far) rest.0),
            rest.1,
          )
    ]

pub named_few : (rs : List Record) → length (named rs) ≤ length rs
named_few [] = omega arith
named_few (r ∷ rs) =
    let rest = named_few rs in
    let less = fewer_pass (λ (q : Record). not (is_called r.name q)) (named rs) in omega arith

-- where none is left out, each record is found by its name
pub named_each : (rs : List Record) → length rs ≤ length (named rs) → (r : Record) → Member r rs
    → record_in r.name rs ≡ Some r
named_each [] many r in_rs = absurd in_rs
named_each (q ∷ qs) many r (inl same) =
    let yes : (q.name == q.name) ≡ true = search (rules, tests) in
    subst (λ (x : Record). record_in x.name (q ∷ qs) ≡ Some x) (sym same) (rw yes refl)
named_each (q ∷ qs) many r (inr more) =
    let few = named_few qs in
    let less = fewer_pass (λ (x : Record). not (is_called q.name x)) (named qs) in
    let found = named_each qs (omega arith) r more in
    let passed = all_pass (λ (x : Record). not (is_called q.name x)) (named qs) (omega arith) r
    (named_in r.name qs r found).0 in
    elim (cases_eq q.name r.name) [
      | inl same ↦
          let yes : (r.name == q.name) ≡ true = search (rules, tests) in
          let no : false ≡ true = rw yes at passed in cc
      | inr other ↦
          let no : (q.name == r.name) ≡ false = search (rules, tests) in rw no found
    ]

-- a record is on the slot of one of those that stand for entries
pub different_in : (rs : List Record) (r : Record) → Member r rs
    → (d : Record) × Member d (different rs) × (d.slot ≡ r.slot)
different_in [] r in_rs = absurd in_rs
different_in (q ∷ qs) r (inl same) = (q, inl refl, ap (λ (x : Record). x.slot) (sym same))
different_in (q ∷ qs) r (inr more) =
    let rest = different_in qs r more in
    elim (cases_eq rest.0.slot q.slot) [
      | inl same ↦ (q, inl refl, sym same ∙ rest.2)
      | inr other ↦
          let no : (rest.0.slot == q.slot) ≡ false = search (rules, tests) in (
            rest.0,
            inr (passes_in (λ x. not (is_on q.slot x)) rest.0 (different qs) (ap not no) rest.1),
            rest.2,
          )
    ]

pub different_was : (rs : List Record) (d : Record) → Member d (different rs) → Member d rs
different_was [] d in_rs = absurd in_rs
different_was (q ∷ qs) d (inl same) = inl same
different_was (q ∷ qs) d (inr more) =
    inr (different_was qs d (was_in (λ x. not (is_on q.slot x)) d (different qs) more))

-- Of all shards.

-- a thing that a client has at a shard: an entry there that it holds, by its slot, or a standalone
-- one, by its name
pub record Item : Type 0 where
  pub shard : ℕ
  pub standing : Bool
  pub number : ℕ
  pub charge : ℕ

module _ {T : Type 0} (at : ℕ → ShardSeat T → List Item) where
  -- what it has at these shards, of which the first has this number
  abbrev pub items : (number : ℕ) → List (ShardSeat T) → List Item
  items number [] = []
  items number (seat ∷ seats) = at number seat ++ items (number + 1) seats

  in_items : (number s : ℕ) (seats : List (ShardSeat T)) (seat : ShardSeat T) (i : Item)
      → slice_get seats s ≡ Some seat → Member i (at (number + s) seat)
      → Member i (items number seats)
  in_items number s [] seat i here in_at = cc
  in_items number zero (o ∷ seats) seat i here in_at =
      let same : o ≡ seat = cc in
      let first : number + 0 ≡ number = omega arith in
      in_front i (at number o) (items (number + 1) seats)
      (subst (λ x. Member i (at number x)) (sym same)
      (subst (λ n. Member i (at n seat)) first in_at))
  in_items number (suc s) (o ∷ seats) seat i here in_at =
      let far : number + suc s ≡ (number + 1) + s = omega arith in
      in_back i (at number o) (items (number + 1) seats)
      (in_items (number + 1) s seats seat i here (subst (λ n. Member i (at n seat)) far in_at))

  pub in_all : (s : ℕ) (seats : List (ShardSeat T)) (seat : ShardSeat T) (i : Item)
      → slice_get seats s ≡ Some seat → Member i (at s seat) → Member i (items 0 seats)
  in_all s seats seat i here in_at =
      let far : s ≡ 0 + s = omega arith in
      in_items 0 s seats seat i here (subst (λ n. Member i (at n seat)) far in_at)

  pub total_items : (weight : Item → ℕ) (f : ShardSeat T → ℕ)
      → ((n : ℕ) (seat : ShardSeat T) → total weight (at n seat) ≡ f seat)
      → (number : ℕ) (seats : List (ShardSeat T))
      → total weight (items number seats) ≡ total f seats
  total_items weight f each number [] = refl
  total_items weight f each number (seat ∷ seats) =
      let here = each number seat in
      let rest = total_items weight f each (number + 1) seats in
      let both = total-append weight (at number seat) (items (number + 1) seats) in
      omega arith

-- Each record is found by its name, as there are as many as handles.

abbrev named_item : (shard : ℕ) → Record → Item
named_item shard r =
    record { shard = shard; standing = false; number = r.name; charge = 1 }

abbrev named_at : {T : Type 0} → ℕ → ShardSeat T → List Item
named_at shard seat = map (named_item shard) (named (view_of seat).records)

abbrev named_of : {T : Type 0} → ShardSeat T → ℕ
named_of seat = length (named (view_of seat).records)

ones : (shard : ℕ) (rs : List Record)
    → total (λ (i : Item). i.charge) (map (named_item shard) rs) ≡ length rs
ones shard [] = refl
ones shard (r ∷ rs) = let rest = ones shard rs in omega arith

-- a handle's place in its slab
slot_get : {V : Type 0} (xs : List (Option V)) (k : ℕ) (x : Option V) → slice_get xs k ≡ Some x
    → slice_index_or xs k None ≡ x
slot_get [] k x at = cc
slot_get (y ∷ ys) zero x at = cc
slot_get (y ∷ ys) (suc k) x at = slot_get ys k x at

module _ {T : Type 0} (cache : Cache T) (client : Client T) (known : Knows cache client) where
  abbrev seats : List (ShardSeat (Seeded T))
  seats = client.seats.items

  -- a handle is on a record of this name
  abbrev IsNamed : Option Hold → Item → Type 0
  IsNamed x i = (h : Hold) × (x ≡ Some h) × (i.shard ≡ h.shard) × (i.number ≡ h.serial)

  abbrev IsCalledAs : Option Hold → Option Hold → Type 0
  IsCalledAs x y =
      (h : Hold) × (k : Hold) × (x ≡ Some h) × (y ≡ Some k) × (h.serial ≡ k.serial)

  called_as : (x y : Option Hold) (i : Item) → IsNamed x i → IsNamed y i → IsCalledAs x y
  called_as x y i on off = (on.0, off.0, on.1, off.1, sym on.3 ∙ off.3)

  abbrev pins : Option Hold → ℕ
  pins slot = when (is_pinned slot) 1

  abbrev InNamed : Option Hold → Type 0
  InNamed x =
      (pins x ≡ 0) ⊎ ((i : Item) × IsNamed x i × Member i (items named_at 0 seats)
      × (pins x ≤ i.charge))

  pinned_in : (k : ℕ) (hold : Hold) (kept : Kept) → hold.kept ≡ kept
      → slice_index_or client.handles.slots k None ≡ Some hold → InNamed (Some hold)
  pinned_in k hold (Standing index) is at = inl (rw is refl)
  pinned_in k hold (Pinned slot counting) is at =
      let held = known.holds.each k hold at in
      let stands = subst (IsKeptAs cache.seed seats client.alone hold) is held.0.stands in
      let seat = there seats hold.shard held.0.within in
      let records = ap (λ o. (view_by o).records) seat.1 in
      let found = named_in hold.serial (view_of seat.0).records stands.handled
      (subst (λ rs. record_in hold.serial rs ≡ Some stands.handled) records stands.there) in
      inr (
        named_item hold.shard stands.handled,
        (hold, refl, refl, found.1),
        in_all named_at hold.shard seats seat.0 (named_item hold.shard stands.handled) seat.1
            (in_map (named_item hold.shard) stands.handled (named (view_of seat.0).records)
            found.0),
        rw is (omega arith),
      )

  in_named : (k : ℕ) (x : Option Hold) → slice_get client.handles.slots k ≡ Some x → InNamed x
  in_named k None at = inl refl
  in_named k (Some hold) at =
      pinned_in k hold hold.kept refl (slot_get client.handles.slots k (Some hold) at)

  apart_named : (j k : ℕ) (x y : Option Hold) → slice_get client.handles.slots j ≡ Some x
      → slice_get client.handles.slots k ≡ Some y → IsCalledAs x y → j ≡ k
  apart_named j k x y here there same =
      known.holds.apart j k same.0 same.1
      (slot_get client.handles.slots j x here ∙ same.2)
      (slot_get client.handles.slots k y there ∙ same.3) same.4

  as_many : total records_at seats ≤ total named_of seats
  as_many =
      let within = sum_within pins (λ (i : Item). i.charge) IsNamed IsCalledAs called_as
      client.handles.slots (items named_at 0 seats) in_named apart_named in
      let whole = total_items named_at (λ (i : Item). i.charge) named_of
      (λ n seat. ones n (named (view_of seat).records)) 0 seats in
      let handles = known.holds.pins in
      omega arith

  pub found_by_name : (s : ℕ) (seat : ShardSeat (Seeded T)) → slice_get seats s ≡ Some seat
      → (r : Record) → Member r (view_of seat).records
      → record_in r.name (view_of seat).records ≡ Some r
  found_by_name s seat at r in_rs =
      named_each (view_of seat).records
      (each_as_large records_at named_of seats (λ x. named_few (view_of x).records) as_many s seat
      at) r in_rs

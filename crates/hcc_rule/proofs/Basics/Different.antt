-- Records of different slots are on different entries: what these entries have in sum is within
-- what all slots have.
use Rattle.std.proofs.Common.{◌≡◌, ℕ, ◌≤◌, ◌≢◌, List, [], ◌∷◌, Option, Some, None, length, slice_get, slice_set, refl, ap, ◌∙◌, arith}
use Rattle.hcc_core.specs.declared.slot.Entry.{Entry}
use Rattle.hcc_core.specs.declared.slot.Slot.{Slot}
use Rattle.hcc_core.specs.declared.slot.Slot.TheVariants as slots
use Rattle.hcc_core.specs.Sums.{total}
use Rattle.hcc_core.specs.World.{charge_of, taken_by_slot}
use Rattle.hcc_core.proofs.SumLemmas.{total-set}
use Rattle.hcc_rule.specs.declared.view.Record.{Record}
use Rattle.hcc_rule.specs.Views.{Each}
use Rattle.hcc_rule.specs.Records.{different}
use Rattle.hcc_rule.specs.Rule.{entry_by, entry_in, IsRecorded}
use Rattle.hcc_core.proofs.ListLemmas.{read_other}
use Rattle.hcc_rule.proofs.Basics.Lists.{each_map}
use Rattle.hcc_rule.proofs.Basics.Records.{total_ones, Apart, different_each, different_apart}

-- Where the slot of each record gives what the record does, and an empty slot gives nothing, a sum
-- over records of different slots is within the sum over all slots.
module _ (f : Slot → ℕ) (g : Record → ℕ) where
  -- the slot of a record gives as much
  abbrev pub Gives : List Slot → Record → Type 0
  Gives all r = (slot : Slot) × (slice_get all r.slot ≡ Some slot) × (f slot ≡ g r)

  -- the slots of other records stay
  gives_others : (all : List Slot) (i : ℕ) (left : Slot) (rs : List Record)
      → Each (λ (q : Record). q.slot ≢ i) rs → Each (Gives all) rs
      → Each (Gives (slice_set all i left)) rs
  gives_others all i left [] others gives = tt
  gives_others all i left (r ∷ rs) others gives = (
    (gives.0.0, read_other all i r.slot left others.0 ∙ gives.0.1, gives.0.2),
    gives_others all i left rs others.1 gives.1,
  )

  apart_within : f (slots.Empty 0) ≡ 0 → (all : List Slot) (rs : List Record) → Each (Gives all) rs
      → Apart rs → total g rs ≤ total f all
  apart_within none_there all [] gives apart = omega arith
  apart_within none_there all (r ∷ rs) gives apart =
      let rest = apart_within none_there (slice_set all r.slot (slots.Empty 0)) rs
      (gives_others all r.slot (slots.Empty 0) rs apart.0 gives.1) apart.1 in
      let change = total-set f all r.slot gives.0.0 (slots.Empty 0) gives.0.1 in
      let mine = gives.0.2 in
      omega arith

  pub different_within : f (slots.Empty 0) ≡ 0 → (all : List Slot) (rs : List Record)
      → Each (Gives all) rs → total g (different rs) ≤ total f all
  different_within none_there all rs gives =
      apart_within none_there all (different rs) (different_each (Gives all) rs gives)
      (different_apart rs)

-- what a slot gives by its entry, its records give
pub gives_entry : (f : Slot → ℕ) (g : Entry → ℕ)
    → ((slot : Slot) (e : Entry) → entry_by slot ≡ Some e → f slot ≡ g e)
    → (all : List Slot) (r : Record) → IsRecorded all r → Gives f (λ (q : Record). g q.entry) all r
gives_entry f g same all r recorded = by (slice_get all r.slot) refl recorded.there
  where
    by : (o : Option Slot) → slice_get all r.slot ≡ o → entry_in o ≡ Some r.entry
        → Gives f (λ (q : Record). g q.entry) all r
    by None at is = cc
    by (Some slot) at is = (slot, at, same slot r.entry is)

-- a slot has its entry's charge, and is one place
charge_there : (slot : Slot) (e : Entry) → entry_by slot ≡ Some e → charge_of slot ≡ e.charge
charge_there (slots.Empty strays) e is = cc
charge_there (slots.Building client strays) e is = cc
charge_there (slots.Shareable r) e is = ap (λ (x : Entry). x.charge)
    (let same : r.entry ≡ e = cc in same)

taken_there : (slot : Slot) (e : Entry) → entry_by slot ≡ Some e → taken_by_slot slot ≡ 1
taken_there (slots.Empty strays) e is = cc
taken_there (slots.Building client strays) e is = cc
taken_there (slots.Shareable r) e is = refl

-- the charges of the entries that a client holds are among those of all slots
pub charges_within : (all : List Slot) (rs : List Record) → Each (IsRecorded all) rs
    → total (λ (r : Record). r.entry.charge) (different rs) ≤ total charge_of all
charges_within all rs recorded =
    different_within charge_of (λ (r : Record). r.entry.charge) refl all rs
    (each_map (IsRecorded all) (Gives charge_of (λ (r : Record). r.entry.charge) all)
    (gives_entry charge_of (λ e. e.charge) charge_there all) rs recorded)

-- and their places among the places of all
pub places_within : (all : List Slot) (rs : List Record) → Each (IsRecorded all) rs
    → length (different rs) ≤ total taken_by_slot all
places_within all rs recorded =
    let within = different_within taken_by_slot (λ r. 1) refl all rs
    (each_map (IsRecorded all) (Gives taken_by_slot (λ r. 1) all)
    (gives_entry taken_by_slot (λ e. 1) taken_there all) rs recorded) in
    let ones = total_ones (different rs) in
    omega arith

-- A shard with one client: the charges of its entries are among those of all that the client made.
use Rattle.std.proofs.Common.{◌≡◌, ℕ, suc, ◌+◌, ◌≤◌, true, List, [], ◌∷◌, Option, Some, None, slice_get, slice_set, sym, refl, ap, ◌∙◌, arith}
use Rattle.std.specs.Option.{unwrap_or}
use Rattle.hcc_core.specs.declared.slot.Entry.{Entry}
use Rattle.hcc_core.specs.declared.slot.Resident.{Resident}
use Rattle.hcc_core.specs.declared.slot.Slot.{Slot}
use Rattle.hcc_core.specs.declared.slot.Slot.TheVariants as slots
use Rattle.hcc_core.specs.Lawful.{stamp_in}
use Rattle.hcc_core.specs.Sums.{total}
use Rattle.hcc_core.specs.World.{charge_of, charged_to, usage_of}
use Rattle.hcc_core.proofs.ListLemmas.{read_other}
use Rattle.hcc_core.proofs.SumLemmas.{total-set}
use Rattle.hcc_rule.specs.declared.key.Key.{Key}
use Rattle.hcc_rule.specs.declared.rule.Plan.{Plan}
use Rattle.hcc_rule.specs.declared.view.Made.{Made}
use Rattle.hcc_rule.specs.declared.view.View.{View}
use Rattle.hcc_rule.specs.Rule.{entry_in, IsStored, Holds}
use Rattle.hcc_rule.specs.Views.{charge_made, is_seated}
use Rattle.hcc_rule.proofs.Basics.Lists.{within}
use Rattle.hcc_rule.proofs.Limits.Alone.{one_client, one_total}
use Rattle.hcc_rule.proofs.Limits.MadeEntries.{maker_near}
use Rattle.hcc_rule.proofs.Parts.Asides.{law_is}
use Rattle.hcc_rule.proofs.Parts.SlotSteps.{Shard}
use Rattle.hcc_rule.proofs.Parts.Touches.{book_is, client_is}

-- Where each member of a list gives nothing, or has a place in another list that gives as much, and
-- no two have one place, a sum over it is within the sum over the other.
module _ {A B : Type 0} (f : A → ℕ) (g : B → ℕ) where
  -- a member's place gives as much
  abbrev Gives : List B → A → Option ℕ → Type 0
  Gives ys x None = f x ≡ 0
  Gives ys x (Some n) = (y : B) × (slice_get ys n ≡ Some y) × (f x ≡ g y)

  -- and does where another place is emptied
  gives_else : (ys : List B) (n : ℕ) (nothing : B) (x : A) (o : Option ℕ) → (o ≡ Some n → ⊥)
      → Gives ys x o → Gives (slice_set ys n nothing) x o
  gives_else ys n nothing x None other gives = gives
  gives_else ys n nothing x (Some m) other gives = (
    gives.0,
    read_other ys n m nothing (λ same. other (ap Some same)) ∙ gives.1,
    gives.2,
  )

  placed_within : (place : A → Option ℕ) (nothing : B) → g nothing ≡ 0 → (xs : List A) (ys : List B)
      → ((i : ℕ) (x : A) → slice_get xs i ≡ Some x → Gives ys x (place x))
      → ((i j n : ℕ) (x y : A) → slice_get xs i ≡ Some x → slice_get xs j ≡ Some y
      → place x ≡ Some n → place y ≡ Some n → i ≡ j)
      → total f xs ≤ total g ys
  placed_within place nothing none_there [] ys gives apart = omega arith
  placed_within place nothing none_there (x ∷ xs) ys gives apart =
      by (place x) refl (gives 0 x refl)
      (λ zs left. placed_within place nothing none_there xs zs left later)
    where
      later : (i j n : ℕ) (y z : A) → slice_get xs i ≡ Some y → slice_get xs j ≡ Some z
          → place y ≡ Some n → place z ≡ Some n → i ≡ j
      later i j n y z at_y at_z is_y is_z =
          let same = apart (suc i) (suc j) n y z at_y at_z is_y is_z in omega arith

      by : (o : Option ℕ) → place x ≡ o → Gives ys x o
          → ((zs : List B) → ((i : ℕ) (y : A) → slice_get xs i ≡ Some y → Gives zs y (place y))
          → total f xs ≤ total g zs) → total f (x ∷ xs) ≤ total g ys
      by None is none rest =
          let others = rest ys (λ i y at. gives (suc i) y at) in
          omega arith
      by (Some n) is mine rest =
          let others = rest (slice_set ys n nothing) (λ i y at. gives_else ys n nothing y (place y)
          (λ too. absurd (let same = apart 0 (suc i) n x y refl at is too in omega arith))
          (gives (suc i) y at)) in
          let change = total-set g ys n mine.0 nothing mine.1 in
          let same = mine.2 in
          omega arith

-- the number of a slot's entry among all that its maker made
abbrev number_of : Slot → Option ℕ
number_of (slots.Empty strays) = None
number_of (slots.Building client strays) = None
number_of (slots.Shareable q) = Some q.entry.stamp.number

module _ {T : Type 0} (fits : T → Key → List ℕ → Type 0) (p : Plan T) (s : Shard fits p)
    (r : Holds fits p s) (id : ℕ) (v : View T) (at : slice_get s.views id ≡ Some v)
    (seated : is_seated v ≡ true) (alone : p.geometry.clients ≡ 1) where
  book : slice_get r.books v.client ≡ Some v.made
  book = book_is fits p s r id v at seated

  -- the one client made each entry
  maker_is : (i : ℕ) (q : Resident) → slice_get r.world.slots i ≡ Some (slots.Shareable q)
      → q.entry.stamp.client ≡ v.client
  maker_is i q there =
      let maker = maker_near fits p s r i q.entry (ap entry_in there) in
      let client = within r.books v.client v.made book in
      let one = one_client fits p s r id v at seated alone in
      let sized = r.stamps.sized in
      omega arith

  -- and what stands has the charge of what it made
  gives : (i : ℕ) (slot : Slot) → slice_get r.world.slots i ≡ Some slot
      → Gives charge_of (λ (m : Made). m.charge) v.made slot (number_of slot)
  gives i (slots.Empty strays) there = refl
  gives i (slots.Building client strays) there = refl
  gives i (slots.Shareable q) there = (
    stored.made,
    ap (λ o. slice_get (unwrap_or o []) q.entry.stamp.number) (sym mine) ∙ stored.listed,
    ap (λ (e : Entry). e.charge) stored.same,
  )
    where
      stored : IsStored p.geometry.room s.words r.books i q.entry
      stored = r.stored i q.entry (ap entry_in there)

      mine : slice_get r.books q.entry.stamp.client ≡ Some v.made
      mine = ap (slice_get r.books) (maker_is i q there) ∙ book

  -- under a stamp that no other slot's entry has
  stamp_is : (i n : ℕ) (slot : Slot) → slice_get r.world.slots i ≡ Some slot
      → number_of slot ≡ Some n
      → stamp_in (slice_get r.world.slots i) ≡ Some (record { client = v.client; number = n })
  stamp_is i n (slots.Empty strays) there is = cc
  stamp_is i n (slots.Building client strays) there is = cc
  stamp_is i n (slots.Shareable q) there is =
      let client = maker_is i q there in
      let number : q.entry.stamp.number ≡ n = cc in
      ap stamp_in there ∙ (λ k. Some (record { client = client k; number = number k }))

  apart : (i j n : ℕ) (x y : Slot) → slice_get r.world.slots i ≡ Some x
      → slice_get r.world.slots j ≡ Some y → number_of x ≡ Some n → number_of y ≡ Some n → i ≡ j
  apart i j n x y at_x at_y is_x is_y =
      (law_is fits p s r).stamped.apart i j record { client = v.client; number = n }
      (stamp_is i n x at_x is_x) (stamp_is j n y at_y is_y)

  -- The charges of all entries are among those of what it made.
  charges_made : total charge_of r.world.slots ≤ charge_made v
  charges_made =
      placed_within charge_of (λ (m : Made). m.charge) number_of
      record { serial = 0; key = record { w0 = 0; w1 = 0 }; value = []; charge = 0 }
      refl r.world.slots v.made gives apart

  -- The usage is these, with what it has in hand.
  pub usage_alone : usage_of r.world ≤ charged_to v.work + charge_made v
  usage_alone =
      let client = client_is fits p s r id v at seated in
      let one = one_client fits p s r id v at seated alone in
      let hands = one_total charged_to r.world.clients v.client v.work client one in
      let entries = charges_made in
      omega arith

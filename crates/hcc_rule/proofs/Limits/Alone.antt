-- A shard with one client: one seat made all entries and took those that are gone.
use Rattle.std.proofs.Common.{◌≡◌, ℕ, zero, suc, ◌+◌, ◌≤◌, true, List, [], ◌∷◌, Option, Some, None, is_some, length, slice_get, refl, ap, ◌∙◌, arith}
use Rattle.hcc_core.specs.Sums.{when, total}
use Rattle.hcc_core.specs.World.{taken_by_slot, occupied_by, occupancy_of, standing_in, standing_of}
use Rattle.hcc_core.specs.declared.slot.Reference.{Reference}
use Rattle.hcc_rule.specs.declared.view.Record.{Record}
use Rattle.hcc_core.proofs.SumLemmas.{total-member}
use Rattle.hcc_rule.specs.declared.key.Key.{Key}
use Rattle.hcc_rule.specs.declared.rule.Plan.{Plan}
use Rattle.hcc_rule.specs.declared.view.Made.{Made}
use Rattle.hcc_rule.specs.declared.view.View.{View}
use Rattle.hcc_rule.specs.Views.{held, is_on, is_seated, named_by, reference_of}
use Rattle.hcc_rule.specs.Rule.{Holds}
use Rattle.hcc_rule.proofs.Parts.Asides.{law_is}
use Rattle.hcc_rule.proofs.Basics.Records.{total_ones}
use Rattle.hcc_rule.proofs.Parts.Touches.{client_is, book_is}
use Rattle.hcc_rule.proofs.Parts.SlotSteps.{Shard}

-- where no member has any of one sum, and so none of another, that is 0
no_total : {A : Type 0} (f g : A → ℕ) (xs : List A) → total f xs ≤ 0
    → ((j : ℕ) (y : A) → slice_get xs j ≡ Some y → f y ≡ 0 → g y ≡ 0) → total g xs ≡ 0
no_total f g [] few none_too = refl
no_total f g (x ∷ xs) few none_too =
    let first = none_too 0 x refl (omega arith) in
    let rest = no_total f g xs (omega arith) (λ j y at. none_too (suc j) y at) in
    omega arith

-- where one member has all of one sum, and others have none of another, it has all of that
alone_total : {A : Type 0} (f g : A → ℕ) (xs : List A) (i : ℕ) (x : A) → slice_get xs i ≡ Some x
    → total f xs ≤ f x
    → ((j : ℕ) (y : A) → slice_get xs j ≡ Some y → f y ≡ 0 → g y ≡ 0) → total g xs ≡ g x
alone_total f g [] i x at few none_too = cc
alone_total f g (y ∷ ys) zero x at few none_too =
    let same : y ≡ x = cc in
    let same_f : f y ≡ f x = ap f same in
    let same_g : g y ≡ g x = ap g same in
    let rest = no_total f g ys (omega arith) (λ j z there. none_too (suc j) z there) in
    omega arith
alone_total f g (y ∷ ys) (suc i) x at few none_too =
    let member = total-member f ys i x at in
    let first = none_too 0 y refl (omega arith) in
    let rest = alone_total f g ys i x at (omega arith) (λ j z there. none_too (suc j) z there) in
    omega arith

-- the sum over a list of one
pub one_total : {A : Type 0} (g : A → ℕ) (xs : List A) (i : ℕ) (x : A) → slice_get xs i ≡ Some x
    → length xs ≡ 1 → total g xs ≡ g x
one_total g xs i x at one =
    let ones = total_ones xs in
    alone_total (λ y. 1) g xs i x at (omega arith) (λ j y there none. absurd (omega arith))

module _ {T : Type 0} (fits : T → Key → List ℕ → Type 0) (p : Plan T) (s : Shard fits p)
    (r : Holds fits p s) (id : ℕ) (v : View T) (at : slice_get s.views id ≡ Some v)
    (seated : is_seated v ≡ true) (alone : p.geometry.clients ≡ 1) where
  -- the world has that client alone
  pub one_client : length r.world.clients ≡ 1
  one_client = (law_is fits p s r).sized.client_count ∙ (ap (λ x. x.clients) r.setup ∙ alone)

  -- a view that names none took none
  took_none : (j : ℕ) (u : View T) → slice_get s.views j ≡ Some u → named_by u ≡ 0 → u.takings ≡ 0
  took_none j u there none = by u.tag refl
    where
      by : (o : Option T) → u.tag ≡ o → u.takings ≡ 0
      by None is = ((r.seats.each j u there).spent is).3
      by (Some t) is =
          let one : when (is_seated u) 1 ≡ 1 = ap (λ o. when (is_some o) 1) is in
          absurd (omega arith)

  -- all takings are the one seat's
  all_takings : total (λ (u : View T). u.takings) s.views ≡ v.takings
  all_takings =
      let one : when (is_seated v) 1 ≡ 1 = ap (λ b. when b 1) seated in
      let named = r.seats.all in
      let count = one_client in
      alone_total named_by (λ (u : View T). u.takings) s.views id v at (omega arith) took_none

  -- all references are its records
  pub held_alone : (i : ℕ) (h : Reference → ℕ) → total (held i h) s.views ≡ held i h v
  held_alone i h =
      let one : when (is_seated v) 1 ≡ 1 = ap (λ b. when b 1) seated in
      let named = r.seats.all in
      let count = one_client in
      alone_total named_by (held i h) s.views id v at (omega arith) held_none
    where
      held_none : (j : ℕ) (u : View T) → slice_get s.views j ≡ Some u → named_by u ≡ 0
          → held i h u ≡ 0
      held_none j u there none = by u.tag refl
        where
          by : (o : Option T) → u.tag ≡ o → held i h u ≡ 0
          by None is = ap (total (λ (q : Record). when (is_on i q) (h (reference_of u.client q))))
              ((r.seats.each j u there).spent is).0
          by (Some t) is =
              let seated_one : when (is_seated u) 1 ≡ 1 = ap (λ o. when (is_some o) 1) is in
              absurd (omega arith)

  -- all that stands is its own
  pub standing_alone : standing_in r.world ≡ standing_of v.work
  standing_alone = one_total standing_of r.world.clients v.client v.work
      (client_is fits p s r id v at seated) one_client

  -- The entries are as many as it made and did not take.
  pub entries_alone : total taken_by_slot r.world.slots + v.takings ≡ length v.made
  entries_alone =
      let book = book_is fits p s r id v at seated in
      let one_book = r.stamps.sized ∙ one_client in
      let made = one_total (λ (l : List Made). length l) r.books v.client v.made book one_book in
      let takings = all_takings in
      let left = r.stamps.left in
      omega arith

  -- The occupancy is these, with what it has in hand.
  pub occupancy_alone : occupancy_of r.world + v.takings ≡ length v.made + occupied_by v.work
  occupancy_alone =
      let client = client_is fits p s r id v at seated in
      let hands = one_total occupied_by r.world.clients v.client v.work client one_client in
      let entries = entries_alone in
      omega arith

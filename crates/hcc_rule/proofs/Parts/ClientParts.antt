-- What keeps the parts of the rule at a change of one client and its view alone.
use Rattle.std.proofs.Common.{◌≡◌, ℕ, ◌+◌, ◌<◌, ◌≢◌, ◌⊎◌, inl, inr, true, List, Some, length, slice_get, slice_index, slice_set, sym, refl, ap, ◌∙◌, arith}
use Rattle.std.proofs.lemmas.List.{length-set}
use Rattle.hcc_core.specs.declared.client.Client.{Client}
use Rattle.hcc_core.specs.declared.slot.Slot.{Slot}
use Rattle.hcc_core.specs.Sums.{total}
use Rattle.hcc_core.proofs.SumLemmas.{total-set}
use Rattle.hcc_rule.specs.declared.key.Key.{Key}
use Rattle.hcc_rule.specs.declared.view.View.{View}
use Rattle.hcc_rule.specs.Views.{is_seated, held}
use Rattle.hcc_rule.specs.Rule.{Books, book_of, taken_weigh, References, IsHolding, Holding, Seats, Stamps, IsGiven}
use Rattle.hcc_rule.proofs.Basics.Lists.{word_here, word_else, each_set}
use Rattle.hcc_core.proofs.ListLemmas.{set_same}
use Rattle.hcc_rule.proofs.Parts.ViewParts.{holding_set, seats_set}
use Rattle.hcc_rule.proofs.Parts.WorldParts.{given_kept}

-- what a view keeps where neither entries nor references move
pub record SameView {T : Type 0} (v new : View T) : Type 0 where
  pub tag : new.tag ≡ v.tag
  pub client : new.client ≡ v.client
  pub others : new.others ≡ v.others
  pub records : new.records ≡ v.records
  pub made : new.made ≡ v.made
  pub takings : new.takings ≡ v.takings
  pub gone : new.gone ≡ v.gone

-- of what is in hand, the trail, the place and the amounts may differ
abbrev pub SameSlotWork : Client → Client → Type 0
SameSlotWork old new = new ≡ record old {
  trail = new.trail;
  place = new.place;
  granted = new.granted;
  needed = new.needed;
  freed = new.freed;
  freed_slots = new.freed_slots;
  standalones = new.standalones;
}

-- the records of all views stay the references of all slots
pub references_view : {T : Type 0} (all : List Slot) (views : List (View T)) (id : ℕ)
    (v new : View T)
    → References all views → slice_get views id ≡ Some v → SameView v new
    → References all (slice_set views id new)
references_view all views id v new refs at same s slot there h =
    let was = refs s slot there h in
    let change = total-set (held s h) views id v new at in
    let kept : held s h new ≡ held s h v = rw (same.records, same.client) refl in
    omega arith

-- and they stay on their slots' entries
pub holding_view : {T : Type 0} (all : List Slot) (views : List (View T)) (id : ℕ) (v new : View T)
    → Holding all views → slice_get views id ≡ Some v → SameView v new
    → Holding all (slice_set views id new)
holding_view all views id v new holding at same =
    holding_set all all views id new mine (λ j u other there. (holding j u there).recorded) holding
  where
    old : IsHolding all v
    old = holding id v at

    mine : IsHolding all new
    mine = record {
      recorded = rw same.records old.recorded;
      once = rw same.records old.once;
      few = rw same.records old.few;
    }

-- the client stays its view's
pub seats_view : {T : Type 0} (tag : T) (clients : List Client) (books : Books)
    (views : List (View T)) (id : ℕ) (v new : View T)
    → Seats tag clients books views → slice_get views id ≡ Some v → is_seated v ≡ true
    → SameView v new → SameSlotWork v.work new.work
    → Seats tag (slice_set clients v.client new.work) books (slice_set views id new)
seats_view tag clients books views id v new seats at seated same work =
    let old = seats.each id v at in
    let live = ap (λ (c : Client). c.live) work ∙ old.live seated in
    let books_same : slice_set books v.client new.made ≡ books =
    rw same.made (set_same books v.client v.made (old.book seated)) in
    let changed = seats_set tag clients books views id v new seats at seated same.tag same.client
    same.others live in
    rw (← books_same) changed

-- what was shown stays shown
pub stamps_view : {T : Type 0} (fits : T → Key → List ℕ → Type 0) (tag : T) (room : ℕ)
    (all : List Slot) (clients : List Client) (books : Books) (views : List (View T)) (id : ℕ)
    (v new : View T)
    → Stamps fits tag room all clients books views → slice_get views id ≡ Some v
    → slice_get clients v.client ≡ Some v.work → SameView v new → SameSlotWork v.work new.work
    → Stamps fits tag room all (slice_set clients v.client new.work) books (slice_set views id new)
stamps_view {T} fits tag room all clients books views id v new stamps at at_client same work =
    record {
      sized = stamps.sized ∙ sym (length-set clients v.client new.work);
      counted = each_set (λ c client. client.stamps ≡ length (book_of books c)) clients v.client
          new.work
          (ap (λ (c : Client). c.stamps) work ∙ stamps.counted v.client v.work at_client)
          (λ c client other there. stamps.counted c client there);
      right = stamps.right;
      left =
          let change = total-set (λ (u : View T). u.takings) views id v new at in
          let takings = same.takings in
          let was = stamps.left in
          omega arith;
      weighed = λ h.
          let change = total-set (λ (u : View T). taken_weigh h u.gone) views id v new at in
          let gone = ap (taken_weigh h) same.gone in
          let was = stamps.weighed h in
          omega arith;
      given = each_set (λ j u. IsGiven books u) views id new
          (given_kept books books v new (λ stamp made listed. listed) same.takings same.gone
          (stamps.given id v at))
          (λ j u other there. stamps.given j u there);
    }

-- The same where the client's work in hand stays.
pub seats_still : {T : Type 0} (tag : T) (clients : List Client) (books : Books)
    (views : List (View T)) (id : ℕ) (v new : View T)
    → Seats tag clients books views → slice_get views id ≡ Some v → is_seated v ≡ true
    → SameView v new → new.work ≡ v.work
    → Seats tag clients books (slice_set views id new)
seats_still tag clients books views id v new seats at seated same same_work =
    let changed = seats_view tag clients books views id v new seats at seated same
    (rw same_work refl) in
    let clients_same : slice_set clients v.client new.work ≡ clients =
    rw same_work (set_same clients v.client v.work ((seats.each id v at).work seated)) in
    rw clients_same at changed

pub stamps_still : {T : Type 0} (fits : T → Key → List ℕ → Type 0) (tag : T) (room : ℕ)
    (all : List Slot) (clients : List Client) (books : Books) (views : List (View T)) (id : ℕ)
    (v new : View T)
    → Stamps fits tag room all clients books views → slice_get views id ≡ Some v
    → slice_get clients v.client ≡ Some v.work → SameView v new → new.work ≡ v.work
    → Stamps fits tag room all clients books (slice_set views id new)
stamps_still fits tag room all clients books views id v new stamps at at_client same same_work =
    let changed = stamps_view fits tag room all clients books views id v new stamps at at_client
    same (rw same_work refl) in
    let clients_same : slice_set clients v.client new.work ≡ clients =
    rw same_work (set_same clients v.client v.work at_client) in
    rw clients_same at changed

-- Sums over clients that stand in a word.

-- the word at a moves from x to y as the client's part of the sum at b does; or it is another word,
-- and that part stays
abbrev pub Moves : (a b x y : ℕ) → (Client → ℕ) → (old new : Client) → Type 0
Moves a b x y g old new = ((a ≡ b) × (y + g old ≡ x + g new)) ⊎ ((b ≢ a) × (g new ≡ g old))

-- then the word at b stays its sum
pub sum_moved : (words : List ℕ) (a b y rest c : ℕ) (g : Client → ℕ) (clients : List Client)
    (old new : Client)
    → b < length words → slice_get clients c ≡ Some old
    → slice_index words b ≡ rest + total g clients
    → Moves a b (slice_index words a) y g old new
    → slice_index (slice_set words a y) b ≡ rest + total g (slice_set clients c new)
sum_moved words a b y rest c g clients old new low at is moves =
    let change = total-set g clients c old new at in
    elim moves [
      | inl here ↦
          let found : slice_index words a ≡ rest + total g clients =
          ap (slice_index words) here.0 ∙ is in
          let paid = here.1 in
          let now : slice_index (slice_set words a y) b ≡ y =
          ap (λ k. slice_index (slice_set words k y) b) here.0 ∙ word_here words b y low in
          let sum : y ≡ rest + total g (slice_set clients c new) = omega arith in
          now ∙ sum
      | inr else ↦
          let same = else.1 in
          let sum : rest + total g clients ≡ rest + total g (slice_set clients c new) =
          omega arith in
          word_else words a b y else.0 ∙ (is ∙ sum)
    ]

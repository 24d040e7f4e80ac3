-- The parts that speak of stamps, ledgers, the hand and trails, and what keeps them at a change of
-- one slot, one client and its view.
use Rattle.std.proofs.Common.{◌≡◌, ℕ, ◌+◌, ◌*◌, ◌%◌, ◌^◌, ◌<◌, ◌≢◌, ◌⊎◌, inl, inr, zero, suc, List, [], ◌∷◌, ◌++◌, Some, length, slice_get, slice_set, sym, ap, ◌∙◌, arith, refl, Option, None}
use Rattle.std.specs.Option.{unwrap_or}
use Rattle.std.proofs.lemmas.Bool.{cases_eq}
use Rattle.std.proofs.lemmas.List.{length-set}
use Rattle.std.proofs.Math.Nat.{mod-add-mod}
use Rattle.hcc_core.specs.declared.limits.TheConstants.{SLOTS_PER_TURN}
use Rattle.hcc_core.specs.declared.client.Client.{Client}
use Rattle.hcc_core.specs.declared.slot.Stamp.{Stamp}
use Rattle.hcc_core.specs.declared.slot.Slot.{Slot}
use Rattle.hcc_core.specs.Sums.{total}
use Rattle.hcc_core.specs.World.{State, taken_by_slot, charge_of, charged_to, occupied_by, standing_of, trail_of, times}
use Rattle.hcc_core.specs.Outcomes.{with_both}
use Rattle.hcc_core.proofs.ListLemmas.{read_here, read_other}
use Rattle.hcc_core.proofs.SumLemmas.{total-set}
use Rattle.hcc_rule.specs.declared.key.Key.{Key}
use Rattle.hcc_rule.specs.declared.layout.TheConstants.{DISPLACEMENT}
use Rattle.hcc_rule.specs.declared.view.Made.{Made}
use Rattle.hcc_rule.specs.declared.view.Gone.{Gone}
use Rattle.hcc_rule.specs.declared.view.View.{View}
use Rattle.hcc_rule.specs.Words.{field_at, ledger_at}
use Rattle.hcc_rule.specs.Rule.{Books, book_of, made_at, books_weigh, list_weighs, slot_weighs, taken_weigh, IsRight, Stamps, IsModest, Ledgers, IsTrailed, Trails, hand_after, IsGiven}
use Rattle.hcc_rule.proofs.Basics.Lists.{word_else, each_set, each_map}

-- Books.

-- the list that was written, and the others
pub book_here : (books : Books) (c : ℕ) (old new : List Made) → slice_get books c ≡ Some old
    → book_of (slice_set books c new) c ≡ new
book_here books c old new at = ap (λ o. unwrap_or o []) (read_here books c old new at)

pub book_else : (books : Books) (c d : ℕ) (new : List Made) → d ≢ c
    → book_of (slice_set books c new) d ≡ book_of books d
book_else books c d new other = ap (λ o. unwrap_or o []) (read_other books c d new other)

-- a list that only grows keeps what was listed
pub made_grows : (books : Books) (c : ℕ) (old new : List Made) → slice_get books c ≡ Some old
    → ((n : ℕ) (made : Made) → slice_get old n ≡ Some made → slice_get new n ≡ Some made)
    → (stamp : Stamp) (made : Made) → made_at books stamp ≡ Some made
    → made_at (slice_set books c new) stamp ≡ Some made
made_grows books c old new at grows stamp made listed = elim (cases_eq stamp.client c) [
  | inl same ↦
      let was : book_of books stamp.client ≡ old =
      ap (λ o. unwrap_or o []) (ap (slice_get books) same ∙ at) in
      let now : book_of (slice_set books c new) stamp.client ≡ new =
      ap (book_of (slice_set books c new)) same ∙ book_here books c old new at in
      ap (λ l. slice_get l stamp.number) now
      ∙ grows stamp.number made (ap (λ l. slice_get l stamp.number) (sym was) ∙ listed)
  | inr other ↦ ap (λ l. slice_get l stamp.number) (book_else books c stamp.client new other)
      ∙ listed
]

-- what was shown is in a list
pub book_there : (books : Books) (stamp : Stamp) (made : Made) → made_at books stamp ≡ Some made
    → (book : List Made) × (slice_get books stamp.client ≡ Some book)
    × (slice_get book stamp.number ≡ Some made)
book_there books stamp made listed = by (slice_get books stamp.client) refl
  where
    by : (o : Option (List Made)) → slice_get books stamp.client ≡ o
        → (book : List Made) × (slice_get books stamp.client ≡ Some book)
        × (slice_get book stamp.number ≡ Some made)
    by None none =
        let bad : None ≡ Some made =
        ap (λ o. slice_get (unwrap_or o []) stamp.number) (sym none) ∙ listed in
        cc
    by (Some book) some = (
      book,
      some,
      ap (λ o. slice_get (unwrap_or o []) stamp.number) (sym some) ∙ listed,
    )

-- Weighings.

-- a change of one list changes what all weigh by that list's change
pub books_weigh_set : (h : Stamp → ℕ) (k : ℕ) (books : Books) (c d : ℕ) (old new : List Made)
    → slice_get books c ≡ Some old → d ≡ k + c
    → books_weigh h k (slice_set books c new) + list_weighs h d 0 old
    ≡ books_weigh h k books + list_weighs h d 0 new
books_weigh_set h k [] c d old new at is = cc
books_weigh_set h k (b ∷ bs) zero d old new at is =
    let same : b ≡ old = cc in
    let here : k ≡ d = omega arith in
    let was : list_weighs h k 0 b ≡ list_weighs h d 0 old =
    ap (λ x. list_weighs h k 0 x) same ∙ ap (λ z. list_weighs h z 0 old) here in
    let now : list_weighs h k 0 new ≡ list_weighs h d 0 new =
    ap (λ z. list_weighs h z 0 new) here in
    omega arith
books_weigh_set h k (b ∷ bs) (suc c) d old new at is =
    let rest = books_weigh_set h (k + 1) bs c d old new at (omega arith) in omega arith

-- one more in a list
pub list_weighs_push : (h : Stamp → ℕ) (c n : ℕ) (xs : List Made) (x : Made) (m : ℕ)
    → m ≡ n + length xs
    → list_weighs h c n (xs ++ x ∷ [])
    ≡ list_weighs h c n xs + h (record { client = c; number = m })
list_weighs_push h c n [] x m is =
    let here : n ≡ m = omega arith in
    let same : h (record { client = c; number = n }) ≡ h (record { client = c; number = m }) =
    ap (λ z. h (record { client = c; number = z })) here in
    omega arith
list_weighs_push h c n (y ∷ ys) x m is =
    let rest = list_weighs_push h c (n + 1) ys x m (omega arith) in omega arith

-- Stamps.

-- what was given stays so, for views with the same lists and as long as what was listed stays
pub given_kept : {T : Type 0} (books after : Books) (v new : View T)
    → ((stamp : Stamp) (made : Made) → made_at books stamp ≡ Some made
    → made_at after stamp ≡ Some made)
    → new.takings ≡ v.takings → new.gone ≡ v.gone → IsGiven books v → IsGiven after new
given_kept books after v new grows takings gone given = record {
  count = ap length gone ∙ (given.count ∙ sym takings);
  each = rw gone (each_map (λ (g : Gone). made_at books g.stamp ≡ Some g.made)
      (λ (g : Gone). made_at after g.stamp ≡ Some g.made)
      (λ g listed. grows g.stamp g.made listed) v.gone given.each);
}

pub stamps_set : {T : Type 0} (fits : T → Key → List ℕ → Type 0) (tag : T) (room : ℕ)
    (all : List Slot) (clients : List Client) (books : Books) (views : List (View T)) (i id : ℕ)
    (t left : Slot) (v new : View T)
    → Stamps fits tag room all clients books views
    → slice_get all i ≡ Some t → slice_get views id ≡ Some v
    → slice_get clients v.client ≡ Some v.work → slice_get books v.client ≡ Some v.made
    → new.work.stamps ≡ length new.made
    → ((n : ℕ) (made : Made) → slice_get new.made n ≡ Some made → IsRight fits tag room made)
    → taken_by_slot left + new.takings + length v.made
    ≡ taken_by_slot t + v.takings + length new.made
    → ((h : Stamp → ℕ)
    → slot_weighs h left + taken_weigh h new.gone + list_weighs h v.client 0 v.made
    ≡ slot_weighs h t + taken_weigh h v.gone + list_weighs h v.client 0 new.made)
    → ((n : ℕ) (made : Made) → slice_get v.made n ≡ Some made → slice_get new.made n ≡ Some made)
    → IsGiven (slice_set books v.client new.made) new
    → Stamps fits tag room (slice_set all i left) (slice_set clients v.client new.work)
    (slice_set books v.client new.made) (slice_set views id new)
stamps_set {T} fits tag room all clients books views i id t left v new stamps at_slot at_view
    at_client at_book count right paid weighs grows given = record {
      sized = length-set books v.client new.made
          ∙ (stamps.sized ∙ sym (length-set clients v.client new.work));
      counted = each_set (λ c client. client.stamps ≡ length (book_of after c)) clients v.client
          new.work
          (count ∙ ap length (sym (book_here books v.client v.made new.made at_book)))
          (λ c client other there.
          stamps.counted c client there ∙ ap length
          (sym (book_else books v.client c new.made other)));
      right = λ stamp made listed. elim (cases_eq stamp.client v.client) [
        | inl same ↦
            let now : book_of after stamp.client ≡ new.made =
            ap (book_of after) same ∙ book_here books v.client v.made new.made at_book in
            right stamp.number made (ap (λ l. slice_get l stamp.number) (sym now) ∙ listed)
        | inr other ↦
            stamps.right stamp made (ap (λ l. slice_get l stamp.number)
            (sym (book_else books v.client stamp.client new.made other)) ∙ listed)
      ];
      left =
          let slots = total-set taken_by_slot all i t left at_slot in
          let takings = total-set (λ (u : View T). u.takings) views id v new at_view in
          let lists = total-set length books v.client v.made new.made at_book in
          let was = stamps.left in
          omega arith;
      weighed = λ h.
          let slots = total-set (slot_weighs h) all i t left at_slot in
          let gone = total-set (λ (u : View T). taken_weigh h u.gone) views id v new at_view in
          let lists =
          books_weigh_set h 0 books v.client v.client v.made new.made at_book (omega arith) in
          let was = stamps.weighed h in
          let owed = weighs h in
          omega arith;
      given = each_set (λ j u. IsGiven after u) views id new given
          (λ j u other there. given_kept books after u u
          (made_grows books v.client v.made new.made at_book grows) refl refl
          (stamps.given j u there));
    }
  where
    after : Books
    after = slice_set books v.client new.made

-- Ledgers.

-- what a slot gains its client loses
pub sums_both : (f : Slot → ℕ) (g : Client → ℕ) (all : List Slot) (clients : List Client) (i c : ℕ)
    (t left : Slot) (old new : Client)
    → slice_get all i ≡ Some t → slice_get clients c ≡ Some old → f left + g new ≡ f t + g old
    → total f (slice_set all i left) + total g (slice_set clients c new)
    ≡ total f all + total g clients
sums_both f g all clients i c t left old new at_slot at_client paid =
    let slots = total-set f all i t left at_slot in
    let hands = total-set g clients c old new at_client in
    omega arith

-- Ledgers whose sums stay, at a change of a word that is none of theirs.
pub ledgers_kept : (size room : ℕ) (w : State) (words : List ℕ) (i c a y : ℕ) (t left : Slot)
    (old new : Client)
    → Ledgers size room w words → slice_get w.slots i ≡ Some t → slice_get w.clients c ≡ Some old
    → charge_of left + charged_to new ≡ charge_of t + charged_to old
    → taken_by_slot left + occupied_by new ≡ taken_by_slot t + occupied_by old
    → standing_of new ≡ standing_of old → IsModest new
    → ((k : ℕ) → ledger_at size room k ≢ a)
    → Ledgers size room (with_both w i left c new) (slice_set words a y)
ledgers_kept size room w words i c a y t left old new ledgers at_slot at_client charge place
    standing modest apart = record {
      usage =
          word_else words a _ y (apart _)
          ∙ (ledgers.usage ∙ sym
          (sums_both charge_of charged_to w.slots w.clients i c t left old new
          at_slot at_client charge));
      occupancy =
          word_else words a _ y (apart _)
          ∙ (ledgers.occupancy ∙ sym
          (sums_both taken_by_slot occupied_by w.slots w.clients i c t left
          old new at_slot at_client place));
      standing =
          word_else words a _ y (apart _)
          ∙ (ledgers.standing ∙ (let change =
          total-set standing_of w.clients c old new at_client in omega arith));
      modest = each_set (λ _ client. IsModest client) w.clients c new modest
          (λ k client other there. ledgers.modest k client there);
    }

-- The hand.

-- views that count as many turns leave it where it is
pub hand_same : {T : Type 0} (views after : List (View T))
    → total (λ (u : View T). u.turns) after ≡ total (λ (u : View T). u.turns) views
    → hand_after views ≡ hand_after after
hand_same views after same = ap (λ n. (SLOTS_PER_TURN * n) % 2 ^ 64) (sym same)

-- and so does a change of one view that counts as many
pub hand_kept : {T : Type 0} (views : List (View T)) (id : ℕ) (v new : View T)
    → slice_get views id ≡ Some v → new.turns ≡ v.turns
    → hand_after views ≡ hand_after (slice_set views id new)
hand_kept {T} views id v new at same =
    let change = total-set (λ (u : View T). u.turns) views id v new at in
    hand_same views (slice_set views id new) (omega arith)

-- where a view counts one turn more, it is a turn's slots further on
pub hand_moved : {T : Type 0} (views : List (View T)) (id : ℕ) (v new : View T)
    → slice_get views id ≡ Some v → new.turns ≡ v.turns + 1
    → (hand_after views + SLOTS_PER_TURN) % 2 ^ 64 ≡ hand_after (slice_set views id new)
hand_moved {T} views id v new at more =
    mod-add-mod (SLOTS_PER_TURN * turns views) (2 ^ 64) SLOTS_PER_TURN ∙ ap (λ n. n % 2 ^ 64) sum
  where
    turns : List (View T) → ℕ
    turns = total (λ (u : View T). u.turns)

    sum : SLOTS_PER_TURN * turns views + SLOTS_PER_TURN
        ≡ SLOTS_PER_TURN * turns (slice_set views id new)
    sum = let change = total-set (λ (u : View T). u.turns) views id v new at in omega arith

-- the turns of a view stay and the hand does, or the view counts one more and the hand makes a turn
abbrev pub Turning : {T : Type 0} → (v new : View T) → (hand left : ℕ) → Type 0
Turning v new hand left =
    ((new.turns ≡ v.turns) × (left ≡ hand))
    ⊎ ((new.turns ≡ v.turns + 1) × (left ≡ (hand + SLOTS_PER_TURN) % 2 ^ 64))

-- by either, the hand is where the turns of all views leave it
pub hand_set : {T : Type 0} (views : List (View T)) (id hand left : ℕ) (v new : View T)
    → hand ≡ hand_after views → slice_get views id ≡ Some v → Turning v new hand left
    → left ≡ hand_after (slice_set views id new)
hand_set views id hand left v new is at turning = elim turning [
  | inl stays ↦ stays.1 ∙ (is ∙ hand_kept views id v new at stays.0)
  | inr moves ↦ moves.1 ∙ (ap (λ n. (n + SLOTS_PER_TURN) % 2 ^ 64) is
      ∙ hand_moved views id v new at moves.0)
]

-- Trails.

-- Trails whose sums stay, at a change of a word that is none of theirs.
pub trails_kept : (size room : ℕ) (all : List Slot) (clients : List Client) (words : List ℕ)
    (i c a y : ℕ) (t left : Slot) (old new : Client)
    → Trails size room all clients words → slice_get all i ≡ Some t → slice_get clients c ≡ Some old
    → ((s : ℕ) → times s (trail_of left) + times s new.trail
    ≡ times s (trail_of t) + times s old.trail)
    → IsTrailed size i left
    → ((s : ℕ) → s < size → field_at room s DISPLACEMENT ≢ a)
    → Trails size room (slice_set all i left) (slice_set clients c new) (slice_set words a y)
trails_kept size room all clients words i c a y t left old new trails at_slot at_client moved mine
    apart = record {
      passed = λ s near.
          word_else words a _ y (apart s near)
          ∙ (trails.passed s near
          ∙ sym
          (sums_both (λ z. times s (trail_of z)) (λ (k : Client). times s k.trail) all clients i c
          t left old new at_slot at_client (moved s)));
      entries = each_set (IsTrailed size) all i left mine
          (λ s slot other there. trails.entries s slot there);
    }

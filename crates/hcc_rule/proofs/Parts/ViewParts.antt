-- The parts that speak of views, and what keeps them.
use Rattle.std.proofs.Common.{◌≡◌, ℕ, zero, suc, ◌+◌, ◌≤◌, ◌≢◌, ◌==◌, ◌&&◌, Bool, true, false, nat_lt, List, [], ◌∷◌, Some, length, slice_get, slice_set, sym, refl, ap, ◌∙◌, arith}
use Rattle.std.proofs.lemmas.Bool.{eq-eqb}
use Rattle.std.proofs.lemmas.List.{length-set}
use Rattle.hcc_core.specs.declared.client.Client.{Client}
use Rattle.hcc_core.specs.declared.slot.Reference.{Reference}
use Rattle.hcc_core.specs.declared.slot.Slot.{Slot}
use Rattle.hcc_core.specs.Sums.{when, total}
use Rattle.hcc_core.specs.World.{references_of}
use Rattle.hcc_core.proofs.ListLemmas.{read_same, read_here, read_other}
use Rattle.hcc_core.proofs.SumLemmas.{total-set, total-member}
use Rattle.hcc_rule.specs.declared.view.Made.{Made}
use Rattle.hcc_rule.specs.declared.view.Other.{Other}
use Rattle.hcc_rule.specs.declared.view.Record.{Record}
use Rattle.hcc_rule.specs.declared.view.View.{View}
use Rattle.hcc_rule.specs.Views.{is_seated, held, names, named_by, Each}
use Rattle.hcc_rule.specs.Rule.{Books, entry_by, entry_in, IsRecorded, References, IsHolding, Holding, IsNamed, IsSeated, Seats}
use Rattle.hcc_rule.proofs.Basics.Lists.{each_set}

-- References.

-- A slot's references and one view's records change alike.
pub references_set : {T : Type 0} (all : List Slot) (views : List (View T)) (i id : ℕ)
    (t left : Slot) (v new : View T)
    → References all views → slice_get all i ≡ Some t → slice_get views id ≡ Some v
    → ((h : Reference → ℕ) → total h (references_of left) + held i h v
    ≡ total h (references_of t) + held i h new)
    → ((s : ℕ) (h : Reference → ℕ) → s ≢ i → held s h new ≡ held s h v)
    → References (slice_set all i left) (slice_set views id new)
references_set all views i id t left v new r at_slot at_view here others =
    each_set (λ s slot. (h : Reference → ℕ)
    → total h (references_of slot) ≡ total (held s h) (slice_set views id new))
    all i left
    (λ h.
    let change = total-set (held i h) views id v new at_view in
    let was = r i t at_slot h in
    let both = here h in
    omega arith)
    (λ s slot other there h.
    let change = total-set (held s h) views id v new at_view in
    let was = r s slot there h in
    let same = others s h other in
    omega arith)

-- where a slot keeps its entry, a record of it stays one
pub recorded_kept : (all : List Slot) (i : ℕ) (t left : Slot) → slice_get all i ≡ Some t
    → entry_by left ≡ entry_by t
    → (r : Record) → IsRecorded all r → IsRecorded (slice_set all i left) r
recorded_kept all i t left at same r old = record {
  there = read_same entry_in all i r.slot t left at same ∙ old.there;
  some = old.some;
}

-- the records of other slots stay
pub recorded_else : (all : List Slot) (i : ℕ) (left : Slot) (r : Record) → r.slot ≢ i
    → IsRecorded all r → IsRecorded (slice_set all i left) r
recorded_else all i left r other old = record {
  there = ap entry_in (read_other all i r.slot left other) ∙ old.there;
  some = old.some;
}

-- one view changes; the records of the others are of slots that kept their entries
pub holding_set : {T : Type 0} (all after : List Slot) (views : List (View T)) (id : ℕ)
    (new : View T)
    → IsHolding after new
    → ((j : ℕ) (v : View T) → j ≢ id → slice_get views j ≡ Some v
    → Each (IsRecorded after) v.records)
    → Holding all views → Holding after (slice_set views id new)
holding_set all after views id new mine others holding =
    each_set (λ j v. IsHolding after v) views id new mine
    (λ j v other at. let was = holding j v at in record {
      recorded = others j v other at;
      once = was.once;
      few = was.few;
    })

-- Seats.

-- the sum of two members is within the total
pub total-two : {A : Type 0} (f : A → ℕ) (xs : List A) (i j : ℕ) (x y : A) → i ≢ j
    → slice_get xs i ≡ Some x → slice_get xs j ≡ Some y → f x + f y ≤ total f xs
total-two f [] i j x y other at_i at_j = cc
total-two f (z ∷ zs) zero zero x y other at_i at_j = absurd (other refl)
total-two f (z ∷ zs) zero (suc j) x y other at_i at_j =
    let first : f z ≡ f x = ap f (let e : z ≡ x = cc in e) in
    let rest = total-member f zs j y at_j in
    omega arith
total-two f (z ∷ zs) (suc i) zero x y other at_i at_j =
    let first : f z ≡ f y = ap f (let e : z ≡ y = cc in e) in
    let rest = total-member f zs i x at_i in
    omega arith
total-two f (z ∷ zs) (suc i) (suc j) x y other at_i at_j =
    let rest = total-two f zs i j x y (λ e. other (ap suc e)) at_i at_j in
    omega arith

when_one : (b : Bool) → b ≡ true → when b 1 ≡ 1
when_one b is = ap (λ z. when z 1) is

-- a number counts itself
pub when_is : (a c : ℕ) → a ≡ c → when (a == c) 1 ≡ 1
when_is a c e = when_one (a == c) (eq-eqb a c e)

pub when_few : (b : Bool) → when b 1 ≤ 1
when_few true = omega arith
when_few false = omega arith

-- a view names the client that it stands for
pub names_own : {T : Type 0} (v : View T) → is_seated v ≡ true → 1 ≤ names v.client v
names_own v seated =
    let own : when (is_seated v && v.client == v.client) 1 ≡ 1 =
    when_one _ (rw (seated, eq-eqb v.client v.client refl) refl) in
    omega arith

-- and no other view does
pub unnamed : {T : Type 0} (tag : T) (clients : List Client) (books : Books) (views : List (View T))
    (id j : ℕ) (v u : View T)
    → Seats tag clients books views → slice_get views id ≡ Some v → slice_get views j ≡ Some u
    → is_seated v ≡ true → j ≢ id → names v.client u ≡ 0
unnamed tag clients books views id j v u seats at_v at_u seated other =
    let own = names_own v seated in
    let both = total-two (names v.client) views j id u v other at_u at_v in
    let once = seats.once v.client in
    let few = when_few (nat_lt v.client (length clients)) in
    omega arith

-- what is named otherwise is another client
pub seated_else : {T : Type 0} (c : ℕ) (u : View T) → is_seated u ≡ true → names c u ≡ 0
    → u.client ≢ c
seated_else c u seated none same =
    let own : when (is_seated u && u.client == c) 1 ≡ 1 =
    when_one _ (rw (seated, eq-eqb u.client c same) refl) in
    absurd (omega arith)

pub others_else : (c : ℕ) (P Q : Other → Type 0) → ((o : Other) → o.client ≢ c → P o → Q o)
    → (os : List Other) → total (λ (o : Other). when (o.client == c) 1) os ≡ 0 → Each P os
    → Each Q os
others_else c P Q f [] none h = tt
others_else c P Q f (o ∷ os) none h = (
  f o (λ same. let one : when (o.client == c) 1 ≡ 1 =
      when_one _ (eq-eqb o.client c same) in absurd (omega arith)) h.0,
  others_else c P Q f os (omega arith) h.1,
)

-- a client that isn't the one that changes rests as it did
named_else : (clients : List Client) (books : Books) (c : ℕ) (work : Client) (made : List Made)
    (o : Other)
    → o.client ≢ c → IsNamed clients books o
    → IsNamed (slice_set clients c work) (slice_set books c made) o
named_else clients books c work made o other old = record {
  there = read_other clients c o.client work other ∙ old.there;
  book = read_other books c o.client made other ∙ old.book;
}

-- One view's client and its list change, and the view with them.
pub seats_set : {T : Type 0} (tag : T) (clients : List Client) (books : Books)
    (views : List (View T)) (id : ℕ) (v new : View T)
    → Seats tag clients books views → slice_get views id ≡ Some v → is_seated v ≡ true
    → new.tag ≡ v.tag → new.client ≡ v.client → new.others ≡ v.others → new.work.live ≡ true
    → Seats tag (slice_set clients v.client new.work) (slice_set books v.client new.made)
    (slice_set views id new)
seats_set {T} tag clients books views id v new seats at seated tags client others live = record {
  each = each_set (λ j u. IsSeated tag after books_after u) views id new mine
      (λ j u other there. theirs j u (unnamed tag clients books views id j v u seats at there seated
      other) (seats.each j u there));
  once = λ c.
      let same : names c new ≡ names c v = rw (tags, client, others) refl in
      let change = total-set (names c) views id v new at in
      let was = seats.once c in
      let size : when (nat_lt c (length after)) 1 ≡ when (nat_lt c (length clients)) 1 =
      ap (λ n. when (nat_lt c n) 1) (length-set clients v.client new.work) in
      omega arith;
  all =
      let same : named_by new ≡ named_by v = rw (tags, others) refl in
      let change = total-set named_by views id v new at in
      let was = seats.all in
      let size = length-set clients v.client new.work in
      omega arith;
}
  where
    after : List Client
    after = slice_set clients v.client new.work

    books_after : Books
    books_after = slice_set books v.client new.made

    old : IsSeated tag clients books v
    old = seats.each id v at

    own_others : total (λ (o : Other). when (o.client == v.client) 1) v.others ≡ 0
    own_others =
        let own : when (is_seated v && v.client == v.client) 1 ≡ 1 =
        when_one _ (rw (seated, eq-eqb v.client v.client refl) refl) in
        let member = total-member (names v.client) views id v at in
        let once = seats.once v.client in
        let few = when_few (nat_lt v.client (length clients)) in
        omega arith

    mine : IsSeated tag after books_after new
    mine = record {
      tagged = rw tags old.tagged;
      work = λ still. rw client (read_here clients v.client v.work new.work (old.work seated));
      live = λ still. live;
      book = λ still. rw client (read_here books v.client v.made new.made (old.book seated));
      others = rw others (others_else v.client (IsNamed clients books) (IsNamed after books_after)
          (λ o other h. named_else clients books v.client new.work new.made o other h) v.others
          own_others old.others);
      spent = λ none. let bad : is_seated v ≡ false = rw (sym tags ∙ none) refl in cc;
    }

    theirs : (j : ℕ) (u : View T) → names v.client u ≡ 0 → IsSeated tag clients books u
        → IsSeated tag after books_after u
    theirs j u none was = record {
      tagged = was.tagged;
      work = λ sits. read_other clients v.client u.client new.work
          (seated_else v.client u sits none) ∙ was.work sits;
      live = was.live;
      book = λ sits. read_other books v.client u.client new.made (seated_else v.client u sits none)
          ∙ was.book sits;
      others = others_else v.client (IsNamed clients books) (IsNamed after books_after)
          (λ o other h. named_else clients books v.client new.work new.made o other h) u.others
          (omega arith) was.others;
      spent = was.spent;
    }

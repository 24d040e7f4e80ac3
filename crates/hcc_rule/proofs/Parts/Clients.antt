-- What a seat's view tells of its client, and of the references that the client holds.
use Rattle.std.proofs.Common.{◌≡◌, ℕ, zero, suc, ◌+◌, ◌≤◌, ◌≢◌, ◌==◌, ◌||◌, cond, Bool, true, false, List, [], ◌∷◌, Option, Some, None, is_some, option_map, not, slice_get, sym, refl, ap, ◌∙◌, arith, ne_eqb}
use Rattle.std.specs.List.{list_any, find}
use Rattle.std.proofs.lemmas.Bool.{eq-eqb, eqb-true}
use Rattle.hcc_core.specs.declared.client.Client.{Client}
use Rattle.hcc_core.specs.declared.slot.Entry.{Entry}
use Rattle.hcc_core.specs.declared.slot.Reference.{Reference}
use Rattle.hcc_core.specs.declared.slot.Resident.{Resident}
use Rattle.hcc_core.specs.declared.slot.Slot.{Slot}
use Rattle.hcc_core.specs.declared.slot.Slot.TheVariants as slots
use Rattle.hcc_core.specs.Sums.{when, total}
use Rattle.hcc_core.specs.World.{State, references_of, has_client}
use Rattle.hcc_core.specs.Lawful.{Lawful}
use Rattle.hcc_core.specs.References.{dead_to}
use Rattle.hcc_core.proofs.SumLemmas.{total-nothing}
use Rattle.hcc_rule.specs.declared.view.Record.{Record}
use Rattle.hcc_rule.specs.declared.view.View.{View}
use Rattle.hcc_rule.specs.Words.{code_of}
use Rattle.hcc_rule.specs.Looked.{found_dead}
use Rattle.hcc_rule.proofs.Parts.Codes.{tells_entry, tells_shown}
use Rattle.hcc_rule.specs.Views.{reference_of, is_on, is_seated, held, Each}
use Rattle.hcc_rule.specs.Records.{stamp_on}
use Rattle.hcc_rule.specs.Rule.{Books, entry_in, IsRecorded, References, Seats}
use Rattle.hcc_rule.proofs.Parts.ViewParts.{unnamed, seated_else}

-- 1 for a reference of this client
abbrev pub by_client : ℕ → Reference → ℕ
by_client c k = when (k.client == c) 1

-- a sum of one member and nothing else
pub total-only : {A : Type 0} (f : A → ℕ) (xs : List A) (i : ℕ) (x : A) → slice_get xs i ≡ Some x
    → ((j : ℕ) (y : A) → j ≢ i → slice_get xs j ≡ Some y → f y ≡ 0) → total f xs ≡ f x
total-only f [] i x at none = cc
total-only f (y ∷ ys) zero x at none =
    let first : f y ≡ f x = ap f (let e : y ≡ x = cc in e) in
    let rest = total-nothing f ys (λ j z there. none (suc j) z (λ e. omega arith) there) in
    omega arith
total-only f (y ∷ ys) (suc i) x at none =
    let first = none 0 y (λ e. omega arith) refl in
    let rest = total-only f ys i x at (λ j z other there. none (suc j) z
    (λ e. other (let g : j ≡ i = omega arith in g)) there) in
    omega arith

-- a slot has a reference of a client where a sum over them says so
pub any_client : (c : ℕ) (ks : List Reference) → 1 ≤ total (by_client c) ks
    → list_any (λ (k : Reference). k.client == c) ks ≡ true
any_client c [] h = absurd (omega arith)
any_client c (k ∷ ks) h = by (k.client == c) (any_client c ks) h
  where
    by : (b : Bool) → (1 ≤ total (by_client c) ks
        → list_any (λ (k : Reference). k.client == c) ks ≡ true)
        → 1 ≤ when b 1 + total (by_client c) ks
        → (b || list_any (λ (k : Reference). k.client == c) ks) ≡ true
    by true later h = refl
    by false later h = later (omega arith)

pub no_client : (c : ℕ) (ks : List Reference) → total (by_client c) ks ≡ 0
    → list_any (λ (k : Reference). k.client == c) ks ≡ false
no_client c [] h = refl
no_client c (k ∷ ks) h = by (k.client == c) (no_client c ks) h
  where
    by : (b : Bool) → (total (by_client c) ks ≡ 0
        → list_any (λ (k : Reference). k.client == c) ks ≡ false)
        → when b 1 + total (by_client c) ks ≡ 0
        → (b || list_any (λ (k : Reference). k.client == c) ks) ≡ false
    by true later h = absurd (omega arith)
    by false later h = later (omega arith)

-- how many records a view has on a slot
abbrev pub count_on : ℕ → List Record → ℕ
count_on s = total (λ r. when (is_on s r) 1)

-- of its own client they are just as many references
own_count : (s c : ℕ) (rs : List Record)
    → total (λ r. when (is_on s r) (by_client c (reference_of c r))) rs ≡ count_on s rs
own_count s c [] = refl
own_count s c (r ∷ rs) =
    let one : by_client c (reference_of c r) ≡ 1 = ap (λ b. when b 1) (eq-eqb c c refl) in
    let same : when (is_on s r) (by_client c (reference_of c r)) ≡ when (is_on s r) 1 =
    ap (when (is_on s r)) one in
    let rest = own_count s c rs in
    omega arith

-- and of another none
other_count : (s c d : ℕ) (rs : List Record) → d ≢ c
    → total (λ r. when (is_on s r) (by_client c (reference_of d r))) rs ≡ 0
other_count s c d [] other = refl
other_count s c d (r ∷ rs) other =
    let none : by_client c (reference_of d r) ≡ 0 = ap (λ b. when b 1) (ne_eqb d c other) in
    let same : when (is_on s r) (by_client c (reference_of d r)) ≡ when (is_on s r) 0 =
    ap (when (is_on s r)) none in
    let zero_of : when (is_on s r) 0 ≡ 0 =
    elim (is_on s r) as (λ b. when b 0 ≡ 0) [ true ↦ refl | false ↦ refl ] in
    let rest = other_count s c d rs other in
    omega arith

-- The references that a client holds on a slot are the records that its view has of it.
pub held_count : {T : Type 0} (tag : T) (all : List Slot) (clients : List Client) (books : Books)
    (views : List (View T)) (id s : ℕ) (v : View T) (slot : Slot)
    → References all views → Seats tag clients books views
    → slice_get views id ≡ Some v → is_seated v ≡ true → slice_get all s ≡ Some slot
    → total (by_client v.client) (references_of slot) ≡ count_on s v.records
held_count {T} tag all clients books views id s v slot refs seats at seated at_slot =
    refs s slot at_slot (by_client v.client)
    ∙ (total-only f views id v at theirs ∙ own_count s v.client v.records)
  where
    f : View T → ℕ
    f = held s (by_client v.client)

    theirs : (j : ℕ) (u : View T) → j ≢ id → slice_get views j ≡ Some u → f u ≡ 0
    theirs j u other there = by (is_seated u) refl
      where
        by : (b : Bool) → is_seated u ≡ b → f u ≡ 0
        by true sits = other_count s v.client u.client u.records
            (seated_else v.client u sits
            (unnamed tag clients books views id j v u seats at there seated other))
        by false empty = none_of u.tag refl
          where
            none_of : (o : Option T) → u.tag ≡ o → f u ≡ 0
            none_of None is = rw ((seats.each j u there).spent is).0 refl
            none_of (Some t) is = let bad : true ≡ false = sym (ap is_some is) ∙ empty in cc

-- the records of a slot are on its entry
on_entry : (all : List Slot) (s : ℕ) (r : Resident) (rs : List Record) → Each (IsRecorded all) rs
    → slice_get all s ≡ Some (slots.Shareable r) → 1 ≤ count_on s rs
    → stamp_on s rs ≡ Some r.entry.stamp
on_entry all s r [] each at some = absurd (omega arith)
on_entry all s r (q ∷ qs) each at some = by (is_on s q) refl (on_entry all s r qs each.1 at) some
  where
    by : (b : Bool) → is_on s q ≡ b → (1 ≤ count_on s qs → stamp_on s qs ≡ Some r.entry.stamp)
        → 1 ≤ when b 1 + count_on s qs
        → option_map (λ (z : Record). z.entry.stamp) (cond b (Some q) (find (is_on s) qs))
        ≡ Some r.entry.stamp
    by true on later some =
        let there : entry_in (slice_get all q.slot) ≡ Some q.entry = each.0.there in
        let here : slice_get all q.slot ≡ Some (slots.Shareable r) =
        ap (slice_get all) (eqb-true q.slot s on) ∙ at in
        let both : Some q.entry ≡ Some r.entry = sym there ∙ ap entry_in here in
        let same : q.entry ≡ r.entry = cc in
        ap (λ (e : Entry). Some e.stamp) same
    by false on later some = later (omega arith)

-- with none there, there is no stamp
on_nothing : (s : ℕ) (rs : List Record) → count_on s rs ≡ 0 → stamp_on s rs ≡ None
on_nothing s [] none = refl
on_nothing s (q ∷ qs) none = by (is_on s q) (on_nothing s qs) none
  where
    by : (b : Bool) → (count_on s qs ≡ 0 → stamp_on s qs ≡ None) → when b 1 + count_on s qs ≡ 0
        → option_map (λ (z : Record). z.entry.stamp) (cond b (Some q) (find (is_on s) qs)) ≡ None
    by true later none = absurd (omega arith)
    by false later none = later (omega arith)

-- What a view says its client saw dead, by the word that it found, is what the world says.
pub dead_told : {T : Type 0} (tag : T) (w : State) (books : Books) (views : List (View T))
    (id s : ℕ) (v : View T) (slot : Slot)
    → Lawful w → References w.slots views → Seats tag w.clients books views
    → Each (IsRecorded w.slots) v.records
    → slice_get views id ≡ Some v → is_seated v ≡ true → slice_get w.slots s ≡ Some slot
    → found_dead s (code_of slot) v ≡ dead_to v.client slot
dead_told tag w books views id s v (slots.Empty strays) l refs seats each at seated at_slot =
    rw (tells_entry w l s (slots.Empty strays) at_slot) refl
dead_told tag w books views id s v (slots.Building client strays) l refs seats each at seated
    at_slot =
    rw (tells_entry w l s (slots.Building client strays) at_slot) refl
dead_told tag w books views id s v (slots.Shareable r) l refs seats each at seated at_slot =
    rw (tells_entry w l s (slots.Shareable r) at_slot, tells_shown w l s r at_slot)
    (by r.shown refl (has_client v.client (slots.Shareable r)) refl)
  where
    count : total (by_client v.client) r.references ≡ count_on s v.records
    count = held_count tag w.slots w.clients books views id s v (slots.Shareable r) refs seats at
        seated at_slot

    by : (shown : Bool) → r.shown ≡ shown → (has : Bool)
        → has_client v.client (slots.Shareable r) ≡ has
        → cond (not shown) (stamp_on s v.records) None
        ≡ cond has (cond shown None (Some r.entry.stamp)) None
    by true is true holds = refl
    by true is false holds = refl
    by false is true holds = on_entry w.slots s r v.records each at_slot
        (some_of (count_on s v.records) refl)
      where
        some_of : (n : ℕ) → count_on s v.records ≡ n → 1 ≤ count_on s v.records
        some_of zero none =
            let no = no_client v.client r.references (count ∙ none) in
            let bad : true ≡ false = sym holds ∙ no in
            cc
        some_of (suc n) some = omega arith
    by false is false holds = on_nothing s v.records (none_of (count_on s v.records) refl)
      where
        none_of : (n : ℕ) → count_on s v.records ≡ n → count_on s v.records ≡ 0
        none_of zero none = none
        none_of (suc n) some =
            let sum = count in
            let any = any_client v.client r.references (omega arith) in
            let bad : false ≡ true = sym holds ∙ any in
            cc

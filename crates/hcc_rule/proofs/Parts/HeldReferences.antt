-- A record of a view and the reference that it is of.
use Rattle.std.proofs.Common.{◌≡◌, ℕ, ◌≤◌, ◌≢◌, ◌==◌, Bool, true, false, List, Option, Some, None, is_some, slice_get, sym, refl, ap, ◌∙◌, arith, ne_eqb}
use Rattle.std.proofs.lemmas.Bool.{eq-eqb, eqb-true, and_parts}
use Rattle.hcc_core.specs.declared.client.Client.{Client}
use Rattle.hcc_core.specs.declared.slot.Reference.{Reference}
use Rattle.hcc_core.specs.declared.slot.Slot.{Slot}
use Rattle.hcc_core.specs.Sums.{when, total}
use Rattle.hcc_core.specs.World.{references_of, is_named, reference_in, has_reference, slot_holding}
use Rattle.hcc_core.proofs.SumLemmas.{total-nothing}
use Rattle.hcc_rule.specs.declared.view.Record.{Record}
use Rattle.hcc_rule.specs.declared.view.View.{View}
use Rattle.hcc_rule.specs.Views.{reference_of, is_on, is_called, times_called, is_seated, held}
use Rattle.hcc_rule.specs.Records.{record_in}
use Rattle.hcc_rule.specs.Rule.{Books, References, Seats}
use Rattle.hcc_rule.proofs.Parts.ViewParts.{unnamed, seated_else}
use Rattle.hcc_rule.proofs.Parts.Clients.{total-only}
use Rattle.hcc_rule.proofs.Basics.Findings.{total-same, when_zero, when_swap, when_same, find_passes, none_weighs, one_weighs, none_passes, some_found, some_any, none_any, position_is, position_none}

-- references of the same fields are one
same_reference : (k j : Reference) → k.client ≡ j.client → k.name ≡ j.name → k.weight ≡ j.weight
    → k.counting ≡ j.counting → k ≡ j
same_reference k j client name weight counting =
    λ i. record { client = client i; name = name i; weight = weight i; counting = counting i }

-- a reference of another client doesn't have the name
named_else : (c x : ℕ) (k : Reference) → k.client ≢ c → is_named c x k ≡ false
named_else c x k other = rw (ne_eqb k.client c other) refl

-- a record's reference has its name
named_own : (c x : ℕ) (q : Record) → is_named c x (reference_of c q) ≡ is_called x q
named_own c x q = rw (eq-eqb c c refl) refl

module _ {T : Type 0} (tag : T) (all : List Slot) (clients : List Client) (books : Books)
    (views : List (View T)) (refs : References all views) (seats : Seats tag clients books views)
    (id : ℕ) (v : View T) (at : slice_get views id ≡ Some v) (seated : is_seated v ≡ true) where
  -- A weighing of one client's references alone finds the records of its view.
  pub held_alone : (s : ℕ) (slot : Slot) → slice_get all s ≡ Some slot
      → (h : Reference → ℕ) → ((k : Reference) → k.client ≢ v.client → h k ≡ 0)
      → total h (references_of slot) ≡ held s h v
  held_alone s slot at_slot h none = refs s slot at_slot h
      ∙ total-only (held s h) views id v at theirs
    where
      theirs : (j : ℕ) (u : View T) → j ≢ id → slice_get views j ≡ Some u → held s h u ≡ 0
      theirs j u other there = by (is_seated u) refl
        where
          by : (b : Bool) → is_seated u ≡ b → held s h u ≡ 0
          by true sits =
              let else = seated_else v.client u sits
              (unnamed tag clients books views id j v u seats at there seated other) in
              total-nothing (λ q. when (is_on s q) (h (reference_of u.client q))) u.records
              (λ i q is. ap (when (is_on s q)) (none (reference_of u.client q) else)
              ∙ when_zero (is_on s q))
          by false empty = none_of u.tag refl
            where
              none_of : (o : Option T) → u.tag ≡ o → held s h u ≡ 0
              none_of None is = rw ((seats.each j u there).spent is).0 refl
              none_of (Some t) is = let bad : true ≡ false = sym (ap is_some is) ∙ empty in cc

  -- what the references of a name weigh, by the records of that name
  by_name : (x s : ℕ) (slot : Slot) → slice_get all s ≡ Some slot → (g : Reference → ℕ)
      → total (λ k. when (is_named v.client x k) (g k)) (references_of slot)
      ≡ total (λ q. when (is_called x q) (when (is_on s q) (g (reference_of v.client q)))) v.records
  by_name x s slot at_slot g =
      held_alone s slot at_slot (λ k. when (is_named v.client x k) (g k))
      (λ k other. ap (λ b. when b (g k)) (named_else v.client x k other))
      ∙ total-same (λ q. when (is_on s q)
      (when (is_named v.client x (reference_of v.client q)) (g (reference_of v.client q))))
      (λ q. when (is_called x q) (when (is_on s q) (g (reference_of v.client q)))) v.records
      (λ q.
      when_swap (is_on s q) (is_named v.client x (reference_of v.client q))
      (g (reference_of v.client q))
      ∙ ap (λ b. when b (when (is_on s q) (g (reference_of v.client q)))) (named_own v.client x q))

  -- A name that no record has no slot has.
  pub fresh_name : (x : ℕ) → record_in x v.records ≡ None → slot_holding all v.client x ≡ None
  fresh_name x none =
      position_none (has_reference v.client x) all
      (λ s slot at_slot. none_any (is_named v.client x) (references_of slot)
      (by_name x s slot at_slot (λ k. 1)
      ∙ none_weighs (is_called x) (λ q. when (is_on s q) 1) v.records
      (none_passes (is_called x) v.records none)))

  module _ (x : ℕ) (q : Record) (called : record_in x v.records ≡ Some q)
      (once : times_called x v.records ≤ 1) where
    -- one record has the name
    by_record : (s : ℕ) (slot : Slot) → slice_get all s ≡ Some slot → (g : Reference → ℕ)
        → total (λ k. when (is_named v.client x k) (g k)) (references_of slot)
        ≡ when (is_on s q) (g (reference_of v.client q))
    by_record s slot at_slot g =
        by_name x s slot at_slot g
        ∙ one_weighs (is_called x) (λ r. when (is_on s r) (g (reference_of v.client r))) v.records q
        called once

    here : (s : ℕ) (slot : Slot) → slice_get all s ≡ Some slot → q.slot ≡ s → (g : Reference → ℕ)
        → total (λ k. when (is_named v.client x k) (g k)) (references_of slot)
        ≡ g (reference_of v.client q)
    here s slot at_slot on g =
        by_record s slot at_slot g ∙ ap (λ b. when b (g (reference_of v.client q)))
        (eq-eqb q.slot s on)

    -- The client holds the name on the record's slot.
    pub slot_held : (slot : Slot) (i : ℕ) → q.slot ≡ i → slice_get all i ≡ Some slot
        → slot_holding all v.client x ≡ Some i
    slot_held slot i on at_slot =
        position_is (has_reference v.client x) all i slot at_slot
        (some_any (is_named v.client x) (references_of slot)
        (let one = here i slot at_slot on (λ k. 1) in omega arith))
        (λ j other different there. none_any (is_named v.client x) (references_of other)
        (by_record j other there (λ k. 1)
        ∙ ap (λ b. when b 1) (ne_eqb q.slot j (λ e. different (sym e ∙ on)))))

    is_it : (slot : Slot) (i : ℕ) (k : Reference) → q.slot ≡ i → slice_get all i ≡ Some slot
        → reference_in v.client x (references_of slot) ≡ Some k → k ≡ reference_of v.client q
    is_it slot i k on at_slot found =
        same_reference k (reference_of v.client q)
        (eqb-true k.client v.client parts.0)
        (eqb-true k.name x parts.1 ∙ sym
        (eqb-true q.name x (find_passes (is_called x) v.records q called)))
        (of_all (λ j. j.weight))
        (when_same k.counting q.counting (of_all (λ j. when j.counting 1)))
      where
        parts : ((k.client == v.client) ≡ true) × ((k.name == x) ≡ true)
        parts = and_parts (k.client == v.client) (k.name == x)
            (find_passes (is_named v.client x) (references_of slot) k found)

        few : total (λ j. when (is_named v.client x j) 1) (references_of slot) ≤ 1
        few = let one = here i slot at_slot on (λ j. 1) in omega arith

        of_all : (g : Reference → ℕ) → g k ≡ g (reference_of v.client q)
        of_all g = sym (one_weighs (is_named v.client x) g (references_of slot) k found few)
            ∙ here i slot at_slot on g

    -- And the reference of that name is the record's.
    pub reference_held : (slot : Slot) (i : ℕ) → q.slot ≡ i → slice_get all i ≡ Some slot
        → reference_in v.client x (references_of slot) ≡ Some (reference_of v.client q)
    reference_held slot i on at_slot =
        let found = some_found (is_named v.client x) (references_of slot)
        (let one = here i slot at_slot on (λ k. 1) in omega arith) in
        found.1 ∙ ap Some (is_it slot i found.0 on at_slot found.1)

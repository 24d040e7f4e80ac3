-- What an acquire needs and what it is told: room for the references, a way to the slot, and the
-- entry.
use Rattle.std.proofs.Common.{◌≡◌, ℕ, zero, suc, ◌+◌, ◌*◌, ◌^◌, ◌<◌, ◌≤◌, ◌||◌, Bool, true, false, List, [], ◌∷◌, Option, Some, None, IfSome, is_some, length, slice_get, sym, refl, ap, ◌∙◌, arith}
use Rattle.std.specs.List.{list_any}
use Rattle.hcc_word.specs.Word.{is_visible}
use Rattle.hcc_core.specs.declared.limits.TheConstants.{REFERENCES_PER_CLIENT}
use Rattle.hcc_core.specs.declared.slot.Entry.{Entry}
use Rattle.hcc_core.specs.declared.slot.Reference.{Reference}
use Rattle.hcc_core.specs.declared.slot.Resident.{Resident}
use Rattle.hcc_core.specs.declared.slot.Slot.{Slot}
use Rattle.hcc_core.specs.declared.slot.Slot.TheVariants as slots
use Rattle.hcc_core.specs.declared.slot.Stamp.{Stamp}
use Rattle.hcc_core.specs.Sums.{when, total}
use Rattle.hcc_core.specs.World.{references_of, has_client, weight_of}
use Rattle.hcc_core.specs.References.{looks_at, most_weight}
use Rattle.hcc_core.specs.Lawful.{Lawful, dead_by, is_in, shown_in}
use Rattle.hcc_core.proofs.SumLemmas.{total-le}
use Rattle.hcc_core.proofs.Opening.{is_lawful}
use Rattle.hcc_rule.specs.declared.key.Key.{Key}
use Rattle.hcc_rule.specs.declared.rule.Plan.{Plan}
use Rattle.hcc_rule.specs.declared.view.Made.{Made}
use Rattle.hcc_rule.specs.declared.view.Record.{Record}
use Rattle.hcc_rule.specs.declared.view.View.{View}
use Rattle.hcc_rule.specs.ToldReferences.{may_reach, IsMet}
use Rattle.hcc_rule.specs.Views.{Each, is_on, load_of, is_seated, held, named_by}
use Rattle.hcc_rule.specs.Words.{code_of, entry_of, key_of}
use Rattle.hcc_rule.specs.Rule.{entry_in, IsRecorded, IsRight, Holds}
use Rattle.hcc_rule.proofs.Basics.Lists.{each_map}
use Rattle.hcc_rule.proofs.Parts.Codes.{when_le, tells_shown}
use Rattle.hcc_rule.proofs.Parts.Clients.{held_count, any_client}
use Rattle.hcc_rule.proofs.Basics.Findings.{any_some}
use Rattle.hcc_rule.proofs.Parts.SlotSteps.{Shard}
use Rattle.hcc_rule.proofs.Parts.Touches.{client_is}

-- where one member has room for n more, the sum has
total-room : {A : Type 0} (f g : A → ℕ) (xs : List A) (i : ℕ) (x : A) (n : ℕ)
    → slice_get xs i ≡ Some x
    → f x + n ≤ g x → ((j : ℕ) (y : A) → slice_get xs j ≡ Some y → f y ≤ g y)
    → total f xs + n ≤ total g xs
total-room f g [] i x n at room each = cc
total-room f g (y ∷ ys) zero x n at room each =
    let same_f : f y ≡ f x = ap f (let e : y ≡ x = cc in e) in
    let same_g : g y ≡ g x = ap g (let e : y ≡ x = cc in e) in
    let rest = total-le f g ys (λ j z there. each (suc j) z there) in
    omega arith
total-room f g (y ∷ ys) (suc i) x n at room each =
    let first = each 0 y refl in
    let rest = total-room f g ys i x n at room (λ j z there. each (suc j) z there) in
    omega arith

-- what each client may hold, over all clients that views name
all_loads : {T : Type 0} (views : List (View T))
    → total (λ u. REFERENCES_PER_CLIENT * named_by u) views
    ≡ REFERENCES_PER_CLIENT * total named_by views
all_loads [] = refl
all_loads (u ∷ us) = let rest = all_loads us in omega arith

-- the records on one slot weigh no more than all
held_few : {T : Type 0} (i : ℕ) (u : View T)
    → held i (λ (j : Reference). j.weight) u ≤ load_of u.records
held_few i u = total-le (λ q. when (is_on i q) q.weight) (λ (q : Record). q.weight) u.records
    (λ j q at. when_le (is_on i q) q.weight)

-- what is right for its maker's list is right for the entry
pub entry_right : {T : Type 0} (fits : T → Key → List ℕ → Type 0) (tag : T) (room : ℕ) (made : Made)
    (stamp : Stamp) (e : Entry)
    → e ≡ entry_of stamp made → IsRight fits tag room made
    → fits tag (key_of e) e.value × (length e.value ≤ 8 * room) × (e.charge < 2 ^ 32)
    × Each (λ b. b < 256) e.value
entry_right fits tag room made stamp e same right =
    rw same (right.fitting, right.short, right.small, right.bytes)

module _ {T : Type 0} (fits : T → Key → List ℕ → Type 0) (p : Plan T) (s : Shard fits p)
    (r : Holds fits p s) (id i : ℕ) (v : View T) (at : slice_get s.views id ≡ Some v)
    (seated : is_seated v ≡ true) where
  few_named : (j : ℕ) (u : View T) → slice_get s.views j ≡ Some u
      → held i (λ (k : Reference). k.weight) u ≤ REFERENCES_PER_CLIENT * named_by u
  few_named j u there = by (is_seated u) refl
    where
      by : (b : Bool) → is_seated u ≡ b → held i (λ (k : Reference). k.weight) u
          ≤ REFERENCES_PER_CLIENT * named_by u
      by true sits =
          let one : when (is_seated u) 1 ≡ 1 = ap (λ b. when b 1) sits in
          let few = (r.holding j u there).few in
          let part = held_few i u in
          omega arith
      by false empty = none_of u.tag refl
        where
          none_of : (o : Option T) → u.tag ≡ o
              → held i (λ (k : Reference). k.weight) u ≤ REFERENCES_PER_CLIENT * named_by u
          none_of None is = rw ((r.seats.each j u there).spent is).0 (omega arith)
          none_of (Some t) is = let bad : true ≡ false = sym (ap is_some is) ∙ empty in cc

  -- Where a client has room for n more, so has each slot.
  pub room_left : (n : ℕ) (t : Slot) → Lawful r.world → slice_get r.world.slots i ≡ Some t
      → load_of v.records + n ≤ REFERENCES_PER_CLIENT → weight_of t + n ≤ most_weight r.world.setup
  room_left n t l at_slot room =
      let one : when (is_seated v) 1 ≡ 1 = ap (λ b. when b 1) seated in
      let part = held_few i v in
      let mine : held i (λ (k : Reference). k.weight) v + n ≤ REFERENCES_PER_CLIENT * named_by v =
      omega arith in
      let sum = total-room (held i (λ (k : Reference). k.weight))
      (λ u. REFERENCES_PER_CLIENT * named_by u) s.views id v n at mine few_named in
      let all = all_loads s.views in
      let named = r.seats.all in
      let count = l.sized.client_count in
      let weighs = r.references i t at_slot (λ k. k.weight) in
      omega arith

  -- The client looked at the slot, or has a reference there.
  pub reached : (t : Slot) → slice_get r.world.slots i ≡ Some t → may_reach i v ≡ true
      → (looks_at v.work i || has_client v.client t) ≡ true
  reached t at_slot reach = by (looks_at v.work i) (list_any (is_on i) v.records) has reach
    where
      has : list_any (is_on i) v.records ≡ true → has_client v.client t ≡ true
      has some =
          let count = held_count p.tag r.world.slots r.world.clients r.books s.views id i v t
          r.references r.seats at seated at_slot in
          let records = any_some (is_on i) v.records some in
          any_client v.client (references_of t) (omega arith)

      by : (b d : Bool) → (d ≡ true → has_client v.client t ≡ true) → (b || d) ≡ true
          → (b || has_client v.client t) ≡ true
      by true d f h = refl
      by false d f h = f h

  -- What is told of the entry that an acquire met.
  pub is_met : (word : ℕ) (k : Resident) → slice_get r.world.slots i ≡ Some (slots.Shareable k)
      → word ≡ code_of (slots.Shareable k) → IsMet fits p.geometry.room i word v k.entry
  is_met word k at_slot word_is = record {
    right = rightly v.tag (r.seats.each id v at).tagged;
    short = right.1;
    small = right.2;
    bytes = right.3;
    alive = λ visible. unseen (shown_is visible) (is_in k.entry.stamp v.work.dead) refl;
    same = each_map (IsRecorded r.world.slots) (λ q. q.slot ≡ i → q.entry ≡ k.entry)
        (λ q recorded on.
        let both : Some q.entry ≡ Some k.entry =
        sym recorded.there ∙ (ap (λ j. entry_in (slice_get r.world.slots j)) on ∙ here) in
        let same : q.entry ≡ k.entry = cc in
        same)
        v.records (r.holding id v at).recorded;
  }
    where
      l : Lawful r.world
      l = is_lawful r.world r.lawful

      here : entry_in (slice_get r.world.slots i) ≡ Some k.entry
      here = ap entry_in at_slot

      right : fits p.tag (key_of k.entry) k.entry.value
          × (length k.entry.value ≤ 8 * p.geometry.room) × (k.entry.charge < 2 ^ 32)
          × Each (λ b. b < 256) k.entry.value
      right =
          let stored = r.stored i k.entry here in
          entry_right fits p.tag p.geometry.room stored.made k.entry.stamp k.entry stored.same
          (r.stamps.right k.entry.stamp stored.made stored.listed)

      rightly : (o : Option T) → IfSome o (λ t. t ≡ p.tag)
          → IfSome o (λ t. fits t (key_of k.entry) k.entry.value)
      rightly None h = h
      rightly (Some t) h = rw h right.0

      shown_is : is_visible word ≡ true → shown_in (slice_get r.world.slots i) ≡ Some k.entry.stamp
      shown_is visible =
          let shown : k.shown ≡ true = sym (tells_shown r.world l i k at_slot)
          ∙ (ap is_visible (sym word_is) ∙ visible) in
          rw (at_slot, shown) refl

      unseen : shown_in (slice_get r.world.slots i) ≡ Some k.entry.stamp → (b : Bool)
          → is_in k.entry.stamp v.work.dead ≡ b → b ≡ false
      unseen shown true is =
          absurd (l.dead.unshown v.client i k.entry.stamp
          (ap (λ o. is_in k.entry.stamp (dead_by o)) (client_is fits p s r id v at seated) ∙ is)
          shown)
      unseen shown false is = refl

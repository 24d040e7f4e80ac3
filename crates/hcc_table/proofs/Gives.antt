-- One more reference on an entry that is held, and references that are given back.
use Rattle.std.proofs.Common.{◌≡◌, ℕ, ◌++◌, ◌||◌, ◌+◌, ◌&&◌, ◌==◌, not, subst, cond, Bool, true, false, List, [], ◌∷◌, Option, Some, None, IfSome, IfNone, IsSomeAnd, sym, refl, ap, ◌∙◌}
use Rattle.std.specs.List.{find, list_any}
use Rattle.std.proofs.lemmas.Bool.{eq-eqb}
use Rattle.hcc_word.specs.declared.layout.TheConstants.{CONSTRUCTION_WORD}
use Rattle.hcc_word.specs.Word.{is_shareable, is_visible, is_counting, refs_of}
use Rattle.hcc_core.specs.declared.client.Owned.TheVariants as owned
use Rattle.hcc_core.specs.Sums.{when}
use Rattle.hcc_core.specs.References.{looks_at}
use Rattle.hcc_rule.specs.declared.key.Key.{Key}
use Rattle.hcc_rule.specs.declared.view.Record.{Record}
use Rattle.hcc_rule.specs.declared.view.View.{View}
use Rattle.hcc_rule.specs.Callers.{HasOn}
use Rattle.hcc_rule.specs.Rule.{IsRight}
use Rattle.hcc_rule.specs.ToldOwners.{is_warm}
use Rattle.hcc_rule.specs.ToldReferences.{may_reach, record_of}
use Rattle.hcc_rule.specs.Seats.{SeatOf, atomic, steps}
use Rattle.hcc_rule.specs.Views.{is_on, is_called}
use Rattle.hcc_rule.specs.Records.{record_in}
use Rattle.hcc_rule.proofs.Basics.Findings.{find_each}
use Rattle.hcc_table.specs.declared.pins.Pin.{Pin}
use Rattle.hcc_table.specs.declared.efforts.Effort.{Effort}
use Rattle.hcc_table.specs.Efforts.{Lost}
use Rattle.hcc_table.specs.Freed.{IsFreed, TriedWhereDue, is_due}
use Rattle.hcc_table.specs.Pins.{IsOf, IsPinned}
use Rattle.hcc_table.specs.Searched.{Reached, Searched, Sought}
use Rattle.hcc_table.specs.Steps.{Adds, Among, TriesToTake}
use Rattle.hcc_table.proofs.Logs.{among_after, among_first}
use Rattle.hcc_table.proofs.Searches.{searched_then}

-- one of a list that passes is found by a search for any
any_found : {A : Type 0} (p q : A → Bool) (xs : List A) {x : A} → find q xs ≡ Some x → p x ≡ true
    → list_any p xs ≡ true
any_found p q [] found passes = cc
any_found p q (y ∷ ys) {x} found passes = by (q y) (any_found p q ys) found
  where
    later : (b : Bool) → list_any p ys ≡ true → (b || list_any p ys) ≡ true
    later true h = refl
    later false h = h

    by : (b : Bool) → (find q ys ≡ Some x → p x ≡ true → list_any p ys ≡ true)
        → cond b (Some y) (find q ys) ≡ Some x
        → (p y || list_any p ys) ≡ true
    by true rest found = let same : y ≡ x = cc in ap (λ b. b || list_any p ys) (ap p same ∙ passes)
    by false rest found = later (p y) (rest found passes)

module _ {T : Type 0} {address left : ℕ} {due : Bool} {before after : Effort} {a b : SeatOf T} where
  -- Where freeing was due, it was tried.
  pub tried_due : (A B : Type 0) {o : Option ℕ} → due ≡ true → IfSome o (λ _. after ≡ before)
      → IfNone o (A × B × Lost 1 1 before after) → TriesToTake address left o a b
      → TriedWhereDue address left due o before after a b
  tried_due A B {o} is won lost tried = record {
    won = by_won o won;
    lost = by_lost o lost;
    same = λ not_due. absurd (no not_due);
    tried = λ _. tried;
    passed = λ not_due. absurd (no not_due);
  }
    where
      no : due ≡ false → ⊥
      no not_due = let bad : true ≡ false = sym is ∙ not_due in cc

      by_won : (o : Option ℕ) → IfSome o (λ _. after ≡ before)
          → IfSome o (λ _. (due ≡ true) × (after ≡ before))
      by_won None h = tt
      by_won (Some charge) h = (is, h)

      by_lost : (o : Option ℕ) → IfNone o (A × B × Lost 1 1 before after)
          → IfNone o (due ≡ true → Lost 1 1 before after)
      by_lost None h = λ _. h.2
      by_lost (Some charge) h = tt

  pub not_due : due ≡ false → after ≡ before → steps b ≡ steps a
      → TriedWhereDue address left due None before after a b
  not_due is same none = record {
    won = tt;
    lost = λ is_due. let bad : true ≡ false = sym is_due ∙ is in cc;
    same = λ _. same;
    tried = λ is_due. let bad : true ≡ false = sym is_due ∙ is in cc;
    passed = λ _. none;
  }

module _ {T : Type 0} where
  -- A pin that is held is a record on its slot.
  pub pinned_on : (pin : Pin) (v : View T) → IsPinned pin v → HasOn pin.slot pin.name v
  pinned_on pin v h = by (record_in pin.name v.records) h
    where
      by : (o : Option Record) → IsSomeAnd o (λ r. IsOf pin r)
          → IsSomeAnd o (λ r. r.slot ≡ pin.slot)
      by None none = absurd none
      by (Some r) is = is.0

  -- a client reaches a slot that it has a record of
  pub reaches_held : (slot held : ℕ) (v : View T)
      → IsSomeAnd (record_in held v.records) (λ r. r.slot ≡ slot)
      → may_reach slot v ≡ true
  reaches_held slot held v holds = by (record_in held v.records) refl holds
    where
      later : (a b : Bool) → b ≡ true → (a || b) ≡ true
      later true b h = refl
      later false b h = h

      by : (o : Option Record) → record_in held v.records ≡ o → IsSomeAnd o (λ r. r.slot ≡ slot)
          → may_reach slot v ≡ true
      by None is none = absurd none
      by (Some r) is on =
          later (looks_at v.work slot) (list_any (is_on slot) v.records)
          (any_found (is_on slot) (is_called held) v.records is (eq-eqb r.slot slot on))

  -- One more reference is on the entry that is held there.
  pub one_more : {fits : T → Key → List ℕ
      → Type 0} {room slot : ℕ} (held : ℕ) {name word : ℕ} {v w : View T}
      → IsSomeAnd (record_in held v.records) (λ r. r.slot ≡ slot)
      → Reached fits room slot 1 name word v w
      → (r : Record) × (w.records ≡ v.records ++ r ∷ []) × (r.slot ≡ slot) × (r.name ≡ name)
      × (r.weight ≡ 1)
      × (r.counting ≡ is_counting word) × IfSome (record_in held v.records) (λ q. r.entry ≡ q.entry)
  one_more {slot = slot} held {name} {word} {v} {w} holds h = by (record_in held v.records) refl
      holds
    where
      by : (o : Option Record) → record_in held v.records ≡ o → IsSomeAnd o (λ r. r.slot ≡ slot)
          → (r : Record) × (w.records ≡ v.records ++ r ∷ []) × (r.slot ≡ slot) × (r.name ≡ name)
          × (r.weight ≡ 1)
          × (r.counting ≡ is_counting word) × IfSome o (λ q. r.entry ≡ q.entry)
      by None is none = absurd none
      by (Some q) is on =
          let has = find_each (is_called held) (λ r. r.slot ≡ slot → is_shareable word ≡ true)
          v.records q h.held is on in
          let got = h.got has in
          let same = find_each (is_called held) (λ r. r.slot ≡ slot → r.entry ≡ got.0) v.records q
          got.1.same is on in
          (record_of slot 1 name word got.0, got.2, refl, refl, refl, refl, sym same)

-- What is due though nobody asks for it is not visible.
unseen_due : (s r : Bool) {e : Bool} (v : Bool) → (s && r && (e || not v)) ≡ true → e ≡ false
    → v ≡ false
unseen_due s r false h kept = refl
unseen_due false r true h kept = cc
unseen_due true false true h kept = cc
unseen_due true true true h kept = cc

module _ {T : Type 0} (fits : T → Key → List ℕ → Type 0) (room : ℕ) {v b : View T} (w : View T)
    (before : Searched v b) (met : b.met ≡ v.met) (glimpse : b.glimpse ≡ v.glimpse) where
  -- An entry that is freed after a look, or after a reference was given back, is freed of the view
  -- before.
  pub freed_after : {word charge : ℕ} → IsFreed fits room word None charge b w
      → IsFreed fits room word None charge v w
  freed_after {word} {charge} h = record {
    stamp = h.stamp;
    made = h.made;
    taken = record {
      right = subst (λ (z : View T). IfSome z.tag (λ tag. IsRight fits tag room h.made)) before.same
          h.taken.right;
      same = tt;
    };
    charged = h.charged;
    dead = λ stamp there. h.dead stamp (before.dead stamp there);
    same = h.same ∙ ap freed_of before.same ∙ (λ k. record (freed_of v) {
      met = met k;
      glimpse = glimpse k;
    });
  }
    where
      freed_of : View T → View T
      freed_of z = record z {
        work = record z.work {
          looked = w.work.looked;
          owned = owned.Nothing;
          trail = [];
          freed = z.work.freed + charge;
          freed_slots = z.work.freed_slots + 1;
          dead = w.work.dead;
        };
        written = [];
        records = w.records;
        takings = z.takings + 1;
        warm = z.warm + when (is_warm word) 1;
        gone = z.gone ++ record { stamp = h.stamp; made = h.made } ∷ [];
      }

  -- So it is where freeing was due: the entry of the word that was left.
  pub freed_where_due : (address : ℕ) (a c d : SeatOf T) (erase : Bool) (word : ℕ) (P : ℕ → Type 0)
      (o : Option ℕ) → is_due erase word ≡ true → v.work.looked ≡ b.work.looked
      → Adds a c → TriesToTake address word o c d
      → IfSome o (λ charge. IsFreed fits room word None charge b w × P charge
      × (w.work.looked ≡ b.work.looked))
      → IfSome o (λ charge. (n : ℕ)
      × Among (atomic address n CONSTRUCTION_WORD n) a d × IsFreed fits room n None charge v w
      × (erase ≡ false → is_visible n ≡ false) × (w.work.looked ≡ v.work.looked))
  freed_where_due address a c d erase word P None due looked adds tried freed = tt
  freed_where_due address a c d erase word P (Some charge) due looked adds tried freed =
      let one = atomic address word CONSTRUCTION_WORD word in (
        word,
        among_after one a c d adds (among_first one c d tried.1),
        freed_after freed.0,
        unseen_due (is_shareable word) (refs_of word == 0) (is_visible word) due,
        freed.2 ∙ sym looked,
      )

-- Where freeing lost, what was known after a reference was given back is known still.
pub kept_where_lost : {T : Type 0} (u v w : View T) (C : Type 0) (o : Option ℕ) → Searched u v
    → v.met ≡ u.met → IfNone o (Sought v w × (w.met ≡ v.met) × C)
    → IfNone o (Searched u w × (w.met ≡ u.met))
kept_where_lost u v w C None given same lost = (
  searched_then u v w given lost.0.searched,
  lost.1 ∙ same,
)
kept_where_lost u v w C (Some charge) given same lost = tt

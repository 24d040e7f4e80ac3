-- What a walk that keeps no list does at a slot.
use Rattle.std.proofs.Common.{◌≡◌, ◌⊎◌, inl, inr, ℕ, ◌+◌, ◌<◌, ◌≤◌, Bool, true, false, List, [], ◌∷◌, ◌++◌, Option, None, Some, length, sym, subst, refl, ap, ◌∙◌, arith}
use Rattle.std.specs.Prelude.{IsSomeAnd}
use Rattle.std.proofs.lemmas.Bool.{cases_lt}
use Rattle.hcc_word.specs.declared.layout.TheConstants.{CORRECTION, NEAR}
use Rattle.hcc_word.specs.Changes.{corrected_word}
use Rattle.hcc_word.specs.Word.{acquires_of, is_counting, is_shareable, is_visible, releases_of}
use Rattle.hcc_rule.specs.declared.key.Key.{Key}
use Rattle.hcc_rule.specs.declared.table.RuleTable.{RuleTable}
use Rattle.hcc_rule.specs.declared.view.Atomic.{Atomic}
use Rattle.hcc_rule.specs.declared.view.Record.{Record}
use Rattle.hcc_rule.specs.Addresses.{address_of_meta}
use Rattle.hcc_rule.specs.Records.{record_in}
use Rattle.hcc_rule.specs.Seats.{SeatOf, atomic, made, steps, view}
use Rattle.hcc_table.specs.declared.efforts.Effort.{Effort}
use Rattle.hcc_table.specs.declared.keeping.AtSlot.{AtSlot}
use Rattle.hcc_table.specs.declared.keeping.AtSlot.TheVariants.{Nothing, Held, Freed}
use Rattle.hcc_table.specs.declared.pins.Pin.{Pin}
use Rattle.hcc_table.specs.AtSlots.{Frees, HoldsShown, PinsAt, PinsLasting, ShowsNoneOnce, freed_there, held_there}
use Rattle.hcc_table.specs.Seeking.{Seeks}
use Rattle.hcc_table.specs.Standing.{ShowsOnce}
use Rattle.hcc_table.specs.Steps.{Acquires, IsWorn, MakesTwo, acquired}
use Rattle.hcc_table.proofs.KeepsLasting.{pins_last, unfreed_seek}
use Rattle.hcc_table.proofs.Probings.{neither, one_longer}
use Rattle.hcc_shard.specs.declared.seat.ShardSeat.{ShardSeat}
use Rattle.hcc_shard.specs.declared.shard.Shard.{Shard}
use Rattle.hcc_shard.specs.Callers.{steps_of}
use Rattle.hcc_shard.specs.Kept.{WalksAt}
use Rattle.hcc_shard.specs.Stays.{SeeksAt}

-- Behind an acquire a correction is due or not.
worn_or : (weight found : ℕ) → IsWorn weight found ⊎ ¬ IsWorn weight found
worn_or weight found = by (is_shareable found) refl (is_counting found) refl
  where
    judge : is_shareable found ≡ true → is_counting found ≡ false
        → (releases_of (acquired weight found) < NEAR)
        ⊎ (NEAR ≤ releases_of (acquired weight found))
        → (acquires_of (acquired weight found) < CORRECTION)
        ⊎ (CORRECTION ≤ acquires_of (acquired weight found))
        → IsWorn weight found ⊎ ¬ IsWorn weight found
    judge has worn (inl low) few = inr (λ w. let high = w.2.near in omega arith)
    judge has worn (inr high) (inl low) = inr (λ w. let enough = w.2.enough in omega arith)
    judge has worn (inr high) (inr enough) =
        inl (has, worn, record { near = high; enough = enough })

    by : (s : Bool) → is_shareable found ≡ s → (c : Bool) → is_counting found ≡ c
        → IsWorn weight found ⊎ ¬ IsWorn weight found
    by false away c is = inr (λ w. neither (is_shareable found) w.0 away)
    by true has true counts = inr (λ w. neither (is_counting found) counts w.1)
    by true has false worn =
        judge has worn (cases_lt (releases_of (acquired weight found)) NEAR)
        (cases_lt (acquires_of (acquired weight found)) CORRECTION)

-- a list with two members more
two_longer : {A : Type 0} (xs : List A) (x y : A)
    → length ((xs ++ x ∷ []) ++ y ∷ []) ≡ length xs + 2
two_longer xs x y =
    let first = one_longer xs x in
    let second = one_longer (xs ++ x ∷ []) y in
    omega arith

module _ {T : Type 0} where
  -- two steps are two
  makes_two_more : (one two : Atomic) (a b : SeatOf T) → MakesTwo one two a b
      → made b ≡ made a + 2
  makes_two_more one two a b h =
      ap (λ (xs : List Atomic). length xs) h ∙ two_longer (steps a) one two

  -- an acquire takes a step, or two
  acquires_few : (address weight found : ℕ) (a b : SeatOf T)
      → Acquires address weight found a b → made b ≤ made a + 2
  acquires_few address weight found a b h = by (worn_or weight found)
    where
      by : IsWorn weight found ⊎ ¬ IsWorn weight found → made b ≤ made a + 2
      by (inl worn) =
          let did = h.worn worn in
          let two = makes_two_more (atomic address weight 0 found)
          (atomic address (acquired weight found) (corrected_word (acquired weight found)) did.0)
          a b did.1 in
          omega arith
      by (inr once) = let one = (h.once once).one in omega arith

module _ {T A : Type 0} (fits : T → Key → List ℕ → Type 0) (table : RuleTable T A)
    (name slot : ℕ) {before after : Effort} {old new : SeatOf T} (done : AtSlot)
    (h : PinsAt fits table name slot false done before after old new) where
  -- Nothing is freed,
  pub none_freed : freed_there done ≡ None
  none_freed = by (is_visible h.seen) refl
    where
      none : (o : Option ℕ) → Frees table slot h.seen false o before after h.looked new
          → o ≡ None
      none None f = refl
      none (Some charge) f = let bad : false ≡ true = f.tries.won.0 in cc

      by : (b : Bool) → is_visible h.seen ≡ b → freed_there done ≡ None
      by true on = (h.shown on).1
      by false off = none (freed_there done) (h.unshown off).1

  -- behind its acquire a reference is kept, or given back by a step,
  given_few : (s : HoldsShown fits table name slot (held_there done) before after h.looked new)
      → made new ≤ made s.mid + 1
  given_few s = by (is_visible s.word) refl
    where
      hidden : is_visible s.word ≡ false → (has : Bool) → is_shareable s.word ≡ has
          → made new ≤ made s.mid + 1
      hidden off false away =
          let same = ap (λ (z : SeatOf T). made z) (s.stray away) in omega arith
      hidden off true has =
          let one = (s.hidden (rw (has, off) refl)).1.one in omega arith

      by : (b : Bool) → is_visible s.word ≡ b → made new ≤ made s.mid + 1
      by true on = let same = ap (λ (z : SeatOf T). made z) (s.shown on).1 in omega arith
      by false off = hidden off (is_shareable s.word) refl

  -- and all takes a few steps.
  pub pins_few : made new ≤ made old + 4
  pins_few = by (is_visible h.seen) refl
    where
      by : (b : Bool) → is_visible h.seen ≡ b → made new ≤ made old + 4
      by true on =
          let s = (h.shown on).0 in
          let first = h.looks.0.one in
          let next = acquires_few (address_of_meta table slot) 1 s.word h.looked s.mid
          s.reaches.acquires in
          let last = given_few s in
          omega arith
      by false off =
          let first = h.looks.0.one in
          let same = ap (λ (z : SeatOf T). made z) ((h.unshown off).1.takes.1 refl) in
          omega arith

module _ {T A : Type 0} (table : RuleTable T A) (name slot : ℕ) (old new : SeatOf T) where
  -- Where nothing was held or freed the slot showed nothing once,
  none_once : (done : AtSlot) → held_there done ≡ None → freed_there done ≡ None
      → PinsLasting table slot name done old new → ShowsNoneOnce table slot old new
  none_once Nothing held freed lasting = lasting
  none_once (Held pin) held freed lasting = cc
  none_once (Freed charge) held freed lasting = cc

  -- and where an entry was held it showed that once.
  held_once : (done : AtSlot) (pin : Pin) → held_there done ≡ Some pin
      → PinsLasting table slot name done old new
      → IsSomeAnd (record_in name (view new).records)
      (λ (r : Record). ShowsOnce table slot r.entry old new)
  held_once Nothing pin held lasting = cc
  held_once (Held at) pin held lasting = lasting
  held_once (Freed charge) pin held lasting = cc

module _ {T A : Type 0} (fits : T → Key → List ℕ → Type 0) (shard : Shard T A)
    (serial slot : ℕ) {held : Option Pin} {old new : ShardSeat T}
    (h : WalksAt fits shard serial slot false held old new) where
  unfreed : freed_there h.done ≡ None
  unfreed = none_freed fits shard.table serial slot h.done h.pins

  -- It only searches,
  pub walk_seeks : SeeksAt shard old new
  walk_seeks =
      subst (λ (z : SeatOf T). Seeks shard.table old.seat z) (sym (h.kept unfreed))
      (unfreed_seek fits shard.table serial slot h.done h.pins unfreed)

  -- by a few steps.
  pub walk_few : steps_of new ≤ steps_of old + 4
  walk_few =
      let few = pins_few fits shard.table serial slot h.done h.pins in
      let same = ap (λ (z : SeatOf T). made z) (h.kept unfreed) in
      omega arith

  lasting : PinsLasting shard.table slot serial h.done old.seat h.mid
  lasting = pins_last fits shard.table serial slot h.done h.pins

  -- Where it holds nothing, the slot showed nothing once.
  pub walk_none : held ≡ None → ShowsNoneOnce shard.table slot old.seat new.seat
  walk_none none =
      subst (λ (z : SeatOf T). ShowsNoneOnce shard.table slot old.seat z)
      (sym (h.kept unfreed))
      (none_once shard.table serial slot old.seat h.mid h.done (sym h.held_is ∙ none) unfreed
      lasting)

  -- Where it holds an entry, the slot showed that once.
  pub walk_held : (pin : Pin) → held ≡ Some pin
      → IsSomeAnd (record_in serial (view new.seat).records)
      (λ (r : Record). ShowsOnce shard.table slot r.entry old.seat new.seat)
  walk_held pin some =
      subst (λ (z : SeatOf T). IsSomeAnd (record_in serial (view z).records)
      (λ (r : Record). ShowsOnce shard.table slot r.entry old.seat z)) (sym (h.kept unfreed))
      (held_once shard.table serial slot old.seat h.mid h.done pin (sym h.held_is ∙ some) lasting)

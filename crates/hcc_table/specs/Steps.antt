-- Which atomic steps a call makes, and how many at most, whatever other threads do.
use Rattle.std.specs.Prelude.{◌≡◌, ℕ, ◌+◌, ◌*◌, ◌%◌, ◌^◌, ◌≤◌, Bool, true, false, List, [], ◌∷◌, ◌++◌, Option, IfSome, IfNone, if◌then◌else◌}
use Rattle.hcc_word.specs.declared.layout.TheConstants.{CONSTRUCTION_WORD, HIT_BIT, ONE_RELEASE}
use Rattle.hcc_word.specs.Changes.{IsCorrectable, corrected_word}
use Rattle.hcc_word.specs.Word.{hit_of, is_counting, is_shareable}
use Rattle.hcc_rule.specs.declared.view.Atomic.{Atomic}
use Rattle.hcc_rule.specs.Seats.{SeatOf, atomic, made, steps, Makes}
use Rattle.hcc_rule.specs.Views.{Each}
use Rattle.hcc_table.specs.declared.efforts.Effort.{Effort}
use Rattle.hcc_table.specs.declared.inserting.Insertion.{Insertion}
use Rattle.hcc_table.specs.declared.inserting.Insertion.TheVariants.{Placed, Matched, NoSlot}
use Rattle.hcc_table.specs.Efforts.{Corrected, Lost}
use Rattle.hcc_table.specs.Rises.{Rose}

-- these steps, and then this one
abbrev pub after : List Atomic → Atomic → List Atomic
after before step = before ++ step ∷ []

-- what a release of so many references, as uses or not, adds to a word, or takes from it
abbrev pub amount_of : (used : Bool) → (weight : ℕ) → ℕ
amount_of used weight = if used then weight * ONE_RELEASE else weight

-- what an acquire of so many references leaves of a word
abbrev pub acquired : (weight found : ℕ) → ℕ
acquired weight found = (found + weight) % 2 ^ 64

-- References of this weight don't count on an entry with this word, and both counters can be
-- corrected once they are acquired.
abbrev pub IsWorn : (weight found : ℕ) → Type 0
IsWorn weight found =
    (is_shareable found ≡ true) × (is_counting found ≡ false)
    × IsCorrectable (acquired weight found)

module _ {T : Type 0} where
  -- at most so many steps
  abbrev pub MakesAtMost : (most : ℕ) → (old new : SeatOf T) → Type 0
  MakesAtMost most old new = made new ≤ made old + most

  -- The call visited so many slots of its key, which its effort counts, and made at most so many
  -- steps at each of them, and so many more.
  pub record MakesFor (each more slots : ℕ) (before after : Effort) (old new : SeatOf T)
      : Type 0 where
    pub visited : ℕ
    pub within : visited ≤ slots
    pub counted : Rose visited visited before.probes after.probes
    pub steps : made new ≤ made old + each * visited + more

  -- no step
  abbrev pub MakesNone : (old new : SeatOf T) → Type 0
  MakesNone old new = steps new ≡ steps old

  -- these two steps, in this order, and no other
  abbrev pub MakesTwo : (first second : Atomic) → (old new : SeatOf T) → Type 0
  MakesTwo first second old new = steps new ≡ after (after (steps old) first) second

  -- What was made before stands: steps came behind it, or none.
  abbrev pub Adds : (old new : SeatOf T) → Type 0
  Adds old new = (more : List Atomic) × (steps new ≡ steps old ++ more)

  -- The same, and none of them sets the hit bit of an entry.
  pub record AddsUnmarked (old new : SeatOf T) : Type 0 where
    pub more : List Atomic
    pub adds : steps new ≡ steps old ++ more
    pub unmarked : Each (λ (step : Atomic). ¬ (step.first ≡ HIT_BIT)) more

  -- this step first, and others behind it, or none
  abbrev pub Begins : (first : Atomic) → (old new : SeatOf T) → Type 0
  Begins first old new = (more : List Atomic) × (steps new ≡ after (steps old) first ++ more)

  -- these two steps first, and others behind them, or none
  abbrev pub BeginsWithTwo : (first second : Atomic) → (old new : SeatOf T) → Type 0
  BeginsWithTwo first second old new =
      (more : List Atomic) × (steps new ≡ after (after (steps old) first) second ++ more)

  -- this step last, and others before it, or none
  abbrev pub Ends : (last : Atomic) → (old new : SeatOf T) → Type 0
  Ends last old new = (more : List Atomic) × (steps new ≡ after (steps old ++ more) last)

  -- this step among others
  abbrev pub Among : (one : Atomic) → (old new : SeatOf T) → Type 0
  Among one old new =
      (before : List Atomic) × (more : List Atomic)
      × (steps new ≡ after (steps old ++ before) one ++ more)

  -- An exchange of this word was the only step, and it found another.
  abbrev pub LosesExchange : (address word next : ℕ) → (old new : SeatOf T) → Type 0
  LosesExchange address word next old new =
      (found : ℕ) × ¬ (found ≡ word) × Makes address word next found old new

  -- To take the entry of this word was tried by one exchange: it lost, and nothing else was done,
  -- or it won, and what freeing the slot takes came behind it.
  abbrev pub TriesToTake : (address word : ℕ) → Option ℕ → (old new : SeatOf T) → Type 0
  TriesToTake address word freed old new =
      IfNone freed (LosesExchange address word CONSTRUCTION_WORD old new)
      × IfSome freed (λ _. Begins (atomic address word CONSTRUCTION_WORD word) old new)

  -- References of this weight were acquired by one add, which found this word. Where they don't
  -- count, and both counters of the word that the add left can be corrected, the one try to do so
  -- came behind it, and nothing else did.
  pub record Acquires (address weight found : ℕ) (old new : SeatOf T) : Type 0 where
    pub first : Begins (atomic address weight 0 found) old new
    pub once : ¬ IsWorn weight found → Makes address weight 0 found old new
    pub worn : IsWorn weight found
        → (other : ℕ) × MakesTwo (atomic address weight 0 found)
        (atomic address (acquired weight found) (corrected_word (acquired weight found)) other)
        old new

  -- The one try to correct both counters of a slot, once references of this weight were acquired on
  -- this word: it was made where it was due. It is counted as a correction where it found the word
  -- that the add left, and as an exchange that lost where it found another.
  pub record Corrects (address weight found : ℕ) (before after : Effort) (old new : SeatOf T)
      : Type 0 where
    pub none : ¬ IsWorn weight found → after ≡ before
    pub tried : IsWorn weight found
        → (other : ℕ) × MakesTwo (atomic address weight 0 found)
        (atomic address (acquired weight found) (corrected_word (acquired weight found)) other)
        old new
        × (other ≡ acquired weight found → Corrected before after)
        × (¬ (other ≡ acquired weight found) → Lost 1 1 before after)

  -- References of this weight were acquired, and released as uses where they counted, else given
  -- back.
  abbrev pub UsesUp : (address weight : ℕ) → (old new : SeatOf T) → Type 0
  UsesUp address weight old new =
      (found : ℕ) × (left : ℕ) × Among (atomic address weight 0 found) old new
      × Among (atomic address (amount_of (is_counting found) weight) 0 left) old new

  -- An entry was marked: the acquire of it found the mark, or the last step set it.
  abbrev pub Marks : (address : ℕ) → (old new : SeatOf T) → Type 0
  Marks address old new =
      (found : ℕ)
      × (hit_of found ≡ false → (other : ℕ) × Ends (atomic address HIT_BIT 0 other) old new)
      × (hit_of found ≡ true → Among (atomic address 1 0 found) old new)

-- to take an entry: an exchange, and then what freeing its slot costs
abbrev pub freeing : ℕ → ℕ
freeing slots = slots + 5

-- to try to put an entry into one slot, by the answer
abbrev pub trying : (room : ℕ) → Insertion → ℕ
trying room (Placed slot) = room + 7
trying room Matched = 6
trying room NoSlot = 6

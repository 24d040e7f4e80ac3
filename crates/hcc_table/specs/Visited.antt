-- What a visit of the clock tells.
use Rattle.std.specs.Prelude.{◌≡◌, ℕ, true, false, List, None, Some}
use Rattle.hcc_word.specs.Word.{hit_of, is_shareable, refs_of}
use Rattle.hcc_word.specs.declared.layout.TheConstants.{CONSTRUCTION_WORD}
use Rattle.hcc_word.specs.Changes.{IsClockable, clocked_word}
use Rattle.hcc_rule.specs.declared.key.Key.{Key}
use Rattle.hcc_rule.specs.Seats.{SeatOf, Makes, atomic, view}
use Rattle.hcc_rule.specs.Looked.{Backs, after_look}
use Rattle.hcc_rule.specs.ToldOwners.{is_warm}
use Rattle.hcc_table.specs.declared.efforts.Effort.{Effort}
use Rattle.hcc_table.specs.declared.visiting.ClockVisit.{ClockVisit}
use Rattle.hcc_table.specs.declared.visiting.ClockVisit.TheVariants as visits
use Rattle.hcc_table.specs.Efforts.{Lost}
use Rattle.hcc_table.specs.Freed.{IsFreed, TakenAt}
use Rattle.hcc_table.specs.Searched.{Sought}
use Rattle.hcc_table.specs.Steps.{Begins, BeginsWithTwo, LosesExchange, MakesTwo}

-- an exchange that lost is counted, and nothing else is
abbrev pub LostBy : ClockVisit → Effort → Effort → Type 0
LostBy visits.Lost old new = Lost 1 1 old new
LostBy visit old new = new ≡ old

module _ {T : Type 0} (fits : T → Key → List ℕ → Type 0) (slots room address slot : ℕ) where
  -- What a visit found and did, by its answer: a word of no entry; one of an entry with references;
  -- one that counts down; an exchange that came too late; or an entry that was freed, and that was
  -- not Shown with uses left. The client looked at that slot, and what it holds there shows in the
  -- word: so an entry that it holds is pinned, or the exchange came too late. The first step was a
  -- load of that word, and the second, if any, the one exchange of it.
  abbrev pub Visited : ClockVisit → SeatOf T → SeatOf T → Type 0
  Visited visits.Passed a b =
      (word : ℕ) × Makes address 0 0 word a b × (is_shareable word ≡ false)
      × Backs slot word (view a) × (view b ≡ after_look slot word (view a))
  Visited visits.Pinned a b =
      (word : ℕ) × Makes address 0 0 word a b × (is_shareable word ≡ true) × ¬ (refs_of word ≡ 0)
      × Backs slot word (view a) × (view b ≡ after_look slot word (view a))
  Visited visits.Counted a b =
      (word : ℕ) × MakesTwo (atomic address 0 0 word)
      (atomic address word (clocked_word word) word) a b
      × IsClockable word × Backs slot word (view a) × (view b ≡ after_look slot word (view a))
  Visited visits.Lost a b =
      (word : ℕ) × (next : ℕ) × (found : ℕ) × ¬ (found ≡ word)
      × MakesTwo (atomic address 0 0 word) (atomic address word next found) a b
      × Sought (view a) (view b) × ((view b).met ≡ (view a).met)
      × ((view b).glimpse ≡ (view a).glimpse)
  Visited (visits.Freed charge hit) a b =
      (word : ℕ) × BeginsWithTwo (atomic address 0 0 word)
      (atomic address word CONSTRUCTION_WORD word) a b
      × (hit ≡ hit_of word) × IsFreed fits room word None charge (view a) (view b)
      × (is_warm word ≡ false) × (refs_of word ≡ 0) × Backs slot word (view a)
      × ((view b).records ≡ (view a).records) × ((view b).work.looked ≡ Some slot)
      × TakenAt fits slots room slot word None charge (after_look slot word (view a)) (view b)

  -- what a try to free the entry of this word does
  abbrev pub Swept : (word : ℕ) → ClockVisit → SeatOf T → SeatOf T → Type 0
  Swept word visits.Lost a b =
      LosesExchange address word CONSTRUCTION_WORD a b
      × Sought (view a) (view b) × ((view b).met ≡ (view a).met)
      × ((view b).glimpse ≡ (view a).glimpse)
  Swept word (visits.Freed charge hit) a b =
      Begins (atomic address word CONSTRUCTION_WORD word) a b
      × (hit ≡ hit_of word) × IsFreed fits room word None charge (view a) (view b)
      × ((view b).records ≡ (view a).records) × ((view b).work.looked ≡ (view a).work.looked)
      × TakenAt fits slots room slot word None charge (view a) (view b)
  Swept word visit a b = ⊥

-- what an exchange that counts down does
abbrev pub CountedDown : {T : Type 0} → (address word : ℕ) → ClockVisit → (old new : SeatOf T)
    → Type 0
CountedDown address word visits.Counted a b =
    Makes address word (clocked_word word) word a b × (view b ≡ view a)
CountedDown address word visits.Lost a b =
    LosesExchange address word (clocked_word word) a b
    × Sought (view a) (view b) × ((view b).met ≡ (view a).met)
    × ((view b).glimpse ≡ (view a).glimpse)
CountedDown address word visit a b = ⊥

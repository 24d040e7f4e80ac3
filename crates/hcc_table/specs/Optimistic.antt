-- What an optimistic reading found and copied: one that holds no reference on the entry meanwhile.
use Rattle.std.specs.Prelude.{◌≡◌, ℕ, ◌+◌, ◌*◌, ◌<◌, Bool, true, false, List, Option, Some, None, IfSome, length}
use Rattle.hcc_word.specs.declared.layout.TheConstants.{GREATEST_CLOCKED}
use Rattle.hcc_word.specs.Word.{hit_of, is_visible, releases_of}
use Rattle.hcc_core.specs.declared.event.Event.{Event}
use Rattle.hcc_core.specs.declared.event.Event.TheVariants as events
use Rattle.hcc_core.specs.declared.slot.Entry.{Entry}
use Rattle.hcc_core.specs.Lawful.{is_in}
use Rattle.hcc_core.specs.Runs.{entry_at}
use Rattle.hcc_rule.specs.declared.key.Key.{Key}
use Rattle.hcc_rule.specs.declared.table.RuleTable.{RuleTable}
use Rattle.hcc_rule.specs.declared.view.Done.{Done}
use Rattle.hcc_rule.specs.Addresses.{address_of_meta}
use Rattle.hcc_rule.specs.Callers.{plan_of, room_of, slots_of, world_at}
use Rattle.hcc_rule.specs.Probes.{probe_slot}
use Rattle.hcc_rule.specs.Seats.{SeatOf, Makes, view}
use Rattle.hcc_rule.specs.ToldGlimpses.{IsRightEntry}
use Rattle.hcc_rule.specs.Views.{Each}
use Rattle.hcc_rule.specs.Words.{key_of, words_for}
use Rattle.hcc_table.specs.declared.optimistic.Got.{Got}
use Rattle.hcc_table.specs.declared.optimistic.Got.TheVariants.{Hit, Miss, Short}
use Rattle.hcc_table.specs.Readings.{CopiesOut}
use Rattle.hcc_table.specs.Searched.{IsMissed, Sought}
use Rattle.hcc_table.specs.Seeking.{Does}
use Rattle.hcc_table.specs.Standing.{IsMomentOf, LacksOnce, shown_at}
use Rattle.hcc_table.specs.Steps.{MakesAtMost}

-- whether it is the event of a load of a slot's word, by which no word changes
abbrev pub is_load : Event → Bool
is_load (events.Look client slot) = true
is_load (events.Peek client slot) = true
is_load (events.Count client slot) = true
is_load other = false

-- One more use of an entry with this meta word, and one more hit, leave what they find: a visit
-- leaves the same countdown without the use, and the mark is set where the cache marks.
pub record IsSpare (useful marks : Bool) (word : ℕ) : Type 0 where
  pub counted : useful ≡ true → GREATEST_CLOCKED < releases_of word
  pub marked : marks ≡ true → hit_of word ≡ true

module _ {T A : Type 0} (table : RuleTable T A) where
  -- All that the seat did was to load words of slots.
  pub record OnlyLoads (old new : SeatOf T) : Type 0 where
    pub own : List Done
    pub does : Does table own old new
    pub only : Each (λ (done : Done). is_load done.event ≡ true) own

  -- so it was, and what the client has stays as a search leaves it
  pub record Reads (old new : SeatOf T) : Type 0 where
    pub loads : OnlyLoads old new
    pub sought : Sought (view old) (view new)

  -- At this moment of a call its client loaded the meta word of a slot, which showed the entry.
  pub record Glances (slot word : ℕ) (entry : Entry) (old new : SeatOf T) : Type 0 where
    pub before : SeatOf T
    pub moment : SeatOf T
    pub is_moment : IsMomentOf table moment old new
    pub loads : Makes (address_of_meta table slot) 0 0 word before moment
    pub visible : is_visible word ≡ true
    pub shows : shown_at (world_at table moment) slot ≡ Some entry

  -- At some moment of a call this held of the entry in a slot, if one stood there.
  abbrev pub PeeksOnce : (slot : ℕ) → (Entry → Type 0) → (old new : SeatOf T) → Type 0
  PeeksOnce slot P old new =
      (moment : SeatOf T) × IsMomentOf table moment old new
      × IfSome (entry_at (world_at table moment) slot) P

  -- at some moment each half of its key was that of this key
  pub record PeeksKey (key : Key) (slot : ℕ) (old new : SeatOf T) : Type 0 where
    pub first : PeeksOnce slot (λ e. e.key0 ≡ key.w0) old new
    pub second : PeeksOnce slot (λ e. e.key1 ≡ key.w1) old new

  -- each slot lacks the key at some moment of the call
  abbrev pub LacksAll : Key → (old new : SeatOf T) → Type 0
  LacksAll key old new = (slot : ℕ) → slot < slots_of table → LacksOnce table key slot old new

module _ {T A : Type 0} (fits : T → Key → List ℕ → Type 0) (table : RuleTable T A) (key : Key)
    (useful marks : Bool) where
  -- The value of an entry of the key was read in a slot: an entry as an insertion made it, which
  -- the client hadn't seen dead. When the client looked at it, it was shown, and one more use of it
  -- was spare.
  pub record ReadsThere (slot : ℕ) (got : Got) (before after : List ℕ) (old new : SeatOf T)
      : Type 0 where
    pub entry : Entry
    pub asked : key_of entry ≡ key
    pub right : IsRightEntry fits (plan_of table).tag (room_of table) entry
    pub alive : is_in entry.stamp (view old).work.dead ≡ false
    pub word : ℕ
    pub glances : Glances table slot word entry old new
    pub spare : IsSpare useful marks word
    pub copies : CopiesOut got entry.value before after

  -- So it was at this probe. The slots of earlier ones lacked the key once.
  pub record ReadsShown (got : Got) (before after : List ℕ) (old new : SeatOf T) : Type 0 where
    pub probe : ℕ
    pub inside : probe < slots_of table
    pub there : ReadsThere (probe_slot (slots_of table) key probe) got before after old new
    pub earlier : (j : ℕ) → j < probe
        → LacksOnce table key (probe_slot (slots_of table) key j) old new
    pub few : MakesAtMost (4 * probe + 10 + words_for (length there.entry.value)) old new

  -- what came of reading the entry in a slot: it was read, or has to be held
  abbrev pub ReadsAt : (slot : ℕ) → Option Got → (before after : List ℕ) → (old new : SeatOf T)
      → Type 0
  ReadsAt slot (Some got) before after old new =
      (there : ReadsThere slot got before after old new)
      × MakesAtMost (7 + words_for (length there.entry.value)) old new
  ReadsAt slot None before after old new =
      (after ≡ before) × MakesAtMost (7 + room_of table) old new

  -- what an optimistic reading did, by its answer
  abbrev pub ReadsOptimistic : Got → (before after : List ℕ) → (old new : SeatOf T) → Type 0
  ReadsOptimistic Miss before after old new =
      (after ≡ before) × IsMissed key (view old) (view new) × LacksAll table key old new
  ReadsOptimistic (Hit count) before after old new = ReadsShown (Hit count) before after old new
  ReadsOptimistic (Short count) before after old new =
      ReadsShown (Short count) before after old new

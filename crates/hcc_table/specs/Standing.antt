-- What a shard shows at the moments of a call: in the worlds to which the histories lead that its
-- seat knew then.
use Rattle.std.specs.Prelude.{◌≡◌, ℕ, zero, suc, ◌+◌, ◌<◌, true, List, [], ◌∷◌, ◌++◌, Option, Some, None, IsSomeAnd}
use Rattle.hcc_core.specs.declared.slot.Entry.{Entry}
use Rattle.hcc_core.specs.Sums.{when}
use Rattle.hcc_core.specs.World.{State}
pub use Rattle.hcc_core.specs.Shown.{entry_shown, shown_at}
use Rattle.hcc_rule.specs.declared.key.Key.{Key}
use Rattle.hcc_rule.specs.declared.table.RuleTable.{RuleTable}
use Rattle.hcc_rule.specs.declared.view.Done.{Done}
use Rattle.hcc_rule.specs.Acts.{client_by, past}
use Rattle.hcc_rule.specs.Callers.{slots_of, IsEvent, world_at}
use Rattle.hcc_rule.specs.Probes.{probe_slot}
use Rattle.hcc_rule.specs.Records.{record_in}
use Rattle.hcc_rule.specs.Seats.{SeatOf, view}
use Rattle.hcc_rule.specs.Words.{key_of}
use Rattle.hcc_table.specs.declared.inserting.Insertion.{Insertion}
use Rattle.hcc_table.specs.declared.inserting.Insertion.TheVariants.{Placed, Matched, NoSlot}
use Rattle.hcc_table.specs.declared.pins.Pin.{Pin}
use Rattle.hcc_table.specs.Searched.{is_key}
use Rattle.hcc_table.specs.Seeking.{Seeks, is_seeking}

-- a world shows a key in a slot: a visible entry of the key is there
abbrev pub ShowsKey : State → Key → (slot : ℕ) → Type 0
ShowsKey world key slot = IsSomeAnd (shown_at world slot) (λ e. key_of e ≡ key)

-- how many of the first so many slots of a world show a key
abbrev pub counts_shown : Key → Option Entry → ℕ
counts_shown key None = 0
counts_shown key (Some e) = when (is_key key (key_of e)) 1

abbrev pub shown_of : (slots : ℕ) → Key → State → ℕ
shown_of zero key world = 0
shown_of (suc n) key world = shown_of n key world + counts_shown key (shown_at world n)

-- From one world to the next so many slots that showed the key stopped to: all that did, and they
-- show nothing then. Each other slot shows what it showed.
pub record HidesShown (slots : ℕ) (key : Key) (hidden : ℕ) (world next : State) : Type 0 where
  pub all : hidden ≡ shown_of slots key world
  pub none : (slot : ℕ) → slot < slots → ¬ ShowsKey next key slot
  pub gone : (slot : ℕ) → ShowsKey world key slot → shown_at next slot ≡ None
  pub others : (slot : ℕ) → ¬ ShowsKey world key slot → shown_at next slot ≡ shown_at world slot

-- each slot shows what it showed
abbrev pub ShowsSame : State → State → Type 0
ShowsSame world next = (slot : ℕ) → shown_at next slot ≡ shown_at world slot

module _ (slots : ℕ) (key : Key) where
  -- none of the first so many probes of the key shows it
  abbrev pub NoneBefore : State → (i : ℕ) → Type 0
  NoneBefore world i = (j : ℕ) → j < i → ¬ ShowsKey world key (probe_slot slots key j)

  -- A probe of the key that showed nothing came to show it, and none before it does. Each other
  -- slot shows what it showed.
  pub record ShowsMore (slot : ℕ) (world next : State) : Type 0 where
    pub i : ℕ
    pub probe : slot ≡ probe_slot slots key i
    pub before : NoneBefore world i
    pub free : shown_at world slot ≡ None
    pub shows : ShowsKey next key slot
    pub others : (s : ℕ) → ¬ (s ≡ slot) → shown_at next s ≡ shown_at world s

  -- An insertion of the key in a world that stood still otherwise, by its answer. Placed: the entry
  -- is shown, at an earlier probe than each that showed the key. Matched: a probe shows the key,
  -- and none before it does. No slot: none shows it.
  abbrev pub InsertsShown : Insertion → (world next : State) → Type 0
  InsertsShown (Placed slot) world next = ShowsMore slot world next
  InsertsShown Matched world next =
      (i : ℕ) × (i < slots) × ShowsKey world key (probe_slot slots key i) × NoneBefore world i
      × ShowsSame world next
  InsertsShown NoSlot world next =
      ((slot : ℕ) → slot < slots → ¬ ShowsKey world key slot) × ShowsSame world next

module _ {T A : Type 0} (table : RuleTable T A) where
  -- A moment of a call that searched: right behind a step of the call's own client, made since the
  -- call began, when its seat was this. The history up to it goes on from what the seat knew when
  -- the call began, and what it knew at the end goes on from that.
  pub record IsMomentOf (moment old new : SeatOf T) : Type 0 where
    pub before : SeatOf T
    pub done : Done
    pub began : Seeks table old before
    pub step : IsEvent table done before moment
    pub seeking : is_seeking done.event ≡ true
    pub own : client_by done.event ≡ (view old).client
    pub rest : Seeks table moment new
    pub since : List Done
    pub begins : past moment ≡ past old ++ (since ++ done ∷ [])
    pub later : List Done
    pub goes_on : past new ≡ past moment ++ later

  -- at some moment of the call the shard shows this entry in this slot
  abbrev pub ShowsOnce : (slot : ℕ) → Entry → (old new : SeatOf T) → Type 0
  ShowsOnce slot entry old new =
      (moment : SeatOf T) × IsMomentOf moment old new
      × (shown_at (world_at table moment) slot ≡ Some entry)

module _ {T A : Type 0} (table : RuleTable T A) (key : Key) where
  -- at some moment of the call the shard doesn't show the key in this slot
  abbrev pub LacksOnce : (slot : ℕ) → (old new : SeatOf T) → Type 0
  LacksOnce slot old new =
      (moment : SeatOf T) × IsMomentOf table moment old new
      × ¬ ShowsKey (world_at table moment) key slot

  -- Of each slot this holds where a search missed. Where it found an entry, the one that it holds
  -- under the name is of the key, and was shown once; and each slot of an earlier probe lacked the
  -- key once.
  abbrev pub FindsLasting : (name : ℕ) → Option Pin → (old new : SeatOf T) → Type 0
  FindsLasting name None old new =
      (slot : ℕ) → slot < slots_of table → LacksOnce slot old new
  FindsLasting name (Some pin) old new =
      (i : ℕ) × (pin.slot ≡ probe_slot (slots_of table) key i)
      × IsSomeAnd (record_in name (view new).records)
      (λ r. (key_of r.entry ≡ key) × ShowsOnce table pin.slot r.entry old new)
      × ((j : ℕ) → j < i → LacksOnce (probe_slot (slots_of table) key j) old new)

  -- A search of a world that stood still: it missed where the world shows the key in no slot, else
  -- it found the slot of the earliest probe that shows it.
  abbrev pub FindsFirst : State → Option Pin → Type 0
  FindsFirst world None = (slot : ℕ) → slot < slots_of table → ¬ ShowsKey world key slot
  FindsFirst world (Some pin) =
      (i : ℕ) × (pin.slot ≡ probe_slot (slots_of table) key i) × ShowsKey world key pin.slot
      × ((j : ℕ) → j < i → ¬ ShowsKey world key (probe_slot (slots_of table) key j))

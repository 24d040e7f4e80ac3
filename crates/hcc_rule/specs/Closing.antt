-- What the words of a shard tell once it is closed.
use Rattle.std.specs.Prelude.{◌≡◌, ℕ, ◌+◌, ◌*◌, ◌/◌, ◌<◌, ◌≤◌, Bool, true, false, ◌==◌, List, [], Option, Some, None, find, length, slice_get, slice_index, if◌then◌else◌}
use Rattle.std.specs.List.{range_with_len}
use Rattle.std.specs.Slots.{slots_items}
use Rattle.atomic_table.specs.Table as table
use Rattle.hcc_word.specs.Word.{is_empty, is_shareable, refs_of, releases_of}
use Rattle.hcc_core.specs.declared.limits.TheConstants.{MOST_USES, MOST_WEIGHT, OCCUPANCY_PERCENT}
use Rattle.hcc_core.specs.declared.slot.Stamp.{Stamp}
use Rattle.hcc_core.specs.Sums.{when, total}
use Rattle.hcc_core.specs.World.{times}
use Rattle.hcc_rule.specs.declared.closed.ClosedTable.{ClosedTable}
use Rattle.hcc_rule.specs.declared.geometry.Geometry.{Geometry}
use Rattle.hcc_rule.specs.declared.key.Key.{Key}
use Rattle.hcc_rule.specs.declared.layout.TheConstants.{META, DISPLACEMENT, DATA, KEY0, KEY1, CHARGE, USAGE, OCCUPANCY, STANDING, HAND}
use Rattle.hcc_rule.specs.declared.rule.Plan.{Plan}
use Rattle.hcc_rule.specs.declared.view.Gone.{Gone}
use Rattle.hcc_rule.specs.declared.view.Made.{Made}
use Rattle.hcc_rule.specs.declared.view.Other.{Other}
use Rattle.hcc_rule.specs.declared.view.View.{View}
use Rattle.hcc_rule.specs.Passing.{IsIdle}
use Rattle.hcc_rule.specs.Probes.{trail_to}
use Rattle.hcc_rule.specs.Rule.{hand_at, Holds, IsRight, list_weighs, taken_weigh}
use Rattle.hcc_rule.specs.Views.{named_by, Each}
use Rattle.hcc_rule.specs.Records.{weight_on}
use Rattle.hcc_rule.specs.Words.{field_at, ledger_at, made_words}

-- the words of a closed shard
abbrev pub words_of : {A : Type 0} → ClosedTable A → List ℕ
words_of closed = slots_items closed.closed.words

-- Words and a view are of one state that meets the rule.
pub record Shown {T : Type 0} (fits : T → Key → List ℕ → Type 0) (p : Plan T) (words : List ℕ)
    (v : View T) : Type 0 where
  pub state : table.State (Unit {0}) (View T)
  pub holds : Holds fits p state
  pub same : state.words ≡ words
  pub number : ℕ
  pub seen : slice_get state.views number ≡ Some v

-- Of words alone.

module _ (room : ℕ) (words : List ℕ) where
  -- a slot's meta word, and one of its data words
  abbrev pub meta_at : (slot : ℕ) → ℕ
  meta_at slot = slice_index words (field_at room slot META)

  abbrev pub data_at : (slot index : ℕ) → ℕ
  data_at slot index = slice_index words (field_at room slot (DATA + index))

  -- whether the slot has an entry, visible or hidden
  abbrev pub has_entry : (slot : ℕ) → Bool
  has_entry slot = is_shareable (meta_at slot)

  -- the key of a slot's entry
  abbrev pub key_at : (slot : ℕ) → Key
  key_at slot = record { w0 = data_at slot KEY0; w1 = data_at slot KEY1 }

  -- the sum of what each slot with an entry gives
  abbrev pub over_entries : (slots : ℕ) → (ℕ → ℕ) → ℕ
  over_entries slots f = total (λ s. when (has_entry s) (f s)) (range_with_len 0 slots)

-- The ledger words and the displacement words are what the entries give: their charges, their
-- number, nothing that stands, and the slots that stand in their trails.
pub record IsSettled (slots room : ℕ) (words : List ℕ) : Type 0 where
  pub usage : slice_index words (ledger_at slots room USAGE)
      ≡ over_entries room words slots (λ s. data_at room words s CHARGE)
  pub occupancy : slice_index words (ledger_at slots room OCCUPANCY)
      ≡ over_entries room words slots (λ s. 1)
  pub standing : slice_index words (ledger_at slots room STANDING) ≡ 0
  pub passed : (j : ℕ) → j < slots
      → slice_index words (field_at room j DISPLACEMENT)
      ≡ over_entries room words slots (λ s. times j (trail_to slots (key_at room words s) s))

-- Of the last seat.

-- it names every client, and its own has nothing in hand; records may still stand
pub record IsBack {T : Type 0} (clients : ℕ) (v : View T) : Type 0 where
  pub idle : IsIdle v.work
  pub all : named_by v ≡ clients

-- the made list of a client that a view may name beside its own
abbrev pub made_by : Option Other → List Made
made_by None = []
made_by (Some o) = o.made

-- the made list of any client that a view names
abbrev pub list_by : {T : Type 0} → View T → ℕ → List Made
list_by v client =
    if v.client == client then v.made else made_by
    (find (λ (o : Other). o.client == client) v.others)

-- the slot's entry is what a client made under this stamp: its data words say so
pub record IsKept {T : Type 0} (fits : T → Key → List ℕ → Type 0) (tag : T) (room : ℕ)
    (words : List ℕ) (v : View T) (slot : ℕ) (stamp : Stamp) : Type 0 where
  pub made : Made
  pub listed : slice_get (list_by v stamp.client) stamp.number ≡ Some made
  pub says : (index : ℕ) → index < length (made_words stamp.client made)
      → data_at room words slot index ≡ slice_index (made_words stamp.client made) index
  pub right : IsRight fits tag room made

-- What the words of a shard and the view of the last seat tell, once all clients are back.
pub record Closes {T : Type 0} (fits : T → Key → List ℕ → Type 0) (tag : T) (geometry : Geometry)
    (words : List ℕ) (v : View T) : Type 0 where
  pub settled : IsSettled geometry.slots geometry.room words
  -- the stamp of each slot's entry
  pub stamp_at : ℕ → Stamp
  pub kept : (s : ℕ) → s < geometry.slots → has_entry geometry.room words s ≡ true
      → IsKept fits tag geometry.room words v s (stamp_at s)
  -- no two slots have the entry of one stamp
  pub apart : (s t : ℕ) → s < geometry.slots → t < geometry.slots
      → has_entry geometry.room words s ≡ true → has_entry geometry.room words t ≡ true
      → stamp_at s ≡ stamp_at t → s ≡ t
  -- the references on an entry are the view's records
  pub held : (s : ℕ) → s < geometry.slots → has_entry geometry.room words s ≡ true
      → refs_of (meta_at geometry.room words s) ≡ weight_on s v.records
  -- no entry has more uses than one may begin with
  pub uses : (s : ℕ) → s < geometry.slots → has_entry geometry.room words s ≡ true
      → releases_of (meta_at geometry.room words s) ≤ MOST_USES
  -- a slot without an entry is empty, but for a few strays
  pub clear : (s : ℕ) → s < geometry.slots → has_entry geometry.room words s ≡ false
      → is_empty (meta_at geometry.room words s) ≡ true
  pub strays : (s : ℕ) → s < geometry.slots → has_entry geometry.room words s ≡ false
      → meta_at geometry.room words s ≤ MOST_WEIGHT * geometry.clients
  -- the entries are as many as were made less those that were taken
  pub left : over_entries geometry.room words geometry.slots (λ s. 1) + v.takings
      ≡ length v.made + total (λ (o : Other). length o.made) v.others
  -- what was made stands in one slot or was taken once: by every weighing of stamps
  pub weighed : (h : Stamp → ℕ)
      → over_entries geometry.room words geometry.slots (λ s. h (stamp_at s)) + taken_weigh h v.gone
      ≡ list_weighs h v.client 0 v.made
      + total (λ (o : Other). list_weighs h o.client 0 o.made) v.others
  -- what was taken is as many entries as the view counts, and each is of the list of its maker
  pub counted : length v.gone ≡ v.takings
  pub taken : Each (λ (g : Gone). slice_get (list_by v g.stamp.client) g.stamp.number ≡ Some g.made)
      v.gone
  -- the entries are within the limit
  pub places : over_entries geometry.room words geometry.slots (λ s. 1)
      ≤ geometry.slots * OCCUPANCY_PERCENT / 100
  -- the hand is where the turns of all clients left it
  pub hand : slice_index words (ledger_at geometry.slots geometry.room HAND) ≡ hand_at v.turns

-- Under strict capacity the charges of all entries are within it.
abbrev pub IsWithin : Geometry → (capacity : ℕ) → (strict : Bool) → (words : List ℕ) → Type 0
IsWithin geometry capacity strict words =
    strict ≡ true
    → over_entries geometry.room words geometry.slots (λ s. data_at geometry.room words s CHARGE)
    ≤ capacity

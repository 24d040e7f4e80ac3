-- The rule: which words and views show a world. Each part speaks of some readings alone, so that a
-- step that leaves these keeps the part.
use Rattle.std.specs.Prelude.{◌∷◌, ◌≡◌, ◌≢◌, ◌⊎◌, ℕ, ◌+◌, ◌*◌, ◌%◌, ◌^◌, ◌<◌, ◌≤◌, true, List, [], Option, Some, None, IfSome, length, slice_get, slice_index, option_and_then, nat_lt}
use Rattle.std.specs.Option.{unwrap_or}
use Rattle.atomic_table.specs.Table as table
use Rattle.hcc_core.specs.declared.limits.TheConstants.{REFERENCES_PER_CLIENT, STAMPS_PER_CLIENT, SLOTS_PER_TURN}
use Rattle.hcc_core.specs.declared.setup.Setup.{Setup}
use Rattle.hcc_core.specs.declared.client.Client.{Client}
use Rattle.hcc_core.specs.declared.slot.Entry.{Entry}
use Rattle.hcc_core.specs.declared.slot.Reference.{Reference}
use Rattle.hcc_core.specs.declared.slot.Stamp.{Stamp}
use Rattle.hcc_core.specs.declared.client.Owned.TheVariants as owned
use Rattle.hcc_core.specs.declared.client.Standalone.{Standalone}
use Rattle.hcc_core.specs.declared.slot.Slot.{Slot}
use Rattle.hcc_core.specs.declared.slot.Slot.TheVariants as slots
use Rattle.hcc_core.specs.Sums.{when, total}
use Rattle.hcc_core.specs.World.{State, references_of, taken_by_slot, usage_of, occupancy_of, standing_in, passed_by}
use Rattle.hcc_core.specs.Opening.{new_client}
use Rattle.hcc_core.specs.Lawful.{IsLawful, owned_slot}
use Rattle.hcc_rule.specs.declared.key.Key.{Key}
use Rattle.hcc_rule.specs.declared.layout.TheConstants.{META, DISPLACEMENT, DATA, STAMP, PAYLOAD, USAGE, OCCUPANCY, STANDING, HAND}
use Rattle.hcc_core.specs.declared.limits.TheConstants.{MOST_HANDLES}
use Rattle.hcc_rule.specs.declared.rule.Plan.{Plan}
use Rattle.hcc_rule.specs.declared.view.Gone.{Gone}
use Rattle.hcc_rule.specs.declared.view.Made.{Made}
use Rattle.hcc_rule.specs.declared.view.Other.{Other}
use Rattle.hcc_rule.specs.declared.view.Record.{Record}
use Rattle.hcc_rule.specs.declared.view.Stood.{Stood}
use Rattle.hcc_rule.specs.declared.view.Stood.TheVariants as stood
use Rattle.hcc_rule.specs.declared.view.View.{View}
use Rattle.hcc_rule.specs.Words.{field_at, ledger_at, word_count, Lies, code_of, made_words, stamp_word, entry_of, key_of}
use Rattle.hcc_rule.specs.Probes.{trail_to}
use Rattle.hcc_rule.specs.Views.{load_of, times_called, is_seated, held, names, named_by, Each}

-- What each client showed, in order: the list at its number.
abbrev pub Books : Type 0
Books = List (List Made)

abbrev pub book_of : Books → ℕ → List Made
book_of books client = unwrap_or (slice_get books client) []

-- what its maker showed under this stamp
abbrev pub made_at : Books → Stamp → Option Made
made_at books stamp = slice_get (book_of books stamp.client) stamp.number

-- Weighings of stamps, by which the rule says that what was shown is in one place.

-- what a client's list weighs, from this number on
abbrev pub list_weighs : (Stamp → ℕ) → (client number : ℕ) → List Made → ℕ
list_weighs h client number [] = 0
list_weighs h client number (made ∷ more) =
    h (record { client = client; number = number }) + list_weighs h client (number + 1) more

-- what all lists weigh, from that of this client on
abbrev pub books_weigh : (Stamp → ℕ) → (client : ℕ) → Books → ℕ
books_weigh h client [] = 0
books_weigh h client (book ∷ more) =
    list_weighs h client 0 book + books_weigh h (client + 1) more

-- what a slot's entry weighs
abbrev pub slot_weighs : (Stamp → ℕ) → Slot → ℕ
slot_weighs h (slots.Empty strays) = 0
slot_weighs h (slots.Building client strays) = 0
slot_weighs h (slots.Shareable r) = h r.entry.stamp

-- what entries weigh that were taken
abbrev pub taken_weigh : (Stamp → ℕ) → List Gone → ℕ
taken_weigh h = total (λ (g : Gone). h g.stamp)

-- Codes and data words.

-- each meta word is the code of its slot
pub record Coded (room : ℕ) (all : List Slot) (words : List ℕ) : Type 0 where
  pub wide : length words ≡ word_count (length all) room
  pub meta : (s : ℕ) (slot : Slot) → slice_get all s ≡ Some slot
      → slice_index words (field_at room s META) ≡ code_of slot

-- an entry is what its maker's list has under its stamp, and its data words say so
pub record IsStored (room : ℕ) (words : List ℕ) (books : Books) (s : ℕ)
    (entry : Entry) : Type 0 where
  pub made : Made
  pub listed : made_at books entry.stamp ≡ Some made
  pub same : entry ≡ entry_of entry.stamp made
  pub lies : Lies words (field_at room s DATA) (made_words entry.stamp.client made)

abbrev pub entry_by : Slot → Option Entry
entry_by (slots.Empty strays) = None
entry_by (slots.Building client strays) = None
entry_by (slots.Shareable r) = Some r.entry

abbrev pub entry_in : Option Slot → Option Entry
entry_in o = option_and_then entry_by o

abbrev pub Stored : ℕ → List Slot → List ℕ → Books → Type 0
Stored room all words books =
    (s : ℕ) (entry : Entry) → entry_in (slice_get all s) ≡ Some entry
    → IsStored room words books s entry

-- In the slot that a client owns stand the words that its view has: those that it wrote so far, or
-- all of the entry's that it took to free.
pub record IsDraft {T : Type 0} (room : ℕ) (words : List ℕ) (v : View T) : Type 0 where
  pub short : length v.written ≤ PAYLOAD + room
  pub lies : (s : ℕ) → owned_slot v.work.owned ≡ Some s
      → Lies words (field_at room s DATA) v.written

abbrev pub Drafted : {T : Type 0} → ℕ → List ℕ → List (View T) → Type 0
Drafted {T} room words views =
    (j : ℕ) (v : View T) → slice_get views j ≡ Some v → IsDraft room words v

-- References.

-- a record is of a slot that has its entry
pub record IsRecorded (all : List Slot) (r : Record) : Type 0 where
  pub there : entry_in (slice_get all r.slot) ≡ Some r.entry
  pub some : 0 < r.weight

-- The references of each slot are the records of it in all views, up to order: every weighing
-- finds them equal.
abbrev pub References : {T : Type 0} → List Slot → List (View T) → Type 0
References all views =
    (s : ℕ) (slot : Slot) → slice_get all s ≡ Some slot → (h : Reference → ℕ)
    → total h (references_of slot) ≡ total (held s h) views

-- what holds of the records of one view: each has its slot's entry, their names differ, and they
-- weigh no more than a client's handles and a call in flight
pub record IsHolding {T : Type 0} (all : List Slot) (v : View T) : Type 0 where
  pub recorded : Each (IsRecorded all) v.records
  pub once : (name : ℕ) → times_called name v.records ≤ 1
  pub few : load_of v.records ≤ REFERENCES_PER_CLIENT

abbrev pub Holding : {T : Type 0} → List Slot → List (View T) → Type 0
Holding {T} all views = (j : ℕ) (v : View T) → slice_get views j ≡ Some v → IsHolding all v

-- Seats.

-- a client that no view stands for has nothing in hand; its stamps and its dead list stay
abbrev pub resting : List Made → List Stamp → Client
resting made dead = record new_client { stamps = length made; dead = dead }

-- a client that a view names beside its own rests, and its lists are the view's
pub record IsNamed (clients : List Client) (books : Books) (o : Other) : Type 0 where
  pub there : slice_get clients o.client ≡ Some (resting o.made o.dead)
  pub book : slice_get books o.client ≡ Some o.made

-- a view that holds nothing, names no other client and counts nothing as its own
abbrev pub IsSpent : {T : Type 0} → View T → Type 0
IsSpent v =
    (v.records ≡ []) × (v.others ≡ []) × (owned_slot v.work.owned ≡ None) × (v.takings ≡ 0)
    × (v.turns ≡ 0) × (v.gone ≡ [])

-- A view that stands for a client has the table's tag, and that client's work in hand and list are
-- its own. One that stands for none names none and holds nothing.
pub record IsSeated {T : Type 0} (tag : T) (clients : List Client) (books : Books)
    (v : View T) : Type 0 where
  pub tagged : IfSome v.tag (λ t. t ≡ tag)
  pub work : is_seated v ≡ true → slice_get clients v.client ≡ Some v.work
  pub live : is_seated v ≡ true → v.work.live ≡ true
  pub book : is_seated v ≡ true → slice_get books v.client ≡ Some v.made
  pub others : Each (IsNamed clients books) v.others
  pub spent : v.tag ≡ None → IsSpent v

-- each client is named by just one view
pub record Seats {T : Type 0} (tag : T) (clients : List Client) (books : Books)
    (views : List (View T)) : Type 0 where
  pub each : (j : ℕ) (v : View T) → slice_get views j ≡ Some v → IsSeated tag clients books v
  pub once : (client : ℕ) → total (names client) views ≡ when (nat_lt client (length clients)) 1
  pub all : total named_by views ≡ length clients

-- Stamps.

-- what a client may show: a value of bytes that fits the key and the slot, a charge above 0 and
-- below 2^32, and a serial of its own range
pub record IsRight {T : Type 0} (fits : T → Key → List ℕ → Type 0) (tag : T) (room : ℕ)
    (made : Made) : Type 0 where
  pub fitting : fits tag made.key made.value
  pub short : length made.value ≤ 8 * room
  pub bytes : Each (λ b. b < 256) made.value
  pub numbered : made.serial < STAMPS_PER_CLIENT
  pub paid : 0 < made.charge
  pub small : made.charge < 2 ^ 32

-- what a view took: as many as it counts, and each is what its maker showed under that stamp
pub record IsGiven {T : Type 0} (books : Books) (v : View T) : Type 0 where
  pub count : length v.gone ≡ v.takings
  pub each : Each (λ (g : Gone). made_at books g.stamp ≡ Some g.made) v.gone

-- each client's count of stamps is the length of its list, and the entries are as many as were
-- shown less those that were taken
pub record Stamps {T : Type 0} (fits : T → Key → List ℕ → Type 0) (tag : T) (room : ℕ)
    (all : List Slot) (clients : List Client) (books : Books) (views : List (View T)) : Type 0 where
  pub sized : length books ≡ length clients
  pub counted : (c : ℕ) (client : Client) → slice_get clients c ≡ Some client
      → client.stamps ≡ length (book_of books c)
  pub right : (stamp : Stamp) (made : Made) → made_at books stamp ≡ Some made
      → IsRight fits tag room made
  pub left : total taken_by_slot all + total (λ (v : View T). v.takings) views ≡ total length books
  -- what was shown stands in one slot, or was taken once: by every weighing of stamps
  pub weighed : (h : Stamp → ℕ)
      → total (slot_weighs h) all + total (λ (v : View T). taken_weigh h v.gone) views
      ≡ books_weigh h 0 books
  pub given : (j : ℕ) (v : View T) → slice_get views j ≡ Some v → IsGiven books v

-- Ledgers and limits.

-- what a client may have in its amounts
pub record IsModest (client : Client) : Type 0 where
  pub asked : client.granted + client.needed < 2 ^ 32
  pub freed : client.freed < 2 ^ 49
  pub few : length client.standalones ≤ MOST_HANDLES
  pub small : Each (λ (s : Standalone). s.charge < 2 ^ 32) client.standalones

-- the ledger words are the world's usage, occupancy and standing, and no client's amounts are great
pub record Ledgers (slots room : ℕ) (w : State) (words : List ℕ) : Type 0 where
  pub usage : slice_index words (ledger_at slots room USAGE) ≡ usage_of w
  pub occupancy : slice_index words (ledger_at slots room OCCUPANCY) ≡ occupancy_of w
  pub standing : slice_index words (ledger_at slots room STANDING) ≡ standing_in w
  pub modest : (c : ℕ) (client : Client) → slice_get w.clients c ≡ Some client → IsModest client

-- The hand.

-- where the hand is once it moved by a turn's slots so many times
abbrev pub hand_at : (turns : ℕ) → ℕ
hand_at turns = (SLOTS_PER_TURN * turns) % 2 ^ 64

-- and once it did for each turn that these views count
abbrev pub hand_after : {T : Type 0} → List (View T) → ℕ
hand_after {T} views = hand_at (total (λ (v : View T). v.turns) views)

-- Trails.

-- the trail of a slot's entry is the probes of its key before that slot
abbrev pub IsTrailed : (size s : ℕ) → Slot → Type 0
IsTrailed size s (slots.Empty strays) = Unit {0}
IsTrailed size s (slots.Building client strays) = Unit {0}
IsTrailed size s (slots.Shareable r) = r.trail ≡ trail_to size (key_of r.entry) s

-- so it is in each slot
abbrev pub AreTrailed : (size : ℕ) → List Slot → Type 0
AreTrailed size all = (s : ℕ) (slot : Slot) → slice_get all s ≡ Some slot → IsTrailed size s slot

-- each displacement word is how often its slot stands in the trails of entries and clients
pub record Trails (slots room : ℕ) (all : List Slot) (clients : List Client)
    (words : List ℕ) : Type 0 where
  pub passed : (s : ℕ) → s < slots
      → slice_index words (field_at room s DISPLACEMENT) ≡ passed_by all clients s
  pub entries : AreTrailed slots all

-- Stamp words.

-- the address of the word that says which entry stands in a slot
abbrev pub stamp_at : (room slot : ℕ) → ℕ
stamp_at room slot = field_at room slot DATA + STAMP

-- this is the stamp word of the entry that was shown under this stamp, and of one that was shown
abbrev pub IsShownAs : Books → (word : ℕ) → Stamp → Type 0
IsShownAs books word stamp =
    (made : Made) × (made_at books stamp ≡ Some made)
    × (word ≡ stamp_word stamp.client made.serial)

abbrev pub WasShown : Books → (word : ℕ) → Type 0
WasShown books word = (stamp : Stamp) × IsShownAs books word stamp

-- the client builds an entry in the slot, and has written this stamp word
abbrev pub IsBuildingAs : {T : Type 0} → (slot word : ℕ) → View T → Type 0
IsBuildingAs slot word v =
    (v.work.owned ≡ owned.ForBuilding slot) × (STAMP < length v.written)
    × (slice_index v.written STAMP ≡ word)

-- the word is that of an entry that was shown, or is being built in this slot
abbrev pub IsTag : {T : Type 0} → Books → List (View T) → (slot word : ℕ) → Type 0
IsTag {T} books views slot word =
    WasShown books word
    ⊎ ((j : ℕ) × (v : View T) × (slice_get views j ≡ Some v) × IsBuildingAs slot word v)

-- what a client knows of a stamp word that it loaded, by what stood there since
abbrev pub IsStood : {T : Type 0} → (room : ℕ) → List ℕ → Books → List (View T) → (slot word : ℕ)
    → Stood → Type 0
IsStood room words books views slot word stood.Unseen = IsTag books views slot word
IsStood room words books views slot word (stood.Entry stamp) = IsShownAs books word stamp
IsStood room words books views slot word stood.Another =
    WasShown books word × (slice_index words (stamp_at room slot) ≢ word)

-- the serial is above those of all that was shown before
abbrev pub IsAbove : (serial : ℕ) → List Made → Type 0
IsAbove serial = Each (λ (m : Made). m.serial < serial)

-- the word is the stamp word of the next entry that a client may show
abbrev pub IsNextStamp : {T : Type 0} → (word : ℕ) → View T → Type 0
IsNextStamp word v =
    (serial : ℕ) × (word ≡ stamp_word v.client serial) × (serial < STAMPS_PER_CLIENT)
    × IsAbove serial v.made

-- What holds of the stamp words that a view knows: what its client builds comes next, and a slot
-- that it looked at, or of which it loaded the stamp word, has had an entry.
pub record IsTagged {T : Type 0} (size room : ℕ) (words : List ℕ) (books : Books)
    (views : List (View T)) (v : View T) : Type 0 where
  pub next : (slot word : ℕ) → IsBuildingAs slot word v → IsNextStamp word v
  pub looked : IfSome v.work.looked (λ slot. (slot < size)
      × IsTag books views slot (slice_index words (stamp_at room slot)))
  pub glimpse : IfSome v.glimpse (λ g. (g.slot < size)
      × IsStood room words books views g.slot g.word g.stood)

-- no two entries that a client showed have one serial
abbrev pub AreApart : List Made → Type 0
AreApart book =
    (n m : ℕ) (a b : Made) → slice_get book n ≡ Some a → slice_get book m ≡ Some b
    → a.serial ≡ b.serial → n ≡ m

pub record Tags {T : Type 0} (size room : ℕ) (words : List ℕ) (books : Books)
    (views : List (View T)) : Type 0 where
  pub apart : (client : ℕ) → AreApart (book_of books client)
  pub each : (j : ℕ) (v : View T) → slice_get views j ≡ Some v
      → IsTagged size room words books views v

-- The rule.

abbrev pub setup_of : {T : Type 0} → Plan T → Setup
setup_of p = record {
  slots = p.geometry.slots;
  clients = p.geometry.clients;
  capacity = p.capacity;
  strict = p.strict;
}

-- Words and views show a lawful world.
pub record Holds {T : Type 0} (fits : T → Key → List ℕ → Type 0) (p : Plan T)
    (s : table.State (Unit {0}) (View T)) : Type 0 where
  pub world : State
  -- what each client showed, in order
  pub books : Books
  pub setup : world.setup ≡ setup_of p
  pub lawful : IsLawful world
  pub coded : Coded p.geometry.room world.slots s.words
  pub stored : Stored p.geometry.room world.slots s.words books
  pub drafted : Drafted p.geometry.room s.words s.views
  pub references : References world.slots s.views
  pub holding : Holding world.slots s.views
  pub seats : Seats p.tag world.clients books s.views
  pub stamps : Stamps fits p.tag p.geometry.room world.slots world.clients books s.views
  pub ledgers : Ledgers p.geometry.slots p.geometry.room world s.words
  pub trails : Trails p.geometry.slots p.geometry.room world.slots world.clients s.words
  -- the hand word is the world's hand
  pub turned : slice_index s.words (ledger_at p.geometry.slots p.geometry.room HAND) ≡ world.hand
  -- the hand has moved by a turn's slots for each turn that a view counts
  pub turns : world.hand ≡ hand_after s.views
  pub tags : Tags p.geometry.slots p.geometry.room s.words books s.views

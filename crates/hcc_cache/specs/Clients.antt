-- What contracts see of a client: what it knows of each shard, its handles, and what they stand
-- for.
use Rattle.std.specs.Prelude.{◌≡◌, ℕ, ◌&&◌, ◌==◌, Bool, List, Option, Some, None, IsSome, option_map, slice_get, if◌then◌else◌}
use Rattle.slab.specs.Slab.{Slab, get}
use Rattle.hcc_core.specs.declared.client.Standalone.{Standalone}
use Rattle.hcc_core.specs.declared.slot.Entry.{Entry}
use Rattle.hcc_rule.specs.declared.key.Key.{Key}
use Rattle.hcc_rule.specs.declared.view.Record.{Record}
use Rattle.hcc_rule.specs.declared.view.View.{View}
use Rattle.hcc_rule.specs.Passing.{spent_view}
use Rattle.hcc_rule.specs.Records.{record_in}
use Rattle.hcc_rule.specs.Words.{key_of}
use Rattle.hcc_table.specs.declared.pins.Pin.{Pin}
use Rattle.hcc_shard.specs.declared.seat.ShardSeat.{ShardSeat}
use Rattle.hcc_shard.specs.Callers.{view_of}
use Rattle.hcc_cache.specs.Alones.{bytes_of}
use Rattle.hcc_cache.specs.declared.cache.Cache.{Cache}
use Rattle.hcc_cache.specs.declared.client.Client.{Client}
use Rattle.hcc_cache.specs.declared.handle.Handle.{Handle}
use Rattle.hcc_cache.specs.declared.holding.Hold.{Hold}
use Rattle.hcc_cache.specs.declared.holding.Kept.{Kept}
use Rattle.hcc_cache.specs.declared.holding.Kept.TheVariants.{Pinned, Standing}
use Rattle.hcc_cache.specs.declared.holding.Alone.{Alone}
use Rattle.hcc_cache.specs.declared.seeded.Seeded.{Seeded}
use Rattle.hcc_cache.specs.Keys.{key_from}

-- Of the seats that a client has, one at each shard.

module _ {T : Type 0} where
  abbrev pub view_by : Option (ShardSeat T) → View T
  view_by None = spent_view
  view_by (Some seat) = view_of seat

  -- what the client knows of the shard of this number
  abbrev pub view_in : List (ShardSeat T) → (shard : ℕ) → View T
  view_in seats shard = view_by (slice_get seats shard)

  -- its references there, and its standalone entries
  abbrev pub records_in : List (ShardSeat T) → (shard : ℕ) → List Record
  records_in seats shard = (view_in seats shard).records

  abbrev pub standalones_in : List (ShardSeat T) → (shard : ℕ) → List Standalone
  standalones_in seats shard = (view_in seats shard).work.standalones

-- Of a handle.

-- A key, a value and a charge, as the caller of one insertion gave them.
pub record Insertion : Type 0 where
  pub key : Key
  pub value : List ℕ
  pub charge : ℕ

-- What a handle stands for: one insertion, and the entry of the table that it is on, or the name of
-- a standalone entry.
pub record Held : Type 0 where
  pub insertion : Insertion
  pub entry : Option Entry
  pub standing : Option ℕ

-- an entry of the table, under this seed
abbrev pub held_entry : (seed : ℕ) → Entry → Held
held_entry seed e = record {
  insertion = record { key = key_from seed (key_of e); value = e.value; charge = e.charge };
  entry = Some e;
  standing = None;
}

-- a standalone entry of this key
abbrev pub held_alone : Key → Alone → Held
held_alone key alone = record {
  insertion = record { key = key; value = bytes_of alone.value; charge = alone.charge };
  entry = None;
  standing = Some alone.name;
}

-- the pin of what is kept of a handle on an entry of the table
pub record IsPinOf (hold : Hold) (pin : Pin) : Type 0 where
  pub name : pin.name ≡ hold.serial
  pub kept : hold.kept ≡ Pinned pin.slot pin.counting

-- the pin of a handle on an entry of the table
abbrev pub pin_of : (serial slot : ℕ) → (counting : Bool) → Pin
pin_of serial slot counting = record { name = serial; slot = slot; counting = counting }

-- whether this is what a client of this number keeps of the handle
abbrev pub is_of : (number : ℕ) → Handle → Hold → Bool
is_of number handle hold = (handle.client == number) && (hold.serial == handle.serial)

abbrev pub if_of : (number : ℕ) → Handle → Option Hold → Option Hold
if_of number handle None = None
if_of number handle (Some hold) = if is_of number handle hold then Some hold else None

module _ {T : Type 0} (seed : ℕ) (seats : List (ShardSeat T)) (alone : Slab Alone) where
  -- what the client keeps stands for
  abbrev pub kept_as : Hold → Kept → Option Held
  kept_as hold (Pinned slot counting) =
      option_map (λ (r : Record). held_entry seed r.entry)
      (record_in hold.serial (records_in seats hold.shard))
  kept_as hold (Standing index) = option_map (held_alone hold.key) (get alone index)

  abbrev pub held_as : Option Hold → Option Held
  held_as None = None
  held_as (Some hold) = kept_as hold hold.kept

module _ {T : Type 0} where
  -- what the client keeps of a handle that it holds
  abbrev pub hold_of : Client T → Handle → Option Hold
  hold_of client handle = if_of client.number handle (get client.handles handle.index)

  -- the client holds this handle
  abbrev pub Holds : Client T → Handle → Type 0
  Holds client handle = IsSome (hold_of client handle)

  -- how many handles it holds
  abbrev pub held_by : Client T → ℕ
  held_by client = client.held

  -- what a handle of the client stands for; nothing where it holds no such handle
  abbrev pub held_of : Cache T → Client T → Handle → Option Held
  held_of cache client handle =
      held_as cache.seed client.seats.items client.alone (hold_of client handle)

  -- what the client knows of the shard of this number
  abbrev pub view_at : (shard : ℕ) → Client T → View (Seeded T)
  view_at shard client = view_in client.seats.items shard

-- What is left of a cache once all its clients are back.
use Rattle.std.specs.Prelude.{◌≡◌, ℕ, ◌+◌, ◌<◌, ◌≤◌, zero, suc, min, true, List, [], ◌∷◌, Option, Some, None, length, map, slice_get, take}
use Rattle.hcc_word.specs.Word.{refs_of}
use Rattle.hcc_core.specs.declared.slot.Stamp.{Stamp}
use Rattle.hcc_core.specs.Sums.{total}
use Rattle.hcc_rule.specs.declared.key.Key.{Key}
use Rattle.hcc_rule.specs.declared.view.Made.{Made}
use Rattle.hcc_rule.specs.declared.view.View.{View}
use Rattle.hcc_rule.specs.Closing.{Closes, IsWithin, has_entry, key_at, list_by, meta_at, over_entries, words_of}
use Rattle.hcc_rule.specs.Passing.{joined_view, spent_view}
use Rattle.hcc_rule.specs.Rule.{list_weighs, taken_weigh}
use Rattle.hcc_shard.specs.declared.entries.ClosedShard.{ClosedShard}
use Rattle.hcc_shard.specs.declared.seat.ShardSeat.{ShardSeat}
use Rattle.hcc_shard.specs.declared.shard.Shard.{Shard}
use Rattle.hcc_shard.specs.Closed.{HoldsNothing}
use Rattle.hcc_shard.specs.Left.{GivesValues}
use Rattle.hcc_cache.specs.declared.cache.Cache.{Cache}
use Rattle.hcc_cache.specs.declared.client.Client.{Client}
use Rattle.hcc_cache.specs.declared.closed.Closed.{Closed}
use Rattle.hcc_cache.specs.declared.errors.CloseError.{CloseError}
use Rattle.hcc_cache.specs.declared.errors.CloseError.TheVariants.{Missing, HandlesOut}
use Rattle.hcc_cache.specs.declared.seeded.Seeded.{Seeded}
use Rattle.hcc_cache.specs.Clients.{held_by, view_at}
use Rattle.hcc_cache.specs.Keys.{fits_seeded, tag_at}
use Rattle.hcc_cache.specs.Known.{Knows}
use Rattle.hcc_cache.specs.Sharding.{shard_of}

-- Of what has a number, of which some have more than none.

module _ {X : Type 0} (many number : X → ℕ) where
  -- none has any
  abbrev pub NoneHas : List X → Type 0
  NoneHas xs = (k : ℕ) (x : X) → slice_get xs k ≡ Some x → many x ≡ 0

  -- the least number of one that has some
  pub record IsLeastOf (xs : List X) (least_is : ℕ) : Type 0 where
    pub index : ℕ
    pub holder : X
    pub there : slice_get xs index ≡ Some holder
    pub holds : 0 < many holder
    pub called : number holder ≡ least_is
    pub least : (k : ℕ) (x : X) → slice_get xs k ≡ Some x → 0 < many x → least_is ≤ number x

-- Of views.

module _ {T : Type 0} where
  -- views that are joined, one after another, to the first
  abbrev pub joined_views : View T → List (View T) → View T
  joined_views v [] = v
  joined_views v (w ∷ ws) = joined_views (joined_view v w) ws

  abbrev pub all_joined : List (View T) → View T
  all_joined [] = spent_view
  all_joined (v ∷ vs) = joined_views v vs

-- Of clients.

module _ {T : Type 0} where
  -- what the clients know of the shard of this number
  abbrev pub views_at : (shard : ℕ) → List (Client T) → List (View (Seeded T))
  views_at shard clients = map (view_at shard) clients

  -- the seats of a client below this one are left
  abbrev pub KeepsFront : (at : ℕ) → (old new : Client T) → Type 0
  KeepsFront at old new = new.seats.items ≡ take at old.seats.items

  -- each client is known, they are enough, and none holds a handle
  pub record AreBack (cache : Cache T) (clients : List (Client T)) : Type 0 where
    pub enough : cache.geometry.clients ≤ length clients
    pub known : (k : ℕ) (client : Client T) → slice_get clients k ≡ Some client
        → Knows cache client
    pub none : (k : ℕ) (client : Client T) → slice_get clients k ≡ Some client
        → held_by client ≡ 0

  -- What was made under this stamp stands in the made list of the client of its number.
  pub record IsMadeBy (clients : List (Client T)) (shard : ℕ) (stamp : Stamp) (made : Made)
      : Type 0 where
    pub index : ℕ
    pub client : Client T
    pub there : slice_get clients index ≡ Some client
    pub number : client.number ≡ stamp.client
    pub listed : slice_get (view_at shard client).made stamp.number ≡ Some made

  -- the least number of a client that holds a handle
  abbrev pub IsLeastHolder : List (Client T) → (number : ℕ) → Type 0
  IsLeastHolder clients number = IsLeastOf held_by (λ c. c.number) clients number

  -- why a cache is not closed
  abbrev pub Refuses : CloseError → Cache T → List (Client T) → Type 0
  Refuses (Missing have want) cache clients =
      (have ≡ length clients) × (want ≡ cache.geometry.clients) × (have < want)
  Refuses (HandlesOut number) cache clients =
      (cache.geometry.clients ≤ length clients) × IsLeastHolder clients number

module _ {T A : Type 0} where
  -- the last seat of a client is one of this shard, and it holds nothing there
  pub record HasLast (shard : Shard (Seeded T) A) (at : ℕ) (client : Client T) : Type 0 where
    pub count : length client.seats.items ≡ at + 1
    pub last : (seat : ShardSeat (Seeded T)) → slice_get client.seats.items at ≡ Some seat
        → HoldsNothing shard seat

-- What a closed cache is, of the clients that were handed in: each of its shards is closed by what
-- all of them know of it, so its words are the sums over its entries, and each entry is a member of
-- a client's made list.
pub record IsClosed {T : Type 0} (fits : T → Key → List ℕ → Type 0) (cache : Cache T)
    (clients : List (Client T)) (closed : Closed) : Type 0 where
  pub seed : closed.seed ≡ cache.seed
  pub count : length closed.shards.items ≡ length cache.shards.items
  pub size : (s : ℕ) (left : ClosedShard _)
      → slice_get closed.shards.items s ≡ Some (Some left)
      → left.table.geometry ≡ cache.geometry
  pub closes : (s : ℕ) (left : ClosedShard _)
      → slice_get closed.shards.items s ≡ Some (Some left)
      → Closes (fits_seeded fits) (tag_at cache s) cache.geometry (words_of left.table)
      (all_joined (views_at s clients))
  -- under strict capacity the charges that are left in a shard are within its part of it; and the
  -- entries are at most 84 of a hundred slots, as `closes` says
  pub within : (s : ℕ) (left : ClosedShard _)
      → slice_get closed.shards.items s ≡ Some (Some left)
      → IsWithin cache.geometry cache.capacity cache.strict (words_of left.table)
  -- nobody holds an entry that is left
  pub unheld : (s slot : ℕ) (left : ClosedShard _)
      → slice_get closed.shards.items s ≡ Some (Some left) → slot < cache.geometry.slots
      → has_entry cache.geometry.room (words_of left.table) slot ≡ true
      → refs_of (meta_at cache.geometry.room (words_of left.table) slot) ≡ 0
  -- the value that is left of an entry is the one that it was made with
  pub values : (s : ℕ) (left : ClosedShard _)
      → slice_get closed.shards.items s ≡ Some (Some left)
      → GivesValues (fits_seeded fits) (tag_at cache s) cache.geometry.room (words_of left.table)
      (all_joined (views_at s clients))
  -- each entry that is left has a key of its shard, whoever made it
  pub homes : (s slot : ℕ) (left : ClosedShard _)
      → slice_get closed.shards.items s ≡ Some (Some left) → slot < cache.geometry.slots
      → has_entry cache.geometry.room (words_of left.table) slot ≡ true
      → shard_of (key_at cache.geometry.room (words_of left.table) slot)
      (length cache.shards.items) ≡ s
  -- there is none but these
  pub full : (s : ℕ) → s < length cache.shards.items
      → (left : ClosedShard _) × (slice_get closed.shards.items s ≡ Some (Some left))
  -- what the joined view names as made is a member of some client's list
  pub members : (s : ℕ) (stamp : Stamp) (made : Made) → s < length cache.shards.items
      → slice_get (list_by (all_joined (views_at s clients)) stamp.client) stamp.number
      ≡ Some made
      → IsMadeBy clients s stamp made
  -- the entries are as many as the clients made, less those that they took
  pub counted : (s : ℕ) (left : ClosedShard _)
      → slice_get closed.shards.items s ≡ Some (Some left)
      → over_entries cache.geometry.room (words_of left.table) cache.geometry.slots (λ slot. 1)
      + total (λ v. v.takings) (views_at s clients)
      ≡ total (λ v. length v.made) (views_at s clients)
  -- and by every weighing of stamps, they and what the clients took weigh what the clients made: so
  -- each entry that was made is left in one slot, or one client took it, once
  pub weighed : (s : ℕ) (left : ClosedShard _)
      (there : slice_get closed.shards.items s ≡ Some (Some left)) (h : Stamp → ℕ)
      → over_entries cache.geometry.room (words_of left.table) cache.geometry.slots
      (λ slot. h ((closes s left there).stamp_at slot))
      + total (λ v. taken_weigh h v.gone) (views_at s clients)
      ≡ total (λ v. list_weighs h v.client 0 v.made) (views_at s clients)

-- the least number of a holder so far, with one more client, which holds so many handles
abbrev pub with_holder : (held number : ℕ) → Option ℕ → Option ℕ
with_holder zero number least = least
with_holder (suc held) number None = Some number
with_holder (suc held) number (Some least) = Some (min least number)

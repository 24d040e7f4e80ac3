-- What a cache took of an image is known to be shown, to each client that begins with it.
use Rattle.std.proofs.Common.{◌≡◌, ◌⊎◌, inl, inr, ◌&&◌, ℕ, zero, suc, ◌+◌, ◌<◌, ◌≤◌, ◌==◌, Bool, true, false, List, [], ◌∷◌, Option, Some, length, replicate, slice_get, sym, refl, ap, ◌∙◌, subst, arith, mod-lt}
use Rattle.std.specs.Prelude.{◌/◌, ◌^◌, IsSomeAnd, option_and_then}
use Rattle.std.proofs.lemmas.Bool.{eq-eqb}
use Rattle.std.proofs.lemmas.List.{length-replicate}
use Rattle.std.specs.declared.alloc.Global.{Global}
use Rattle.hcc_core.specs.declared.slot.Slot.{Slot}
use Rattle.hcc_core.specs.Opening.{new_slot}
use Rattle.hcc_core.specs.Sums.{total, when}
use Rattle.hcc_core.proofs.SumLemmas.{total-member}
use Rattle.hcc_rule.specs.declared.geometry.Geometry.{Geometry}
use Rattle.hcc_rule.specs.declared.image.ImageEntry.{ImageEntry}
use Rattle.hcc_rule.specs.declared.key.Key.{Key}
use Rattle.hcc_rule.specs.declared.view.Done.{Done}
use Rattle.hcc_rule.specs.Acts.{world_of}
use Rattle.hcc_rule.specs.Callers.{slots_of, world_at}
use Rattle.hcc_rule.specs.Images.{resident_of, slots_with}
use Rattle.hcc_rule.specs.Words.{key_of}
use Rattle.hcc_rule.proofs.Basics.Lists.{there}
use Rattle.hcc_rule.proofs.Images.Fillings.{each_get, filled_at, rising_in}
use Rattle.hcc_table.specs.Searched.{is_key}
use Rattle.hcc_table.specs.Standing.{ShowsKey, entry_shown}
use Rattle.hcc_table.proofs.HidesAlone.{key_equal}
use Rattle.hcc_shard.specs.declared.seat.ShardSeat.{ShardSeat}
use Rattle.hcc_shard.specs.declared.shard.Shard.{Shard}
use Rattle.hcc_shard.specs.Callers.{plan_of}
use Rattle.hcc_shard.specs.Ended.{past_of}
use Rattle.hcc_shard.specs.Stays.{BeganWithinLimits}
use Rattle.hcc_cache.specs.declared.cache.Cache.{Cache}
use Rattle.hcc_cache.specs.declared.client.Client.{Client}
use Rattle.hcc_cache.specs.declared.config.Config.{Config}
use Rattle.hcc_cache.specs.declared.seeded.Seeded.{Seeded}
use Rattle.hcc_cache.specs.Calls.{shard_in}
use Rattle.hcc_cache.specs.Images.{Visible, visible_from}
use Rattle.hcc_cache.specs.Keys.{fits_seeded, key_from}
use Rattle.hcc_cache.specs.Known.{Knows}
use Rattle.hcc_cache.specs.Moments.{KnowsShown}
use Rattle.hcc_cache.specs.Reopened.{IsHomeEntry, IsReopened, image_of}
use Rattle.hcc_cache.specs.Sharding.{key_to, shard_of}
use Rattle.hcc_cache.specs.Taken.{begun, home_of, split_of, sum_in}

none_or_some : (n : ℕ) → (n ≡ 0) ⊎ (1 ≤ n)
none_or_some zero = inl refl
none_or_some (suc n) = inr (omega arith)

-- a sum of some has a member that counts
some_counted : {A : Type 0} (f : A → ℕ) (xs : List A) → 1 ≤ total f xs
    → (k : ℕ) × (x : A) × (slice_get xs k ≡ Some x) × (1 ≤ f x)
some_counted f [] some = absurd (omega arith)
some_counted f (x ∷ xs) some = elim (none_or_some (f x)) [
  | inl none ↦
      let rest = some_counted f xs (omega arith) in (suc rest.0, rest.1, rest.2, rest.3)
  | inr counts ↦ (0, x, refl, counts)
]

when_some : (b : Bool) → 1 ≤ when b 1 → b ≡ true
when_some true some = refl
when_some false some = absurd (omega arith)

key_same : (key : Key) → is_key key key ≡ true
key_same key =
    ap (λ b. b && (key.w1 == key.w1)) (eq-eqb key.w0 key.w0 refl) ∙ eq-eqb key.w1 key.w1 refl

-- A shard shows each entry with which it began, in the world after nothing was done.
begun_shows : {T A : Type 0} (shard : Shard T A) (fits : T → Key → List ℕ → Type 0)
    → BeganWithinLimits shard fits → (seat : ShardSeat T) → past_of seat ≡ [] → (k : ℕ)
    → (e : ImageEntry) → slice_get (image_of shard) k ≡ Some e
    → (e.slot < slots_of shard.table) × ShowsKey (world_at shard.table seat.seat) e.key e.slot
begun_shows shard fits began seat nothing k e at = (
  subst (λ (g : Geometry). e.slot < g.slots) shard.table.planned.0
      (rising_in 0 size (image_of shard) k e began.rising at).1,
  subst (λ (history : List Done). ShowsKey (world_of (plan_of shard) history) e.key e.slot)
      (sym nothing)
      (subst (λ (o : Option Slot). IsSomeAnd (option_and_then entry_shown o)
      (λ x. key_of x ≡ e.key)) (sym sits) refl),
)
  where
    size : ℕ
    size = (plan_of shard).geometry.slots

    sits : slice_get (slots_with size (image_of shard)) e.slot ≡ Some (resident_of size (0 + k) e)
    sits =
        filled_at size 0 0 (image_of shard) (replicate size new_slot) k e began.rising
        (length-replicate size new_slot) at

module _ {T : Type 0} (fits : T → Key → List ℕ → Type 0) (config : Config) (tag : T)
    (image : List Visible) (cache : Cache T) (clients : List (Client T))
    (h : IsReopened fits config tag image cache clients) where
  abbrev pub taken : List Visible
  taken = (split_of config image).taken

  module _ (i : ℕ) (e : Visible) (is : slice_get taken i ≡ Some e) where
    -- whether an entry has the key
    abbrev counts : Visible → ℕ
    counts x = when (is_key e.key x.key) 1

    home : home_of config e ≡ shard_in cache e.key
    home =
        ap (λ seed. shard_of (key_to seed e.key) config.shards) (sym h.cache_is.seed)
        ∙ ap (shard_of (key_to cache.seed e.key)) (sym h.cache_is.count)

    -- It is one of those with which its shard began.
    pub taken_there : (shard : Shard (Seeded T) Global)
        → slice_get cache.shards.items (shard_in cache e.key) ≡ Some shard
        → (k : ℕ) × (x : ImageEntry) × (slice_get (image_of shard) k ≡ Some x)
        × (x.key ≡ key_to cache.seed e.key)
    taken_there shard there_is =
        let begins = h.begins (shard_in cache e.key) shard there_is in
        let here : when (home_of config e == shard_in cache e.key) (counts (begun e)) ≡ 1 =
        ap (λ b. when b (counts (begun e)))
        (eq-eqb (home_of config e) (shard_in cache e.key) home)
        ∙ ap (λ b. when b 1) (key_same e.key) in
        let one : 1
        ≤ sum_in config (shard_in cache e.key) (λ (x : Visible). counts (begun x)) taken =
        subst (λ n. n ≤ sum_in config (shard_in cache e.key)
        (λ (x : Visible). counts (begun x)) taken) here
        (total-member
        (λ (x : Visible). when (home_of config x == shard_in cache e.key) (counts (begun x)))
        taken i e is) in
        let found = some_counted (λ (x : ImageEntry). counts (visible_from config.seed x))
        (image_of shard) (subst (λ n. 1 ≤ n) (sym (begins.counts counts)) one) in
        let asked : key_from config.seed found.1.key ≡ e.key =
        key_equal e.key (key_from config.seed found.1.key)
        (when_some (is_key e.key (key_from config.seed found.1.key)) found.3) in
        let back = each_get (λ (x : ImageEntry). IsHomeEntry config.seed config.shards
        (shard_in cache e.key) x) (image_of shard) found.0 found.1 begins.home found.2 in (
          found.0,
          found.1,
          found.2,
          sym back.0 ∙ ap (key_to config.seed) asked
              ∙ ap (λ seed. key_to seed e.key) (sym h.cache_is.seed),
        )

    pub taken_shown : (n : ℕ) (client : Client T) → slice_get clients n ≡ Some client
        → KnowsShown cache e.key client
    taken_shown n client at = record {
      shard = shard.0;
      seat = seat.0;
      shard_is = shard.1;
      seat_is = seat.1;
      slot = entry.1.slot;
      within =
          subst (λ s. entry.1.slot < s)
          (ap (λ (x : Geometry). x.slots)
          (knows.alike.plans (shard_in cache e.key) shard.0 shard.1).0) shows.0;
      shows =
          subst (λ k. ShowsKey (world_at shard.0.table seat.0.seat) k entry.1.slot) entry.3
          shows.1;
    }
      where
        knows : Knows cache client
        knows = h.known n client at

        low : shard_in cache e.key < length cache.shards.items
        low = mod-lt ((key_to cache.seed e.key).w0 / 2 ^ 32) some
          where
            some : 0 < length cache.shards.items
            some = let one = knows.alike.some in omega arith

        shard : (shard : Shard (Seeded T) Global)
            × (slice_get cache.shards.items (shard_in cache e.key) ≡ Some shard)
        shard = there cache.shards.items (shard_in cache e.key) low

        seat : (seat : ShardSeat (Seeded T))
            × (slice_get client.seats.items (shard_in cache e.key) ≡ Some seat)
        seat = there client.seats.items (shard_in cache e.key)
            (subst (λ m. shard_in cache e.key < m) (sym knows.seated.count) low)

        entry : (k : ℕ) × (x : ImageEntry) × (slice_get (image_of shard.0) k ≡ Some x)
            × (x.key ≡ key_to cache.seed e.key)
        entry = taken_there shard.0 shard.1

        shows : (entry.1.slot < slots_of shard.0.table)
            × ShowsKey (world_at shard.0.table seat.0.seat) entry.1.key entry.1.slot
        shows =
            begun_shows shard.0 (fits_seeded fits)
            (h.began (shard_in cache e.key) shard.0 shard.1) seat.0
            (h.past n client at (shard_in cache e.key) seat.0 seat.1) entry.0 entry.1 entry.2

-- Which keys are shown by the worlds that a client knows, as it is told, and what leaves that so.
use Rattle.std.proofs.Common.{◌≡◌, inl, inr, ℕ, ◌&&◌, ◌<◌, ◌≤◌, Bool, true, false, List, Option, Some, None, length, sym, refl, ap, ◌∙◌, subst, arith}
use Rattle.std.specs.Prelude.{IsSomeAnd, slice_get}
use Rattle.std.proofs.lemmas.Bool.{cases_eq}
use Rattle.std.proofs.lemmas.Option.{same_Some}
use Rattle.std.specs.declared.alloc.Global.{Global}
use Rattle.hcc_core.specs.Runs.{held_at}
use Rattle.hcc_rule.specs.declared.geometry.Geometry.{Geometry}
use Rattle.hcc_rule.specs.declared.key.Key.{Key}
use Rattle.hcc_rule.specs.Callers.{clients_of, slots_of, world_at}
use Rattle.hcc_rule.specs.Probes.{probe_slot}
use Rattle.hcc_rule.specs.Records.{record_in}
use Rattle.hcc_rule.specs.Seats.{view}
use Rattle.hcc_rule.specs.Words.{key_of}
use Rattle.hcc_rule.proofs.Basics.Lists.{there}
use Rattle.hcc_rule.proofs.Probes.ProbeLaws.{probe_inside, some_slots}
use Rattle.hcc_table.specs.Standing.{ShowsKey, shown_at}
use Rattle.hcc_table.proofs.HidesAlone.{nothing_shown}
use Rattle.hcc_table.proofs.Releases.{still_shows}
use Rattle.hcc_shard.specs.declared.seat.ShardSeat.{ShardSeat}
use Rattle.hcc_shard.specs.declared.shard.Shard.{Shard}
use Rattle.hcc_cache.specs.declared.cache.Cache.{Cache}
use Rattle.hcc_cache.specs.declared.client.Client.{Client}
use Rattle.hcc_cache.specs.declared.config.Config.{Config}
use Rattle.hcc_cache.specs.declared.handle.Handle.{Handle}
use Rattle.hcc_cache.specs.declared.holding.Hold.{Hold}
use Rattle.hcc_cache.specs.declared.holding.Kept.{Kept}
use Rattle.hcc_cache.specs.declared.holding.Kept.TheVariants.{Pinned as AtSlot, Standing}
use Rattle.hcc_cache.specs.declared.seeded.Seeded.{Seeded}
use Rattle.hcc_cache.specs.Calls.{AtShard, OnlyAt, shard_in}
use Rattle.hcc_cache.specs.Clients.{Held, held_as, held_entry, held_of, hold_of, view_by}
use Rattle.hcc_cache.specs.Known.{IsKeptAs, IsPin, Knows}
use Rattle.hcc_cache.specs.Keys.{key_from}
use Rattle.hcc_cache.specs.Moments.{KnowsShown}
use Rattle.hcc_cache.specs.Opened.{IsCacheOf, KnowsNoneShown}
use Rattle.hcc_cache.specs.Sharding.{key_to}
use Rattle.hcc_cache.specs.Stays.{ReleasesPin, Stays}
use Rattle.hcc_cache.proofs.Searches.ReadByHandle.{key_back}
use Rattle.hcc_player.specs.RunAlone.{HidesAll, InWorld, ShowsFirst}
use Rattle.hcc_player.specs.RunCalls.{IsOfWords, GivesBack}
use Rattle.hcc_player.specs.RunTold.{Keys, with_freed, with_told}
use Rattle.hcc_player.proofs.StandingNames.{hold_there, stands_pinned}
use Rattle.hcc_player.proofs.ToldWorlds.{ShowsSome, by_hides, by_less, by_same, held_shown, key_by}
use Rattle.hcc_player.proofs.ToldWorlds.{release_less, release_others, same_key, shown_some, shows_by}
use Rattle.hcc_player.proofs.ToldWorlds.{shows_too, told_cases, told_freed}

module _ {T : Type 0} (cache : Cache T) where
  -- the world that a client knows of a key's shard shows it, or doesn't
  abbrev pub Shows : Key → Bool → Client T → Type 0
  Shows key b client = InWorld cache key (shows_by b) client

  -- so it is of each key of which that is told
  abbrev pub Tells : Keys → Client T → Type 0
  Tells keys client =
      (key : Key) (b : Bool) → IsOfWords key → keys key ≡ Some b → Shows key b client

  -- and of each but this one
  abbrev pub TellsBut : Key → Keys → Client T → Type 0
  TellsBut key keys client =
      (other : Key) (b : Bool) → IsOfWords other → ¬ (key ≡ other) → keys other ≡ Some b
      → Shows other b client

module _ {T : Type 0} (config : Config) (tag : T) (cache : Cache T)
    (is_of : IsCacheOf config tag cache) (one : config.clients ≡ 1) where
  alone : (s : ℕ) (shard : Shard (Seeded T) Global) → slice_get cache.shards.items s ≡ Some shard
      → clients_of shard.table ≡ 1
  alone s shard at = ap (λ (g : Geometry). g.clients) (is_of.shards s shard at).geometry ∙ one

  pub slots_same : (s : ℕ) (shard : Shard (Seeded T) Global)
      → slice_get cache.shards.items s ≡ Some shard
      → slots_of shard.table ≡ cache.geometry.slots
  slots_same s shard at =
      ap (λ (g : Geometry). g.slots) (is_of.shards s shard at).geometry
      ∙ sym (ap (λ (g : Geometry). g.slots) is_of.geometry)

  -- A key is shown or not.
  pub not_both : (key : Key) (client : Client T) → Shows cache key true client
      → Shows cache key false client → ⊥
  not_both key client h g =
      let shard : h.shard ≡ g.shard = same_Some _ _ (sym h.shard_is ∙ g.shard_is) in
      let seat : h.seat ≡ g.seat = same_Some _ _ (sym h.seat_is ∙ g.seat_is) in
      let some : ShowsSome cache.geometry.slots (key_to cache.seed key)
      (world_at g.shard.table g.seat.seat) =
      subst (λ (z : Shard (Seeded T) Global). ShowsSome cache.geometry.slots
      (key_to cache.seed key) (world_at z.table g.seat.seat)) shard
      (subst (λ (q : ShardSeat (Seeded T)). ShowsSome cache.geometry.slots
      (key_to cache.seed key) (world_at h.shard.table q.seat)) seat h.holds) in
      g.holds some.0 some.1 some.2

  -- A key that look-ups find first is shown.
  pub first_some : (key : Key) (client : Client T) → InWorld cache key ShowsFirst client
      → Shows cache key true client
  first_some key client h = record {
    shard = h.shard;
    seat = h.seat;
    shard_is = h.shard_is;
    seat_is = h.seat_is;
    holds = (
      probe_slot cache.geometry.slots (key_to cache.seed key) h.holds.0,
      probe_inside cache.geometry.slots (key_to cache.seed key) h.holds.0
          (subst (λ n. 0 < n) (slots_same _ h.shard h.shard_is)
          (some_slots (slots_of h.shard.table) h.shard.table.limits.power)),
      h.holds.1,
    );
  }

  pub known_some : (key : Key) (client : Client T) → KnowsShown cache key client
      → Shows cache key true client
  known_some key client h = record {
    shard = h.shard;
    seat = h.seat;
    shard_is = h.shard_is;
    seat_is = h.seat_is;
    holds = (h.slot, h.within, h.shows);
  }

  -- A new cache shows no key.
  pub none_there : (key : Key) (client : Client T) → Knows cache client
      → KnowsNoneShown cache client → Shows cache key false client
  none_there key client known none =
      let some = known.alike.some in
      let count = known.seated.count in
      let low : shard_in cache key < length cache.shards.items = omega arith in
      let shard = there cache.shards.items (shard_in cache key) low in
      let seat = there client.seats.items (shard_in cache key) (omega arith) in
      record {
        shard = shard.0;
        seat = seat.0;
        shard_is = shard.1;
        seat_is = seat.1;
        holds = λ slot less shows.
            subst (λ o. IsSomeAnd o (λ e. key_of e ≡ key_to cache.seed key))
            (none (shard_in cache key) shard.0 seat.0 shard.1 seat.1 slot) shows;
      }

  -- What a call that changes nothing of what is shown leaves.
  pub shows_stays : (key : Key) (b : Bool) (old new : Client T) → Stays cache old new
      → Shows cache key b old → Shows cache key b new
  shows_stays key b old new stays w =
      let at = stays.each (shard_in cache key) w.shard w.seat w.shard_is w.seat_is in
      record {
        shard = w.shard;
        seat = at.0;
        shard_is = w.shard_is;
        seat_is = at.1;
        holds =
            by_same b cache.geometry.slots (key_to cache.seed key)
            (world_at w.shard.table w.seat.seat) (world_at w.shard.table at.0.seat)
            (λ s less. still_shows w.shard.table (alone _ w.shard w.shard_is) w.seat.seat at.0.seat
            at.2 s) w.holds;
      }

  pub tells_stays : (keys : Keys) (old new : Client T) → Stays cache old new → Tells cache keys old
      → Tells cache keys new
  tells_stays keys old new stays tells key b words is =
      shows_stays key b old new stays (tells key b words is)

  pub tells_same : (keys : Keys) (old new : Client T) → new ≡ old → Tells cache keys old
      → Tells cache keys new
  tells_same keys old new same tells = subst (Tells cache keys) (sym same) tells

  -- What one that changes it at one shard leaves.
  pub shows_at : (Did : Shard (Seeded T) Global → (old new : ShardSeat (Seeded T)) → Type 0)
      (number : ℕ) (key : Key) (b : Bool) (old new : Client T)
      (h : AtShard cache Did number old new) → OnlyAt number old new
      → (shows_by b cache.geometry.slots (key_to cache.seed key)
      (world_at h.shard.table h.was.seat)
      → shows_by b cache.geometry.slots (key_to cache.seed key)
      (world_at h.shard.table h.is.seat))
      → Shows cache key b old → Shows cache key b new
  shows_at Did number key b old new h only goes w = elim (cases_eq (shard_in cache key) number) [
    | inl here ↦
        let shard : w.shard ≡ h.shard =
        same_Some _ _ (sym w.shard_is ∙ ap (slice_get cache.shards.items) here ∙ h.shard_is) in
        let seat : w.seat ≡ h.was =
        same_Some _ _ (sym w.seat_is ∙ ap (slice_get old.seats.items) here ∙ h.seat_was) in
        record {
          shard = h.shard;
          seat = h.is;
          shard_is = ap (slice_get cache.shards.items) here ∙ h.shard_is;
          seat_is = ap (slice_get new.seats.items) here ∙ h.seat_is;
          holds = goes
              (subst (λ (z : Shard (Seeded T) Global). shows_by b cache.geometry.slots
              (key_to cache.seed key) (world_at z.table h.was.seat)) shard
              (subst (λ (q : ShardSeat (Seeded T)). shows_by b cache.geometry.slots
              (key_to cache.seed key) (world_at w.shard.table q.seat)) seat w.holds));
        }
    | inr other ↦ record {
      shard = w.shard;
      seat = w.seat;
      shard_is = w.shard_is;
      seat_is = only (shard_in cache key) other ∙ w.seat_is;
      holds = w.holds;
    }
  ]

  -- one key is told anew
  pub tells_with : (key : Key) (is : Bool) (keys : Keys) (client : Client T)
      → TellsBut cache key keys client → Shows cache key is client → Tells cache (with_told key is
      keys) client
  tells_with key is keys client but here other b words h = elim (told_cases key other is b keys h) [
    | inl same ↦
        subst (λ k. Shows cache k b client) same.0 (subst (λ z. Shows cache key z client) same.1
        here)
    | inr apart ↦ but other b words apart.0 apart.1
  ]

  pub tells_more : (key : Key) (is : Bool) (keys : Keys) (client : Client T)
      → Tells cache keys client → Shows cache key is client → Tells cache (with_told key is keys)
      client
  tells_more key is keys client tells =
      tells_with key is keys client (λ other b words apart h. tells other b words h)

  -- What is the same at one shard.
  pub tells_over : (Did : Shard (Seeded T) Global → (old new : ShardSeat (Seeded T)) → Type 0)
      (number : ℕ) (keys : Keys) (old new : Client T) (h : AtShard cache Did number old new)
      → OnlyAt number old new
      → ((s : ℕ) → shown_at (world_at h.shard.table h.is.seat) s
      ≡ shown_at (world_at h.shard.table h.was.seat) s)
      → Tells cache keys old → Tells cache keys new
  tells_over Did number keys old new h only same tells key b words is =
      shows_at Did number key b old new h only
      (by_same b cache.geometry.slots (key_to cache.seed key) (world_at h.shard.table h.was.seat)
      (world_at h.shard.table h.is.seat) (λ s less. same s)) (tells key b words is)

  -- A release that freed an entry: of a key that its handle is on, or one that stands alone.
  module _ (fits : T → Key → List ℕ → Type 0) (keys : Keys) (useful erase : Bool)
      (was now : Option Handle) (old new : Client T)
      (did : GivesBack fits cache useful erase true was now old new) (held : Option Key)
      (known : Knows cache old) (is : (stands : Held) → held_of cache old did.handle ≡ Some stands
      → held ≡ key_by stands) (tells : Tells cache keys old) where
    -- the slot of its reference showed no other key
    other_slot : (hold : Hold) (slot : ℕ) (counting : Bool)
        → hold_of old did.handle ≡ Some hold → hold.kept ≡ AtSlot slot counting
        → (pin : ReleasesPin cache hold slot true (useful && counting) erase true old new)
        → (other : Key) → IsOfWords other → ¬ (held ≡ Some other)
        → ¬ ShowsKey (world_at pin.0.shard.table pin.0.was.seat) (key_to cache.seed other) slot
    other_slot hold slot counting here kept pin other words apart shows =
        let at = known.holds.each did.handle.index hold (hold_there old.number did.handle _ hold
        here) in
        let stands : IsPin cache.seed old.seats.items old.alone hold slot counting =
        subst (IsKeptAs cache.seed old.seats.items old.alone hold) kept at.0.stands in
        let entry = stands.handled.entry in
        let there : record_in hold.serial (view pin.0.was.seat).records ≡ Some stands.handled =
        subst (λ o. record_in hold.serial (view_by o).records ≡ Some stands.handled)
        pin.0.seat_was stands.there in
        let stood = pin.0.did.releases.gives.2.0.stood (alone _ pin.0.shard pin.0.shard_is)
        hold.serial stands.handled there in
        let on : held_at (world_at pin.0.shard.table pin.0.was.seat)
        (view pin.0.was.seat).client hold.serial slot ≡ Some entry =
        subst (λ n. held_at (world_at pin.0.shard.table pin.0.was.seat)
        (view pin.0.was.seat).client hold.serial n ≡ Some entry) stands.of.0 stood in
        let key : key_of entry ≡ key_to cache.seed other =
        held_shown (view pin.0.was.seat).client hold.serial (key_to cache.seed other) entry
        (slice_get (world_at pin.0.shard.table pin.0.was.seat).slots slot) on shows in
        let told = is (held_entry cache.seed entry)
        (stands_pinned cache old did.handle hold slot counting stands.handled here kept
        stands.there) in
        apart (told ∙ ap Some (ap (key_from cache.seed) key
        ∙ key_back cache.seed other words.0 words.1))

    freed_at : (hold : Hold) → hold_of old did.handle ≡ Some hold → (kept : Kept)
        → hold.kept ≡ kept → (b : Bool) (other : Key) → IsOfWords other
        → (b ≡ true → ¬ (held ≡ Some other)) → Shows cache other b old → Shows cache other b new
    freed_at hold here (AtSlot slot counting) kept false other words apart w =
        let pin = did.by hold slot counting here kept in
        shows_at _ hold.shard other false old new pin.0 pin.1
        (by_less cache.geometry.slots (key_to cache.seed other)
        (world_at pin.0.shard.table pin.0.was.seat) (world_at pin.0.shard.table pin.0.is.seat)
        (release_less pin.0.shard slot hold.serial _ erase true pin.0.was pin.0.is pin.0.did
        (alone _ pin.0.shard pin.0.shard_is))) w
    freed_at hold here (AtSlot slot counting) kept true other words apart w =
        let pin = did.by hold slot counting here kept in
        shows_at _ hold.shard other true old new pin.0 pin.1
        (λ some.
        let off = λ (same : some.0 ≡ slot).
        other_slot hold slot counting here kept pin other words (apart refl)
        (subst (ShowsKey (world_at pin.0.shard.table pin.0.was.seat) (key_to cache.seed other))
        same some.2) in (
          some.0,
          some.1,
          shows_too (key_to cache.seed other) some.0
              (world_at pin.0.shard.table pin.0.was.seat)
              (world_at pin.0.shard.table pin.0.is.seat)
              (release_others pin.0.shard slot hold.serial _ erase true pin.0.was pin.0.is
              pin.0.did (alone _ pin.0.shard pin.0.shard_is) some.0 off) some.2,
        )) w
    freed_at hold here (Standing index) kept b other words apart w =
        shows_stays other b old new (did.standing hold index here kept) w

    pub freed_tells : Tells cache (with_freed held keys) new
    freed_tells other b words h =
        let told = told_freed held other b keys h in
        by (hold_of old did.handle) refl (tells other b words told.0) told.1
      where
        by : (o : Option Hold) → hold_of old did.handle ≡ o → Shows cache other b old
            → (b ≡ true → ¬ (held ≡ Some other)) → Shows cache other b new
        by None here w apart =
            let none = subst (λ o. held_as cache.seed old.seats.items old.alone o
            ≡ Some did.releases.held) here did.releases.was in
            cc
        by (Some hold) here w apart = freed_at hold here hold.kept refl b other words apart w

  -- An erasure.
  pub erased_tells : (keys : Keys) (key : Key) (count : ℕ) (old new : Client T) → IsOfWords key
      → OnlyAt (shard_in cache key) old new → HidesAll cache key count old new
      → Tells cache keys old → Tells cache (with_told key false keys) new
  erased_tells keys key count old new words only h tells =
      tells_with key false keys new (λ other b theirs apart is.
      shows_at _ (shard_in cache key) other b old new h only
      (by_hides b cache.geometry.slots count (key_to cache.seed key) (key_to cache.seed other)
      (world_at h.shard.table h.was.seat) (world_at h.shard.table h.is.seat) h.did
      (λ e. apart (same_key cache.seed key other words theirs e)))
      (tells other b theirs is)) (record {
        shard = h.shard;
        seat = h.is;
        shard_is = h.shard_is;
        seat_is = h.seat_is;
        holds = h.did.none;
      })

  -- what a call found of its key when it began
  pub found_of : (Did : Shard (Seeded T) Global → (old new : ShardSeat (Seeded T)) → Type 0)
      (b : Bool) (key : Key) (old new : Client T)
      (h : AtShard cache Did (shard_in cache key) old new) → Shows cache key b old
      → shows_by b cache.geometry.slots (key_to cache.seed key)
      (world_at h.shard.table h.was.seat)
  found_of Did b key old new h w =
      let shard : w.shard ≡ h.shard = same_Some _ _ (sym w.shard_is ∙ h.shard_is) in
      let seat : w.seat ≡ h.was = same_Some _ _ (sym w.seat_is ∙ h.seat_was) in
      subst (λ (z : Shard (Seeded T) Global). shows_by b cache.geometry.slots
      (key_to cache.seed key) (world_at z.table h.was.seat)) shard
      (subst (λ (q : ShardSeat (Seeded T)). shows_by b cache.geometry.slots
      (key_to cache.seed key) (world_at w.shard.table q.seat)) seat w.holds)

  -- an erasure of a key that is there hides some, and of one that isn't none
  pub some_erased : (key : Key) (count : ℕ) (old new : Client T) → HidesAll cache key count old new
      → Shows cache key true old → 1 ≤ count
  some_erased key count old new h w =
      let some = found_of _ true key old new h w in
      let counted = shown_some cache.geometry.slots (key_to cache.seed key)
      (world_at h.shard.table h.was.seat) some.0 some.1 some.2 in
      let all = h.did.all in
      omega arith

  pub none_erased : (key : Key) (count : ℕ) (old new : Client T) → HidesAll cache key count old new
      → Shows cache key false old → count ≡ 0
  none_erased key count old new h w =
      h.did.all
      ∙ nothing_shown (key_to cache.seed key) cache.geometry.slots
      (world_at h.shard.table h.was.seat) (found_of _ false key old new h w)

-- The clients of a cache that begins with entries, as each is dealt a seat at each shard.
use Rattle.std.proofs.Common.{◌≡◌, inl, inr, ℕ, zero, suc, ◌+◌, ◌-◌, ◌≤◌, max, min, List, [], ◌∷◌, ◌++◌, Some, length, slice_get, slice_set, sym, refl, ap, ◌∙◌, length-append, arith}
use Rattle.std.proofs.lemmas.Bool.{cases_eq}
use Rattle.std.proofs.lemmas.Option.{same_Some}
use Rattle.std.specs.declared.alloc.Global.{Global}
use Rattle.hcc_core.specs.declared.limits.TheConstants.{MOST_SLOTS, STAMPS_PER_CLIENT}
use Rattle.hcc_core.specs.Sums.{total}
use Rattle.hcc_core.proofs.ListLemmas.{read_here, read_other}
use Rattle.hcc_rule.specs.declared.image.ImageEntry.{ImageEntry}
use Rattle.hcc_rule.specs.declared.view.Other.{Other}
use Rattle.hcc_rule.specs.declared.view.View.{View}
use Rattle.hcc_rule.specs.Images.{made_from}
use Rattle.hcc_rule.specs.Rule.{IsAbove}
use Rattle.hcc_rule.specs.Views.{Each}
use Rattle.hcc_rule.proofs.Basics.Lists.{there, within}
use Rattle.hcc_rule.proofs.Images.Fillings.{made_length}
use Rattle.hcc_shard.specs.declared.seat.ShardSeat.{ShardSeat}
use Rattle.hcc_shard.specs.declared.shard.Shard.{Shard}
use Rattle.hcc_shard.specs.Callers.{view_of}
use Rattle.hcc_shard.specs.Seated.{AreBegun, IsBegun}
use Rattle.hcc_shard.proofs.Names.{above_made}
use Rattle.hcc_cache.specs.declared.cache.Cache.{Cache}
use Rattle.hcc_cache.specs.declared.client.Client.{Client}
use Rattle.hcc_cache.specs.declared.config.Config.{Config}
use Rattle.hcc_cache.specs.declared.seeded.Seeded.{Seeded}
use Rattle.hcc_cache.specs.Configs.{IsAllowed}
use Rattle.hcc_cache.specs.Known.{AreAlike, AreHeld, IsHome, IsSeated, Knows, records_at, standalones_at}
use Rattle.hcc_cache.specs.Opened.{AreGiven, AreUnseated, Gains, IsUnused}
use Rattle.hcc_cache.specs.Reopened.{IsHomeEntry, IsStarted, Starts, image_of, most_in, serials_of, share_of}
use Rattle.hcc_cache.proofs.Beginnings.NewClientsDealt.{get_push, new_at, nothing_kept, total_of_zeros, unused_still}

-- a client's share is its own
share_own : (k : ℕ) (es : List ImageEntry) → (share_of k es).client ≡ k
share_own zero es = refl
share_own (suc k) es = refl

-- Where each entry with which a shard begins has a key of it, so has what client 0 made,
from_home : (seed shards number serial : ℕ) (es : List ImageEntry)
    → Each (IsHomeEntry seed shards number) es
    → Each (IsHome seed shards number) (made_from serial es)
from_home seed shards number serial [] all = tt
from_home seed shards number serial (e ∷ es) all =
    (all.0, from_home seed shards number (serial + 1) es all.1)

-- and each client's share.
share_home : (seed shards number k : ℕ) (es : List ImageEntry)
    → Each (IsHomeEntry seed shards number) es
    → Each (IsHome seed shards number) (share_of k es).made
share_home seed shards number zero es all = from_home seed shards number 0 es all
share_home seed shards number (suc k) es all = tt

-- As many serials as there are entries in a client's share are above those of all in it.
share_above : (k used : ℕ) (es : List ImageEntry) → length (share_of k es).made ≤ used
    → IsAbove used (share_of k es).made
share_above zero used es few =
    let long = made_length 0 es in
    above_made 0 used es (omega arith)
share_above (suc k) used es few = tt

module _ {T A : Type 0} where
  -- Each of the seats of a shard that begins with entries is that of its client.
  pub begun_at : (shard : Shard T A) (es : List ImageEntry) (seats : List (ShardSeat T)) (k : ℕ)
      (seat : ShardSeat T) → AreBegun shard es seats → slice_get seats k ≡ Some seat
      → IsBegun shard (share_of k es) seat
  begun_at shard es [] k seat all h = cc
  begun_at shard es (s ∷ seats) zero seat all h =
      let same : s ≡ seat = cc in
      rw (← same) all.0
  begun_at shard es (s ∷ seats) (suc k) seat all h =
      let number : 1 + k ≡ suc k = omega arith in
      rw number at (new_at shard 1 seats k seat all.1 h)

  -- Nothing is held in such a seat,
  pub begun_records : (shard : Shard T A) (o : Other) (seat : ShardSeat T) → IsBegun shard o seat
      → (view_of seat).records ≡ []
  begun_records shard o seat begun = ap (λ (v : View T). v.records) begun.fresh

  -- and nothing stands alone.
  pub begun_standalones : (shard : Shard T A) (o : Other) (seat : ShardSeat T)
      → IsBegun shard o seat → (view_of seat).work.standalones ≡ []
  begun_standalones shard o seat begun = ap (λ (v : View T). v.work.standalones) begun.fresh

  -- It is known as its client's, where that used as many serials as it made entries, and all of
  -- theirs.
  pub begun_seated : (shard : Shard T A) (k used : ℕ) (o : Other) (seat : ShardSeat T)
      → IsBegun shard o seat → o.client ≡ k → length o.made ≤ used → IsAbove used o.made
      → IsSeated shard k used seat
  begun_seated shard k used o seat begun own few above = record {
    rests = begun.rests;
    number_is = begun.number ∙ own;
    single = ap (λ (v : View T). v.others) begun.fresh;
    records = rw (begun_records shard o seat begun) tt;
    standalones = rw (begun_standalones shard o seat begun) tt;
    made =
        let made : length (view_of seat).made ≡ length o.made =
        ap (λ (v : View T). length v.made) begun.fresh in
        omega arith;
    above = rw (ap (λ (v : View T). v.made) begun.fresh) above;
    charged = record {
      records = rw (begun_records shard o seat begun) tt;
      standalones = rw (begun_standalones shard o seat begun) tt;
    };
  }

module _ {T A : Type 0} where
  -- A client that got a seat at each of these shards, with its share of their entries.
  pub record IsSharing (config : Config) (shards : List (Shard (Seeded T) A)) (number : ℕ)
      (client : Client T) : Type 0 where
    pub unused : IsUnused config number client
    pub count : length client.seats.items ≡ length shards
    pub seats : (s : ℕ) (shard : Shard (Seeded T) A) (seat : ShardSeat (Seeded T))
        → slice_get shards s ≡ Some shard → slice_get client.seats.items s ≡ Some seat
        → IsBegun shard (share_of number (image_of shard)) seat

  pub record AreSharing (config : Config) (shards : List (Shard (Seeded T) A))
      (clients : List (Client T)) : Type 0 where
    pub count : length clients ≡ config.clients
    pub each : (k : ℕ) (client : Client T) → slice_get clients k ≡ Some client
        → IsSharing config shards k client

  -- at first there is no shard
  pub sharing_none : (config : Config) (clients : List (Client T)) → AreUnseated config clients
      → AreSharing config [] clients
  sharing_none config clients all = record {
    count = all.count;
    each = λ k client h. record {
      unused = (all.each k client h).0;
      count = ap length (all.each k client h).1;
      seats = λ s shard seat hd hs. cc;
    };
  }

  -- one shard more
  shares_more : (config : Config) (shards : List (Shard (Seeded T) A)) (k : ℕ)
      (was client : Client T) (shard : Shard (Seeded T) A) (seat : ShardSeat (Seeded T))
      → IsSharing config shards k was → Gains was seat client
      → IsBegun shard (share_of k (image_of shard)) seat
      → IsSharing config (shards ++ shard ∷ []) k client
  shares_more config shards k was client shard seat sharing gains begun = record {
    unused = unused_still config k was client seat sharing.unused gains;
    count =
        let more = ap length gains.gained ∙ length-append was.seats.items (seat ∷ []) in
        let shards_more = length-append shards (shard ∷ []) in
        let count = sharing.count in
        omega arith;
    seats = λ s d t hd ht.
        let seated : slice_get (was.seats.items ++ seat ∷ []) s ≡ Some t =
        ap (λ xs. slice_get xs s) (sym gains.gained) ∙ ht in
        let count = sharing.count in
        elim (get_push shards shard d s hd) [
          | inl stood ↦
              let inside = within shards s d stood in
              elim (get_push was.seats.items seat t s seated) [
                | inl sat ↦ sharing.seats s d t stood sat
                | inr last ↦ let e = last.0 in absurd (omega arith)
              ]
          | inr last ↦
              let e = last.0 in
              elim (get_push was.seats.items seat t s seated) [
                | inl sat ↦
                    let inside = within was.seats.items s t sat in
                    absurd (omega arith)
                | inr sat ↦ rw (← last.1, ← sat.1) begun
              ]
        ];
  }

  pub sharing_more : (config : Config) (shards : List (Shard (Seeded T) A))
      (old now : List (Client T)) (shard : Shard (Seeded T) A)
      (seats : List (ShardSeat (Seeded T)))
      → AreSharing config shards old → AreGiven 0 old seats now
      → AreBegun shard (image_of shard) seats → AreSharing config (shards ++ shard ∷ []) now
  sharing_more config shards old now shard seats all given begun = record {
    count = given.count ∙ all.count;
    each = λ k client h.
        let g = given.given k client (omega arith) h in
        let one = begun_at shard (image_of shard) seats k g.1 begun g.3 in
        shares_more config shards k g.0 client shard g.1 (all.each k g.0 g.2) g.4 one;
  }

  -- No shard begins with more than the most.
  most_covers : (shards : List (Shard (Seeded T) A)) (s : ℕ) (shard : Shard (Seeded T) A)
      → slice_get shards s ≡ Some shard → length (image_of shard) ≤ most_in shards
  most_covers [] s shard h = cc
  most_covers (d ∷ shards) zero shard h =
      let same : d ≡ shard = cc in
      let long = ap (λ (x : Shard (Seeded T) A). length (image_of x)) same in
      omega arith
  most_covers (d ∷ shards) (suc s) shard h =
      let rest = most_covers shards s shard h in
      omega arith

  -- One shard more may begin with more.
  pub most_more : (shards : List (Shard (Seeded T) A)) (shard : Shard (Seeded T) A)
      → most_in (shards ++ shard ∷ []) ≡ max (most_in shards) (length (image_of shard))
  most_more [] shard = omega arith
  most_more (d ∷ shards) shard = let rest = most_more shards shard in omega arith

  -- A client used as many serials as it made entries anywhere.
  share_listed : (shards : List (Shard (Seeded T) A)) (k s : ℕ) (shard : Shard (Seeded T) A)
      → slice_get shards s ≡ Some shard
      → length (share_of k (image_of shard)).made ≤ serials_of k shards
  share_listed shards zero s shard h =
      let long = made_length 0 (image_of shard) in
      let most = most_covers shards s shard h in
      omega arith
  share_listed shards (suc k) s shard h = omega arith

  serials_low : (shards : List (Shard (Seeded T) A)) (k : ℕ) → serials_of k shards ≤ most_in shards
  serials_low shards zero = omega arith
  serials_low shards (suc k) = omega arith

module _ {T : Type 0} (config : Config) (cache : Cache T) (k : ℕ) (client : Client T)
    (is : IsStarted config cache.shards.items k client) where
  -- Each seat of such a client is one of some shard.
  seat_of : (s : ℕ) (seat : ShardSeat (Seeded T)) → slice_get client.seats.items s ≡ Some seat
      → (shard : Shard (Seeded T) Global) × (slice_get cache.shards.items s ≡ Some shard)
      × IsBegun shard (share_of k (image_of shard)) seat
  seat_of s seat at =
      let inside = within client.seats.items s seat at in
      let count = is.count in
      let found = there cache.shards.items s (omega arith) in
      (found.0, found.1, is.seats s found.0 seat found.1 at)

  -- It holds nothing.
  begun_holds : AreHeld cache.seed client.used client.seats.items client.handles client.alone
  begun_holds =
      let handles = is.handles in
      let alone = is.alone in
      let no_records : total records_at client.seats.items ≡ 0 =
      total_of_zeros records_at client.seats.items (λ s seat at.
      let one = seat_of s seat at in
      ap length (begun_records one.0 (share_of k (image_of one.0)) seat one.2)) in
      let no_standalones : total standalones_at client.seats.items ≡ 0 =
      total_of_zeros standalones_at client.seats.items (λ s seat at.
      let one = seat_of s seat at in
      ap length (begun_standalones one.0 (share_of k (image_of one.0)) seat one.2)) in
      record {
        each = λ index hold h. absurd (nothing_kept client.handles index hold handles h);
        apart = λ p q h j hp hq e. absurd (nothing_kept client.handles p h handles hp);
        pins = no_records ∙ rw handles refl;
        entries = no_standalones ∙ rw alone refl;
        names_apart = λ p q a b hp hq e. absurd (nothing_kept client.alone p a alone hp);
        some = λ index a h. absurd (nothing_kept client.alone index a alone h);
        references = rw (handles, alone) refl;
      }

  -- It is known to the cache, where each shard began with entries of its own.
  pub begun_known : IsAllowed config → AreAlike cache → cache.seed ≡ config.seed
      → most_in cache.shards.items ≤ MOST_SLOTS
      → ((s : ℕ) (shard : Shard (Seeded T) Global) → slice_get cache.shards.items s ≡ Some shard
      → Each (IsHomeEntry cache.seed (length cache.shards.items) s) (image_of shard))
      → Knows cache client
  begun_known allowed alike seed low home =
      let held = is.held in
      let most = is.most in
      let used = is.used in
      let left = is.left in
      let handles = allowed.handles in
      let few = serials_low cache.shards.items k in
      record {
        alike = alike;
        seed = is.seed ∙ sym seed;
        seated = record {
          count = is.count;
          each = λ s shard seat hd hs.
              let listed = share_listed cache.shards.items k s shard hd in
              rw is.number_is
              (begun_seated shard k client.used (share_of k (image_of shard)) seat
              (is.seats s shard seat hd hs) (share_own k (image_of shard)) (omega arith)
              (share_above k client.used (image_of shard) (omega arith)));
        };
        homes = λ s seat at.
            let one = seat_of s seat at in
            let made : (view_of seat).made ≡ (share_of k (image_of one.0)).made =
            ap (λ (v : View (Seeded T)). v.made) one.2.fresh in
            rw (made, is.count)
            (share_home cache.seed (length cache.shards.items) s k (image_of one.0)
            (home s one.0 one.1));
        holds = begun_holds;
        count = held ∙ rw is.handles refl;
        few = omega arith;
        most = omega arith;
        room = (rw most is.room.0, rw most is.room.1);
        serials = omega arith;
      }

module _ {T A : Type 0} (config : Config) (shards : List (Shard (Seeded T) A)) where
  -- Once client 0 has used its serials, each client is started.
  pub all_started : IsAllowed config → (old : List (Client T)) (was first : Client T)
      → AreSharing config shards old → slice_get old 0 ≡ Some was
      → Starts config (most_in shards) was first → (k : ℕ) (client : Client T)
      → slice_get (slice_set old 0 first) k ≡ Some client → IsStarted config shards k client
  all_started allowed old was first sharing at starts k client h = elim (cases_eq k 0) [
    | inl same ↦
        let read : slice_get (slice_set old 0 first) k ≡ Some first =
        ap (slice_get (slice_set old 0 first)) same ∙ read_here old 0 was first at in
        let is_first : first ≡ client = same_Some _ _ (sym read ∙ h) in
        rw (same, ← is_first) maker
    | inr other ↦
        others k client other (sharing.each k client (sym (read_other old 0 k first other) ∙ h))
  ]
    where
      maker : IsStarted config shards 0 first
      maker =
          let is = sharing.each 0 was at in
          let unused = is.unused in
          let same = starts.same in
          record {
            number_is = ap (λ (x : Client T). x.number) same ∙ unused.number_is;
            seed = ap (λ (x : Client T). x.seed) same ∙ unused.seed;
            most = ap (λ (x : Client T). x.most) same ∙ unused.most;
            held = ap (λ (x : Client T). x.held) same ∙ unused.held;
            used = starts.used_is;
            left = starts.left
                ∙ ap (λ n. min config.serials (STAMPS_PER_CLIENT - n)) (sym starts.used_is);
            handles = ap (λ (x : Client T). x.handles.slots) same ∙ unused.handles;
            alone = ap (λ (x : Client T). x.alone.slots) same ∙ unused.alone;
            room = (
              rw (ap (λ (x : Client T). x.handles.capacity) same) unused.room.0,
              rw (ap (λ (x : Client T). x.alone.capacity) same) unused.room.1,
            );
            count = ap (λ (x : Client T). length x.seats.items) same ∙ is.count;
            seats = λ s shard seat hd hs. is.seats s shard seat hd
                (ap (λ (x : Client T). slice_get x.seats.items s) (sym same) ∙ hs);
          }

      others : (k : ℕ) (client : Client T) → (k ≡ 0 → ⊥) → IsSharing config shards k client
          → IsStarted config shards k client
      others zero client other is = absurd (other refl)
      others (suc k) client other is =
          let unused = is.unused in
          let used = unused.used in
          let left = unused.left in
          let serials = allowed.serials in
          record {
            number_is = unused.number_is;
            seed = unused.seed;
            most = unused.most;
            held = unused.held;
            used = used;
            left = omega arith;
            handles = unused.handles;
            alone = unused.alone;
            room = unused.room;
            count = is.count;
            seats = is.seats;
          }

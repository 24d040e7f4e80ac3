-- The shards of a cache that begins with an image, one after the other.
use Rattle.std.proofs.Common.{◌≡◌, inl, inr, ℕ, zero, suc, ◌+◌, ◌*◌, ◌/◌, ◌≤◌, ◌&&◌, max, nat_lt, Bool, true, false, if◌then◌else◌, List, [], ◌∷◌, ◌++◌, Some, None, length, slice_get, sym, refl, ap, ◌∙◌, subst, length-append, arith}
use Rattle.std.specs.List.{list_any}
use Rattle.std.proofs.lemmas.Bool.{le-ltb, ne_eqb}
use Rattle.hcc_core.specs.declared.limits.TheConstants.{MOST_SLOTS, MOST_USES, OCCUPANCY_PERCENT}
use Rattle.hcc_core.specs.Sums.{total}
use Rattle.hcc_rule.specs.declared.image.ImageEntry.{ImageEntry}
use Rattle.hcc_rule.specs.declared.key.Key.{Key}
use Rattle.hcc_rule.specs.ImageLimits.{charges_of}
use Rattle.hcc_rule.specs.Views.{Each}
use Rattle.hcc_rule.proofs.Seats.Splits.{each_snoc}
use Rattle.hcc_shard.specs.declared.seat.ShardSeat.{ShardSeat}
use Rattle.hcc_shard.specs.declared.shard.Shard.{Shard}
use Rattle.hcc_shard.specs.Reopened.{AreFitting, is_free, is_long, is_rising, is_worn, refusal_of}
use Rattle.hcc_shard.specs.Seated.{AreBegun}
use Rattle.hcc_shard.specs.Stays.{BeganWithinLimits, KnowNoEvent}
use Rattle.hcc_cache.specs.declared.cache.Cache.{Cache}
use Rattle.hcc_cache.specs.declared.client.Client.{Client}
use Rattle.hcc_cache.specs.declared.config.Config.{Config}
use Rattle.hcc_cache.specs.declared.drafting.Draft.{Draft}
use Rattle.hcc_cache.specs.declared.seeded.Seeded.{Seeded}
use Rattle.hcc_cache.specs.Configs.{IsAllowed, shard_capacity, shard_geometry}
use Rattle.hcc_cache.specs.Drafts.{AreDrafts, IsDraft, IsFilled, standing}
use Rattle.hcc_cache.specs.Ended.{KnowNothing}
use Rattle.hcc_cache.specs.Images.{AreRight, Visible, visible_from}
use Rattle.hcc_cache.specs.Keys.{fits_seeded}
use Rattle.hcc_cache.specs.Opened.{AreGiven, IsCacheOf, IsConfigured, tag_in}
use Rattle.hcc_cache.specs.Reopened.{BeginsAs, HasAt, IsHomeEntry, IsReopened, IsStarted, image_of, most_in}
use Rattle.hcc_cache.specs.Sharding.{IsReached}
use Rattle.hcc_cache.specs.Taken.{IsOneOf, Split, begun, is_taken, places_of, split_of, sum_in, with_all, with_one}
use Rattle.hcc_cache.proofs.Basics.Lists.{each_push}
use Rattle.hcc_cache.proofs.Beginnings.ReopenedClientsDealt.{AreSharing, begun_known, most_more, sharing_more}
use Rattle.hcc_cache.proofs.Beginnings.NewClientsDealt.{get_push, made_alike}
use Rattle.hcc_cache.proofs.Beginnings.DraftSlots.{reached_past, standing_any, standing_at, standing_each, standing_has, standing_length, standing_rising, standing_total}
use Rattle.hcc_cache.proofs.Beginnings.KnowingNothing.{nothing_more}

-- Of what was taken.

module _ {T : Type 0} (fits : T → Key → List ℕ → Type 0) (tag : T) (c : Config) where
  -- What is taken of entries that are right is right.
  right_more : (es : List Visible) (e : Visible) → AreRight fits tag es → fits tag e.key e.value
      → AreRight fits tag (es ++ e ∷ [])
  right_more [] e h one = (one, tt)
  right_more (x ∷ es) e h one = (h.0, right_more es e h.1 one)

  right_one : (s : Split) (e : Visible) → AreRight fits tag s.taken → fits tag e.key e.value
      → AreRight fits tag (with_one c s e).taken
  right_one s e h one = by (is_taken c s.taken e)
    where
      by : (b : Bool) → AreRight fits tag (if◌then◌else◌ {A = Split} b
          (record { taken = s.taken ++ e ∷ []; left = s.left })
          (record { taken = s.taken; left = s.left ++ e ∷ [] })).taken
      by true = right_more s.taken e h one
      by false = h

  right_all : (s : Split) (es : List Visible) → AreRight fits tag s.taken → AreRight fits tag es
      → AreRight fits tag (with_all c s es).taken
  right_all s [] h all = h
  right_all s (e ∷ es) h all = right_all (with_one c s e) es (right_one s e h all.0) all.1

  pub right_taken : (es : List Visible) → AreRight fits tag es
      → AreRight fits tag (split_of c es).taken
  right_taken es all = right_all (record { taken = []; left = [] }) es tt all

  -- One of them is right, too.
  right_at : (es : List Visible) (k : ℕ) (e : Visible) → AreRight fits tag es
      → slice_get es k ≡ Some e → fits tag e.key e.value
  right_at [] k e h at = cc
  right_at (x ∷ es) zero e h at =
      let same : x ≡ e = cc in
      subst (λ (v : Visible). fits tag v.key v.value) same h.0
  right_at (x ∷ es) (suc k) e h at = right_at es k e h.1 at

-- Of the draft of one shard.

-- charges that are within a capacity, where it is strict, aren't too large
not_large : (strict : Bool) (capacity sum : ℕ) → (strict ≡ true → sum ≤ capacity)
    → (strict && nat_lt capacity sum) ≡ false
not_large false capacity sum within = refl
not_large true capacity sum within = le-ltb capacity sum (within refl)

module _ (c : Config) (taken : List Visible) (shard : ℕ) (d : Draft)
    (is : IsDraft c taken shard d) where
  -- They are as many as it counts.
  pub draft_length : length (standing d.places.items) ≡ d.count
  draft_length =
      standing_length d.places.items ∙ (is.holds (λ (e : Visible). 1) ∙ sym is.count)

  -- Whatever is counted of them is that of those that were taken.
  pub draft_counts : (f : Visible → ℕ)
      → total (λ (e : ImageEntry). f (visible_from c.seed e)) (standing d.places.items)
      ≡ sum_in c shard (λ (e : Visible). f (begun e)) taken
  draft_counts f =
      standing_total (λ (e : ImageEntry). f (visible_from c.seed e)) d.places.items ∙ is.holds f

  -- Each is one of those.
  pub draft_members : (k : ℕ) (e : ImageEntry) → slice_get (standing d.places.items) k ≡ Some e
      → IsOneOf c taken e
  draft_members k e at =
      let place = standing_at d.places.items k e at in
      (is.each place.0 e place.1).from

  -- Each has a key of the shard.
  pub draft_home : Each (IsHomeEntry c.seed c.shards shard) (standing d.places.items)
  draft_home = standing_each (IsHomeEntry c.seed c.shards shard) d.places.items is.belongs

  -- Each is in the slot of a probe of its key, and each earlier probe has another.
  pub draft_placed : (k : ℕ) (e : ImageEntry) → slice_get (standing d.places.items) k ≡ Some e
      → IsReached c.slots e.key (HasAt (standing d.places.items)) e.slot
  draft_placed k e at =
      let place = standing_at d.places.items k e at in
      let stands = is.each place.0 e place.1 in
      rw stands.here (reached_past c.slots e.key (IsFilled d.places.items)
      (HasAt (standing d.places.items)) place.0 has stands.reached)
    where
      has : (slot : ℕ) → IsFilled d.places.items slot → HasAt (standing d.places.items) slot
      has slot taken =
          let found = standing_has d.places.items slot taken.0 taken.1 in
          (found.0, taken.0, found.1, (is.each slot taken.0 taken.1).here)

  -- The shard takes them.
  pub draft_accepted : refusal_of (shard_geometry c) (shard_capacity c) c.strict
      (standing d.places.items) ≡ None
  draft_accepted = rw (rising, short, fresh, paid, few, large) refl
    where
      rising : is_rising 0 c.slots (standing d.places.items) ≡ true
      rising =
          let wide = is.wide in
          standing_rising 0 0 c.slots d.places.items (omega arith) (omega arith)
          (λ slot e at. let here = (is.each slot e at).here in omega arith)

      short : list_any (is_long c.room) (standing d.places.items) ≡ false
      short = standing_any (is_long c.room) d.places.items
          (λ slot e at. le-ltb (8 * c.room) (length e.value.items) (is.each slot e at).short)

      fresh : list_any is_worn (standing d.places.items) ≡ false
      fresh = standing_any is_worn d.places.items
          (λ slot e at. le-ltb MOST_USES e.uses (is.each slot e at).few)

      paid : list_any is_free (standing d.places.items) ≡ false
      paid = standing_any is_free d.places.items (λ slot e at.
          let some = (is.each slot e at).paid in
          ne_eqb e.charge 0 (λ none. omega arith))

      few : nat_lt (c.slots * OCCUPANCY_PERCENT / 100) (length (standing d.places.items)) ≡ false
      few =
          let long = draft_length in
          let low = is.few in
          le-ltb (c.slots * OCCUPANCY_PERCENT / 100) (length (standing d.places.items))
          (omega arith)

      large : (c.strict && nat_lt (shard_capacity c) (charges_of (standing d.places.items)))
          ≡ false
      large = not_large c.strict (shard_capacity c) (charges_of (standing d.places.items))
          (λ strict.
          let sum = draft_counts (λ (e : Visible). e.charge) in
          let charge = is.charge in
          let most = is.within strict in
          omega arith)

  -- Each value is right for its seeded key in the shard, where those that were taken are right.
  pub draft_fitting : {T : Type 0} (fits : T → Key → List ℕ → Type 0) (tag : T)
      → AreRight fits tag taken
      → AreFitting (fits_seeded fits) (tag_in c tag shard) (standing d.places.items)
  draft_fitting fits tag right =
      standing_each
      (λ (e : ImageEntry). fits_seeded fits (tag_in c tag shard) e.key e.value.items)
      d.places.items (λ slot e at.
      let from = (is.each slot e at).from in
      record {
        right =
            subst (λ (v : Visible). fits tag v.key v.value) (sym from.is)
            (right_at fits tag c taken from.index from.one right from.there);
        home = (is.belongs slot e at).1;
      })

-- Of all shards.

-- Some drafts were opened, and the rest is to come.
pub record IsReopening {T A : Type 0} (fits : T → Key → List ℕ → Type 0) (c : Config) (tag : T)
    (taken : List Visible) (all : List Draft) (shards : List (Shard (Seeded T) A))
    (clients : List (Client T)) (most : ℕ) (rest : List Draft) : Type 0 where
  pub are : AreDrafts c taken all
  pub right : AreRight fits tag taken
  pub front : (k : ℕ) (d : Draft) → slice_get rest k ≡ Some d
      → slice_get all (length shards + k) ≡ Some d
  pub count : length shards + length rest ≡ length all
  pub configured : (s : ℕ) (shard : Shard (Seeded T) A) → slice_get shards s ≡ Some shard
      → IsConfigured c tag s shard
  pub begins : (s : ℕ) (shard : Shard (Seeded T) A) → slice_get shards s ≡ Some shard
      → BeginsAs c taken s shard
  pub began : (s : ℕ) (shard : Shard (Seeded T) A) → slice_get shards s ≡ Some shard
      → BeganWithinLimits shard (fits_seeded fits)
  pub sharing : AreSharing c shards clients
  pub past : KnowNothing clients
  pub most_is : most ≡ most_in shards
  pub low : most ≤ places_of c

module _ {T A : Type 0} (fits : T → Key → List ℕ → Type 0) (c : Config) (tag : T)
    (taken : List Visible) (all : List Draft) where
  -- At first none was opened.
  pub reopening_none : (clients : List (Client T)) → AreDrafts c taken all
      → AreRight fits tag taken → AreSharing {A = A} c [] clients → KnowNothing clients
      → IsReopening {A = A} fits c tag taken all [] clients 0 all
  reopening_none clients are right sharing nothing = record {
    are = are;
    right = right;
    front = λ k d h. (let same : 0 + k ≡ k = omega arith in rw same h);
    count = omega arith;
    configured = λ s shard h. cc;
    begins = λ s shard h. cc;
    began = λ s shard h. cc;
    sharing = sharing;
    past = nothing;
    most_is = refl;
    low = omega arith;
  }

  module _ (shards : List (Shard (Seeded T) A)) (clients : List (Client T)) (most : ℕ) (d : Draft)
      (rest : List Draft)
      (is : IsReopening fits c tag taken all shards clients most (d ∷ rest)) where
    -- The next draft is that of the next shard.
    pub next_draft : IsDraft c taken (length shards) d
    next_draft =
        let at = is.front 0 d refl in
        let same : length shards + 0 ≡ length shards = omega arith in
        is.are.each (length shards) d (ap (slice_get all) (sym same) ∙ at)

    -- One more was opened.
    pub reopening_more : (shard : Shard (Seeded T) A) (now : List (Client T))
        (seats : List (ShardSeat (Seeded T))) (es : List ImageEntry)
        → es ≡ standing d.places.items → IsConfigured c tag (length shards) shard
        → image_of shard ≡ es → AreBegun shard es seats
        → BeganWithinLimits shard (fits_seeded fits) → KnowNoEvent seats
        → AreGiven 0 clients seats now
        → IsReopening fits c tag taken all (shards ++ shard ∷ []) now (max most (length es)) rest
    reopening_more shard now seats es stand configured image begun within none given =
        let longer = length-append shards (shard ∷ []) in
        let count = is.count in
        let same : image_of shard ≡ standing d.places.items = image ∙ stand in
        let long = ap length stand ∙ draft_length c taken (length shards) d next_draft in
        let few = next_draft.few in
        let low = is.low in
        record {
          are = is.are;
          right = is.right;
          front = λ k e h.
              let at = is.front (suc k) e h in
              let index : length shards + suc k ≡ length (shards ++ shard ∷ []) + k =
              omega arith in
              ap (slice_get all) (sym index) ∙ at;
          count = omega arith;
          configured = each_push (IsConfigured c tag) shards shard configured is.configured;
          begins = λ s one h. elim (get_push shards shard one s h) [
            | inl stood ↦ is.begins s one stood
            | inr last ↦ rw (last.0, ← last.1) (record {
              counts = λ f.
                  ap (total (λ (e : ImageEntry). f (visible_from c.seed e))) same
                  ∙ draft_counts c taken (length shards) d next_draft f;
              members = λ k e at. draft_members c taken (length shards) d next_draft k e
                  (ap (λ xs. slice_get xs k) (sym same) ∙ at);
              home = rw same (draft_home c taken (length shards) d next_draft);
              placed = λ k e at. rw same (draft_placed c taken (length shards) d next_draft k e
                  (ap (λ xs. slice_get xs k) (sym same) ∙ at));
            })
          ];
          began = each_snoc (λ s. BeganWithinLimits s (fits_seeded fits)) shards shard within
              is.began;
          sharing = sharing_more c shards clients now shard seats is.sharing given
              (rw image begun);
          past = nothing_more clients now seats is.past none given;
          most_is =
              let before = is.most_is in
              let length_is = ap length image in
              let more = most_more shards shard in
              omega arith;
          low = omega arith;
        }

module _ {T : Type 0} (fits : T → Key → List ℕ → Type 0) (config : Config) (tag : T)
    (image : List Visible) (cache : Cache T) (clients : List (Client T)) where
  -- Once all shards are opened, and each client is started, it is a cache with what was taken.
  pub reopened_all : IsAllowed config → IsCacheOf config tag cache
      → ((s : ℕ) (shard : Shard (Seeded T) _) → slice_get cache.shards.items s ≡ Some shard
      → BeginsAs config (split_of config image).taken s shard)
      → length clients ≡ config.clients
      → ((k : ℕ) (client : Client T) → slice_get clients k ≡ Some client
      → IsStarted config cache.shards.items k client)
      → most_in cache.shards.items ≤ places_of config
      → ((s : ℕ) (shard : Shard (Seeded T) _) → slice_get cache.shards.items s ≡ Some shard
      → BeganWithinLimits shard (fits_seeded fits)) → KnowNothing clients
      → IsReopened fits config tag image cache clients
  reopened_all allowed made begins count started low began nothing =
      let slots = allowed.slots in
      let few : most_in cache.shards.items ≤ MOST_SLOTS = omega arith in
      record {
        cache_is = made;
        begins = begins;
        clients_are = count;
        started = started;
        known = λ k client h. begun_known config cache k client (started k client h) allowed
            (made_alike config tag cache allowed made) made.seed few
            (λ s shard at. rw (made.seed, made.count) (begins s shard at).home);
        began = began;
        past = nothing;
      }

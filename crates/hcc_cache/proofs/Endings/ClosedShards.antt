-- The shards of a cache, as they are closed from the last on.
use Rattle.std.proofs.Common.{◌≡◌, inl, inr, ℕ, ◌+◌, ◌-◌, ◌<◌, ◌≤◌, List, [], ◌∷◌, ◌++◌, Option, Some, None, is_some, length, reverse, take, slice_get, sym, refl, ap, ◌∙◌, length-append, arith}
use Rattle.std.proofs.lemmas.Option.{same_Some}
use Rattle.std.proofs.lemmas.List.{length-take-le, take_all, take-take, length-reverse}
use Rattle.std.specs.declared.alloc.Global.{Global}
use Rattle.hcc_core.specs.declared.slot.Stamp.{Stamp}
use Rattle.hcc_core.proofs.ListLemmas.{read_last}
use Rattle.hcc_rule.specs.declared.geometry.Geometry.{Geometry}
use Rattle.hcc_rule.specs.declared.key.Key.{Key}
use Rattle.hcc_rule.specs.declared.layout.TheConstants.{KEY0, KEY1}
use Rattle.hcc_rule.specs.declared.view.View.{View}
use Rattle.hcc_core.specs.World.{State}
use Rattle.hcc_rule.specs.Acts.{IsAllowed, world_of}
use Rattle.hcc_rule.specs.Closing.{Closes, IsKept, IsWithin, data_at, key_at, words_of}
use Rattle.hcc_rule.specs.Ending.{ShowsWorld}
use Rattle.hcc_rule.specs.Views.{named_by}
use Rattle.hcc_rule.specs.Records.{weight_on}
use Rattle.hcc_rule.specs.Rule.{list_weighs}
use Rattle.hcc_rule.proofs.Basics.Lists.{there, within}
use Rattle.hcc_rule.proofs.Entries.ShowParts.{get_front}
use Rattle.hcc_shard.specs.declared.entries.ClosedShard.{ClosedShard}
use Rattle.hcc_shard.specs.declared.seat.ShardSeat.{ShardSeat}
use Rattle.hcc_shard.specs.declared.shard.Shard.{Shard}
use Rattle.hcc_shard.specs.Callers.{capacity_of, geometry_of, is_strict, plan_of, view_of}
use Rattle.hcc_shard.specs.Ended.{past_of}
use Rattle.hcc_shard.proofs.Values.{value_kept}
use Rattle.hcc_cache.specs.declared.cache.Cache.{Cache}
use Rattle.hcc_cache.specs.declared.client.Client.{Client}
use Rattle.hcc_cache.specs.declared.closed.Closed.{Closed}
use Rattle.hcc_cache.specs.declared.seeded.Seeded.{Seeded}
use Rattle.hcc_cache.specs.Clients.{view_at, view_by}
use Rattle.hcc_cache.specs.Closings.{all_joined, views_at, AreBack, HasLast, IsClosed, KeepsFront}
use Rattle.hcc_cache.specs.Ended.{IsMostKnown, LeavesWorld}
use Rattle.hcc_cache.specs.Keys.{fits_seeded, tag_at}
use Rattle.hcc_cache.specs.Known.{IsSeated}
use Rattle.hcc_cache.specs.Left.{AreWhole}
use Rattle.hcc_cache.specs.Sharding.{shard_of}
use Rattle.hcc_cache.proofs.Endings.WithoutHandles.{holds_nothing}
use Rattle.hcc_cache.proofs.Endings.JoinedSeats.{all_named, from_view, views_count, views_same}
use Rattle.hcc_cache.proofs.Basics.Lists.{get_in_take, get_push, get_reverse, get_take}
use Rattle.hcc_cache.proofs.Endings.MostKnown.{known_back}
use Rattle.hcc_cache.proofs.Endings.JoinedMadeLists.{gone_joined, made_joined, made_weighs, records_joined, takings_joined}

-- the number of the shard that was closed as number j
abbrev index_of : {T : Type 0} → Cache T → (j : ℕ) → ℕ
index_of cache j = length cache.shards.items - 1 - j

-- what a tag, a size and a view tell, the same ones tell
closes_same : {T : Type 0} (fits : T → Key → List ℕ → Type 0) (tag same_tag : Seeded T)
    (geometry same_geometry : Geometry) (words : List ℕ) (v w : View (Seeded T))
    → tag ≡ same_tag → geometry ≡ same_geometry → v ≡ w
    → Closes (fits_seeded fits) tag geometry words v
    → Closes (fits_seeded fits) same_tag same_geometry words w
closes_same fits tag same_tag geometry same_geometry words v w tags geometries views closes =
    rw (tags, geometries, views) at closes

-- and so it is of the world that words show
shows_same : {T : Type 0} (fits : T → Key → List ℕ → Type 0) (tag same_tag : Seeded T)
    (geometry same_geometry : Geometry) (words : List ℕ) (v w : View (Seeded T)) (world : State)
    → tag ≡ same_tag → geometry ≡ same_geometry → v ≡ w
    → ShowsWorld (fits_seeded fits) tag geometry words v world
    → ShowsWorld (fits_seeded fits) same_tag same_geometry words w world
shows_same fits tag same_tag geometry same_geometry words v w world tags geometries views shows =
    rw (tags, geometries, views) at shows

-- An entry that was made has a key of its shard.
key_home : {T : Type 0} (fits : T → Key → List ℕ → Type 0) (cache : Cache T) (s : ℕ)
    (words : List ℕ) (v : View (Seeded T)) (slot : ℕ) (stamp : Stamp)
    → IsKept (fits_seeded fits) (tag_at cache s) cache.geometry.room words v slot stamp
    → shard_of (key_at cache.geometry.room words slot) (length cache.shards.items) ≡ s
key_home fits cache s words v slot stamp kept =
    let first : data_at cache.geometry.room words slot KEY0 ≡ kept.made.key.w0 =
    kept.says KEY0 (omega arith) in
    ap (λ (w : ℕ). shard_of (record { w0 = w; w1 = data_at cache.geometry.room words slot KEY1 })
    (length cache.shards.items)) first
    ∙ kept.right.fitting.home

module _ {T : Type 0} (fits : T → Key → List ℕ → Type 0) (cache : Cache T)
    (old : List (Client T)) where
  -- what is left of the shard of this number, closed by what the clients know of it
  pub record IsLeft (s : ℕ) (left : ClosedShard Global) : Type 0 where
    pub size : left.table.geometry ≡ cache.geometry
    pub closes : Closes (fits_seeded fits) (tag_at cache s) cache.geometry (words_of left.table)
        (all_joined (views_at s old))
    pub within : IsWithin cache.geometry cache.capacity cache.strict (words_of left.table)
    pub world : (shard : Shard (Seeded T) Global) → slice_get cache.shards.items s ≡ Some shard
        → LeavesWorld fits cache old s shard left

  -- The first shards stand, the others are closed, the last one first, and the clients have the
  -- seats of the first alone.
  pub record IsClosing (shards : List (Shard (Seeded T) Global))
      (closed : List (Option (ClosedShard Global))) (now : List (Client T)) : Type 0 where
    pub front : (s : ℕ) (shard : Shard (Seeded T) Global) → slice_get shards s ≡ Some shard
        → slice_get cache.shards.items s ≡ Some shard
    pub count : length closed + length shards ≡ length cache.shards.items
    pub clients : length now ≡ length old
    pub left : (k : ℕ) (client : Client T) → slice_get now k ≡ Some client
        → (was : Client T) × (slice_get old k ≡ Some was) × KeepsFront (length shards) was client
    pub each : (j : ℕ) (one : Option (ClosedShard Global)) → slice_get closed j ≡ Some one
        → (left : ClosedShard Global) × (one ≡ Some left) × IsLeft (index_of cache j) left

module _ {T : Type 0} (fits : T → Key → List ℕ → Type 0) (cache : Cache T)
    (old : List (Client T)) (back : AreBack cache old) where
  -- no shard is closed yet
  pub closing_none : (closed : List (Option (ClosedShard Global))) → length closed ≡ 0
      → IsClosing fits cache old cache.shards.items closed old
  closing_none closed empty = record {
    front = λ s shard h. h;
    count = omega arith;
    clients = refl;
    left = λ k client h.
        let count = (back.known k client h).seated.count in
        (client, h, sym (take_all (length cache.shards.items) client.seats.items (omega arith)));
    each = λ j one h. let inside = within closed j one h in absurd (omega arith);
  }

  -- What a client knows of a shard, it knows by a seat of its own.
  seat_there : (s : ℕ) (shard : Shard (Seeded T) Global)
      → slice_get cache.shards.items s ≡ Some shard
      → (k : ℕ) (client : Client T) → slice_get old k ≡ Some client
      → (seat : ShardSeat (Seeded T)) × (slice_get client.seats.items s ≡ Some seat)
      × IsSeated shard client.number client.used seat
  seat_there s shard stands k client h =
      let seated = (back.known k client h).seated in
      let count = seated.count in
      let inside = within cache.shards.items s shard stands in
      let one = there client.seats.items s (omega arith) in
      (one.0, one.1, seated.each s shard one.0 stands one.1)

  -- each view of a shard is a client's, and names that client alone
  views_single : (s : ℕ) (shard : Shard (Seeded T) Global)
      → slice_get cache.shards.items s ≡ Some shard
      → (k : ℕ) (w : View (Seeded T)) → slice_get (views_at s old) k ≡ Some w
      → (client : Client T) × (slice_get old k ≡ Some client) × (view_at s client ≡ w)
      × (w.others ≡ []) × (w.client ≡ client.number)
  views_single s shard stands k w h =
      let from = from_view s old k w h in
      let seat = seat_there s shard stands k from.0 from.1 in
      let is : w ≡ view_of seat.0 = sym from.2 ∙ ap view_by seat.1 in (
        from.0,
        from.1,
        from.2,
        ap (λ (v : View (Seeded T)). v.others) is ∙ seat.2.single,
        ap (λ (v : View (Seeded T)). v.client) is ∙ (seat.2.rests.own ∙ seat.2.number_is),
      )

  -- the view that is joined of theirs names all clients
  all_are_named : (s : ℕ) (shard : Shard (Seeded T) Global)
      → slice_get cache.shards.items s ≡ Some shard → 1 ≤ length old
      → named_by (all_joined (views_at s old)) ≡ length old
  all_are_named s shard stands some =
      let counted = views_count s old in
      all_named (views_at s old) (omega arith) (λ k w h.
      let from = from_view s old k w h in
      let seat = seat_there s shard stands k from.0 from.1 in
      let is : w ≡ view_of seat.0 = sym from.2 ∙ ap view_by seat.1 in
      rw is (ap is_some seat.2.rests.at.tagged, seat.2.single))
      ∙ counted

  -- It has no record.
  joined_nothing : (s : ℕ) (shard : Shard (Seeded T) Global)
      → slice_get cache.shards.items s ≡ Some shard → 1 ≤ length old
      → (all_joined (views_at s old)).records ≡ []
  joined_nothing s shard stands some =
      let views = views_count s old in
      let first = there (views_at s old) 0 (omega arith) in
      let from = from_view s old 0 first.0 first.1 in
      let seat = seat_there s shard stands 0 from.0 from.1 in
      let is : first.0 ≡ view_of seat.0 = sym from.2 ∙ ap view_by seat.1 in
      let nothing = holds_nothing cache from.0 (back.known 0 from.0 from.1)
      (back.none 0 from.0 from.1) s seat.0 seat.1 in
      records_joined (views_at s old) first.0 first.1
      ∙ (ap (λ (v : View (Seeded T)). v.records) is ∙ nothing.0)

  -- Of the last shard that stands.
  module _ (shards : List (Shard (Seeded T) Global)) (shard : Shard (Seeded T) Global)
      (closed : List (Option (ClosedShard Global))) (now : List (Client T))
      (closing : IsClosing fits cache old (shards ++ shard ∷ []) closed now) where
    stands : slice_get cache.shards.items (length shards) ≡ Some shard
    stands = closing.front (length shards) shard (read_last shards shard)

    longer : length (shards ++ shard ∷ []) ≡ length shards + 1
    longer = length-append shards (shard ∷ [])

    -- There is room for one more that is closed.
    pub room_left : 1 ≤ length old → length closed < 64
    room_left some =
        let client = there old 0 some in
        let few = (back.known 0 client.0 client.1).alike.few in
        let count = closing.count in
        let more = longer in
        omega arith

    -- Each client has the seat of it, and holds nothing there.
    pub has_last : (k : ℕ) (client : Client T) → slice_get now k ≡ Some client
        → HasLast shard (length shards) client
    has_last k client h =
        let left = closing.left k client h in
        let was = left.0 in
        let knows = back.known k was left.1 in
        let seats = knows.seated.count in
        let count = closing.count in
        let more = longer in
        let whole = length (shards ++ shard ∷ []) in
        record {
          count = ap length left.2 ∙ length-take-le whole was.seats.items (omega arith) ∙ more;
          last = λ seat at.
              let sat : slice_get was.seats.items (length shards) ≡ Some seat =
              get_take was.seats.items whole (length shards) seat
              (ap (λ xs. slice_get xs (length shards)) (sym left.2) ∙ at) in
              let rests = (knows.seated.each (length shards) shard seat stands sat).rests in
              let nothing =
              holds_nothing cache was knows (back.none k was left.1) (length shards) seat sat in
              record { rests = rests; records = nothing.0; standalones = nothing.1 };
        }

    -- They have there the seats that they had,
    last_seats : (k : ℕ) (client : Client T) → slice_get now k ≡ Some client
        → (was : Client T) × (slice_get old k ≡ Some was)
        × (slice_get client.seats.items (length shards)
        ≡ slice_get was.seats.items (length shards))
    last_seats k client h =
        let left = closing.left k client h in
        let more = longer in
        let seat = seat_there (length shards) shard stands k left.0 left.1 in
        let here : slice_get client.seats.items (length shards) ≡ Some seat.0 =
        ap (λ xs. slice_get xs (length shards)) left.2
        ∙ get_in_take left.0.seats.items (length (shards ++ shard ∷ [])) (length shards) seat.0
        (omega arith) seat.1 in
        (left.0, left.1, here ∙ sym seat.1)

    -- and know of it what they knew.
    last_views : views_at (length shards) now ≡ views_at (length shards) old
    last_views =
        views_same (length shards) old now closing.clients (λ k client h.
        let left = last_seats k client h in
        (left.0, left.1, ap view_by left.2))

    -- The seat that was joined of theirs has what they knew in common, and names enough clients.
    module _ (seat : ShardSeat (Seeded T)) (some : 1 ≤ length old)
        (viewed : view_of seat ≡ all_joined (views_at (length shards) now)) where
      view_is : view_of seat ≡ all_joined (views_at (length shards) old)
      view_is = viewed ∙ ap all_joined last_views

      alike : (geometry_of shard ≡ cache.geometry) × (capacity_of shard ≡ cache.capacity)
          × (is_strict shard ≡ cache.strict)
          × ((plan_of shard).tag ≡ tag_at cache (length shards))
      alike =
          let client = there old 0 some in
          (back.known 0 client.0 client.1).alike.plans (length shards) shard stands

      pub names_enough : (geometry_of shard).clients ≤ named_by (view_of seat)
      names_enough =
          let named = ap named_by view_is ∙ all_are_named (length shards) shard stands some in
          let same = ap (λ g. g.clients) alike.0 in
          let enough = back.enough in
          omega arith

      -- What the closing of the shard says of the world that its last seat knows.
      pub record KnowsLast (left : ClosedShard Global) : Type 0 where
        pub known : IsMostKnown (length shards) now (length now) (past_of seat)
        pub allowed : IsAllowed (plan_of shard) (past_of seat)
        pub shows : ShowsWorld (fits_seeded fits) (plan_of shard).tag (geometry_of shard)
            (words_of left.table) (view_of seat) (world_of (plan_of shard) (past_of seat))

      left_is : (left : ClosedShard Global) → left.table.geometry ≡ geometry_of shard
          → Closes (fits_seeded fits) (plan_of shard).tag (geometry_of shard) (words_of left.table)
          (view_of seat)
          → IsWithin (geometry_of shard) (capacity_of shard) (is_strict shard) (words_of left.table)
          → KnowsLast left → IsLeft fits cache old (length shards) left
      left_is left size closes within last = record {
        size = size ∙ alike.0;
        closes = closes_same fits _ _ _ _ _ _ _ alike.3 alike.0 view_is closes;
        within = rw (← alike.0, ← alike.1, ← alike.2) within;
        world = λ d at.
            let same : shard ≡ d = same_Some _ _ (sym stands ∙ at) in
            rw (← same) (record {
              history = past_of seat;
              known = known_back (length shards) old now (past_of seat) closing.clients last_seats
                  last.known;
              allowed = last.allowed;
              shows = shows_same fits _ _ _ _ _ _ _ _ alike.3 alike.0 view_is last.shows;
            });
      }

      -- One more shard is closed.
      pub closing_more : (more : List (Client T)) (left : ClosedShard Global)
          → length more ≡ length now
          → ((k : ℕ) (client : Client T) → slice_get more k ≡ Some client
          → (was : Client T) × (slice_get now k ≡ Some was)
          × KeepsFront (length shards) was client)
          → left.table.geometry ≡ geometry_of shard
          → Closes (fits_seeded fits) (plan_of shard).tag (geometry_of shard) (words_of left.table)
          (view_of seat)
          → IsWithin (geometry_of shard) (capacity_of shard) (is_strict shard) (words_of left.table)
          → KnowsLast left → IsClosing fits cache old shards (closed ++ Some left ∷ []) more
      closing_more more left count fronts size closes within last_known =
          let one_more = longer in
          let closed_more = length-append closed (Some left ∷ []) in
          let counted = closing.count in
          let clients = closing.clients in
          record {
            front = λ s x h. closing.front s x (get_front shards (shard ∷ []) s x h);
            count = omega arith;
            clients = count ∙ clients;
            left = λ k c h.
                let one = fronts k c h in
                let before = closing.left k one.0 one.1 in
                let whole = length (shards ++ shard ∷ []) in (
                  before.0,
                  before.1,
                  one.2 ∙ ap (take (length shards)) before.2
                      ∙ take-take (length shards) whole before.0.seats.items (omega arith),
                );
            each = λ j one h. elim (get_push closed (Some left) one j h) [
              | inl old_one ↦ closing.each j one old_one
              | inr last ↦
                  let index : length shards ≡ index_of cache j =
                  let e = last.0 in omega arith in
                  (left, sym last.1, rw index at (left_is left size closes within last_known))
            ];
          }

  -- Of all shards, once they are closed and put in order.
  module _ (now : List (Client T)) (shards : List (Shard (Seeded T) Global))
      (closed items : List (Option (ClosedShard Global)))
      (closing : IsClosing fits cache old shards closed now) (none : length shards ≡ 0)
      (turned : items ≡ reverse closed) where
    closed_count : length closed ≡ length cache.shards.items
    closed_count = let count = closing.count in omega arith

    items_count : length items ≡ length cache.shards.items
    items_count = ap length turned ∙ length-reverse closed ∙ closed_count

    one_left : (s : ℕ) (one : Option (ClosedShard Global)) → slice_get items s ≡ Some one
        → (left : ClosedShard Global) × (one ≡ Some left) × IsLeft fits cache old s left
    one_left s one h =
        let low = within items s one h in
        let same = items_count in
        let n = closed_count in
        let at = get_reverse closed s one (omega arith)
        (ap (λ xs. slice_get xs s) (sym turned) ∙ h) in
        let is = closing.each (length closed - 1 - s) one at in
        let index : index_of cache (length closed - 1 - s) ≡ s = omega arith in
        (is.0, is.1, rw index at is.2)

    left_of : (s : ℕ) (left : ClosedShard Global) → slice_get items s ≡ Some (Some left)
        → IsLeft fits cache old s left
    left_of s left h =
        let is = one_left s (Some left) h in
        let same : is.0 ≡ left = let e = is.1 in cc in
        rw same at is.2

    pub whole_all : 1 ≤ length old → AreWhole items
    whole_all some = record {
      short =
          let client = there old 0 some in
          let few = (back.known 0 client.0 client.1).alike.few in
          let n = items_count in
          omega arith;
      there = λ s h. let is = (one_left s None h).1 in cc;
      few = λ s left h.
          let size = ap (λ g. g.slots) (left_of s left h).size in
          let most = cache.limits.slots in
          omega arith;
    }

    pub closed_all : (result : Closed) → 1 ≤ length old → result.seed ≡ cache.seed
        → result.shards.items ≡ items → IsClosed fits cache old result
    closed_all result some seed same = record {
      seed = seed;
      count = ap length same ∙ items_count;
      size = λ s left h. (left_of s left (rw same at h)).size;
      closes = λ s left h. (left_of s left (rw same at h)).closes;
      within = λ s left h. (left_of s left (rw same at h)).within;
      unheld = λ s slot left h inside has.
          let n = items_count in
          let low = within items s (Some left) (rw same at h) in
          let shard = there cache.shards.items s (omega arith) in
          (left_of s left (rw same at h)).closes.held slot inside has
          ∙ ap (weight_on slot) (joined_nothing s shard.0 shard.1 some);
      values = λ s left h. value_kept (fits_seeded fits) (tag_at cache s) cache.geometry.room
          (words_of left.table) (all_joined (views_at s old));
      homes = λ s slot left h inside has.
          key_home fits cache s (words_of left.table) (all_joined (views_at s old)) slot _
          ((left_of s left (rw same at h)).closes.kept slot inside has);
      full = λ s inside.
          let n = items_count in
          let one = there items s (omega arith) in
          let is = one_left s one.0 one.1 in
          (is.0, ap (λ xs. slice_get xs s) same ∙ one.1 ∙ ap Some is.1);
      members = λ s stamp made inside h.
          let shard = there cache.shards.items s inside in
          let joined = made_joined stamp.client stamp.number made (views_at s old)
          (λ k w hw. (views_single s shard.0 shard.1 k w hw).3) h in
          let one = views_single s shard.0 shard.1 joined.0 joined.1 joined.2 in
          record {
            index = joined.0;
            client = one.0;
            there = one.1;
            number = sym one.4 ∙ joined.3;
            listed =
                ap (λ (v : View (Seeded T)). slice_get v.made stamp.number) one.2 ∙ joined.4;
          };
      counted = λ s left h.
          let n = items_count in
          let low = within items s (Some left) (rw same at h) in
          let shard = there cache.shards.items s (omega arith) in
          let views = views_count s old in
          let takings = takings_joined (views_at s old) (omega arith) in
          let made = made_weighs (λ c l. length l) (views_at s old) (omega arith)
          (λ k w hw. (views_single s shard.0 shard.1 k w hw).3) in
          let left_is = (left_of s left (rw same at h)).closes.left in
          omega arith;
      weighed = λ s left found h.
          let n = items_count in
          let low = within items s (Some left) (rw same at found) in
          let shard = there cache.shards.items s (omega arith) in
          let views = views_count s old in
          let gone = gone_joined h (views_at s old) (omega arith) in
          let made = made_weighs (λ c l. list_weighs h c 0 l) (views_at s old) (omega arith)
          (λ k w hw. (views_single s shard.0 shard.1 k w hw).3) in
          let left_is = (left_of s left (rw same at found)).closes.weighed h in
          omega arith;
    }

    pub worlds_all : (s : ℕ) (shard : Shard (Seeded T) Global) (left : ClosedShard Global)
        → slice_get cache.shards.items s ≡ Some shard → slice_get items s ≡ Some (Some left)
        → LeavesWorld fits cache old s shard left
    worlds_all s shard left at h = (left_of s left h).world shard at

-- The seats of all clients at one shard, as they are joined to one.
use Rattle.std.proofs.Common.{◌≡◌, inl, inr, ℕ, zero, suc, ◌+◌, ◌<◌, ◌≤◌, true, List, [], ◌∷◌, ◌++◌, Some, option_map, length, take, slice_get, slice_set, sym, refl, ap, ◌∙◌, length-set, length-append, arith}
use Rattle.std.proofs.lemmas.Bool.{cases_eq}
use Rattle.std.proofs.lemmas.List.{length-take-le, take_all}
use Rattle.std.proofs.lemmas.Option.{slice_get-map}
use Rattle.hcc_core.proofs.ListLemmas.{read_here, read_other}
use Rattle.hcc_rule.specs.declared.view.View.{View}
use Rattle.hcc_rule.specs.Acts.{longer}
use Rattle.hcc_rule.specs.Passing.{as_other, joined_view}
use Rattle.hcc_rule.specs.Views.{is_seated, named_by}
use Rattle.hcc_rule.proofs.Basics.Lists.{within}
use Rattle.hcc_shard.specs.declared.seat.ShardSeat.{ShardSeat}
use Rattle.hcc_shard.specs.declared.shard.Shard.{Shard}
use Rattle.hcc_shard.specs.Callers.{view_of}
use Rattle.hcc_shard.specs.Closed.{HoldsNothing}
use Rattle.hcc_shard.specs.Ended.{past_of}
use Rattle.hcc_cache.specs.declared.client.Client.{Client}
use Rattle.hcc_cache.specs.declared.seeded.Seeded.{Seeded}
use Rattle.hcc_cache.specs.Clients.{view_at, view_by}
use Rattle.hcc_cache.specs.Closings.{all_joined, joined_views, views_at, HasLast, KeepsFront}
use Rattle.hcc_cache.specs.Ended.{IsMostKnown}
use Rattle.hcc_cache.proofs.Basics.Lists.{take_snoc}
use Rattle.hcc_cache.proofs.Endings.MostKnown.{known_first, known_more}

-- Of views.

module _ {T : Type 0} where
  joined_snoc : (v : View T) (vs : List (View T)) (w : View T)
      → joined_views v (vs ++ w ∷ []) ≡ joined_view (joined_views v vs) w
  joined_snoc v [] w = refl
  joined_snoc v (x ∷ xs) w = joined_snoc (joined_view v x) xs w

  -- one view more is joined to the others
  pub all_joined_snoc : (vs : List (View T)) (w : View T) → 1 ≤ length vs
      → all_joined (vs ++ w ∷ []) ≡ joined_view (all_joined vs) w
  all_joined_snoc [] w some = absurd (omega arith)
  all_joined_snoc (v ∷ vs) w some = joined_snoc v vs w

  named_joined : (v : View T) (vs : List (View T))
      → ((k : ℕ) (w : View T) → slice_get vs k ≡ Some w → w.others ≡ [])
      → named_by (joined_views v vs) ≡ named_by v + length vs
  named_joined v [] single = omega arith
  named_joined v (w ∷ ws) single =
      let first = single 0 w refl in
      let rest = named_joined (joined_view v w) ws (λ k x h. single (suc k) x h) in
      let more : length (v.others ++ as_other w ∷ w.others) ≡ length v.others + 1 =
      length-append v.others (as_other w ∷ w.others)
      ∙ ap (λ os. length v.others + length (as_other w ∷ os)) first in
      omega arith

  -- Views of single clients, joined, name as many clients as there are views.
  pub all_named : (vs : List (View T)) → 1 ≤ length vs
      → ((k : ℕ) (w : View T) → slice_get vs k ≡ Some w → (is_seated w ≡ true) × (w.others ≡ []))
      → named_by (all_joined vs) ≡ length vs
  all_named [] some each = absurd (omega arith)
  all_named (v ∷ vs) some each =
      let first = each 0 v refl in
      let one : named_by v ≡ 1 = rw (first.0, first.1) refl in
      let rest = named_joined v vs (λ k x h. (each (suc k) x h).1) in
      omega arith

-- Of clients.

module _ {T : Type 0} where
  -- what a client knows of a shard is among what all know of it
  pub view_there : (s : ℕ) (clients : List (Client T)) (k : ℕ) (client : Client T)
      → slice_get clients k ≡ Some client
      → slice_get (views_at s clients) k ≡ Some (view_at s client)
  view_there s clients k client h =
      slice_get-map (view_at s) clients k ∙ ap (option_map (view_at s)) h

  -- each of those views is a client's
  pub from_view : (s : ℕ) (clients : List (Client T)) (k : ℕ) (v : View (Seeded T))
      → slice_get (views_at s clients) k ≡ Some v
      → (client : Client T) × (slice_get clients k ≡ Some client) × (view_at s client ≡ v)
  from_view s [] k v h = cc
  from_view s (c ∷ cs) zero v h = (c, refl, cc)
  from_view s (c ∷ cs) (suc k) v h = from_view s cs k v h

  -- they are as many as the clients
  pub views_count : (s : ℕ) (clients : List (Client T))
      → length (views_at s clients) ≡ length clients
  views_count s [] = refl
  views_count s (c ∷ cs) = ap suc (views_count s cs)

  -- they stay where each client has lost other seats alone
  pub views_same : (s : ℕ) (old now : List (Client T)) → length now ≡ length old
      → ((k : ℕ) (client : Client T) → slice_get now k ≡ Some client
      → (was : Client T) × (slice_get old k ≡ Some was) × (view_at s client ≡ view_at s was))
      → views_at s now ≡ views_at s old
  views_same s [] [] count each = refl
  views_same s [] (c ∷ cs) count each = cc
  views_same s (w ∷ ws) [] count each = cc
  views_same s (w ∷ ws) (c ∷ cs) count each =
      let first = each 0 c refl in
      let is : first.0 ≡ w = let h = first.1 in cc in
      let here : view_at s c ≡ view_at s w = first.2 ∙ ap (view_at s) is in
      let rest = views_same s ws cs (omega arith) (λ k client h. each (suc k) client h) in
      ap (λ v. v ∷ views_at s cs) here ∙ ap (λ vs. view_at s w ∷ vs) rest

  -- a client that lost its last seat
  pub record LosesLast (at : ℕ) (was is : Client T) (seat : ShardSeat (Seeded T)) : Type 0 where
    pub last : slice_get was.seats.items at ≡ Some seat
    pub left : KeepsFront at was is

module _ {T A : Type 0} where
  -- The last seats of the first clients are joined to this one, and those clients lost them.
  pub record Joins (shard : Shard (Seeded T) A) (at : ℕ) (old : List (Client T)) (k : ℕ)
      (now : List (Client T)) (seat : ShardSeat (Seeded T)) : Type 0 where
    pub some : 1 ≤ k
    pub short : k ≤ length old
    pub count : length now ≡ length old
    pub empty : HoldsNothing shard seat
    pub view : view_of seat ≡ all_joined (take k (views_at at old))
    pub known : IsMostKnown at old k (past_of seat)
    pub left : (j : ℕ) (client : Client T) → j < k → slice_get now j ≡ Some client
        → (was : Client T) × (slice_get old j ≡ Some was) × KeepsFront at was client
    pub same : (j : ℕ) (client : Client T) → k ≤ j → slice_get now j ≡ Some client
        → slice_get old j ≡ Some client

  -- the first client's is the first
  pub joins_first : (shard : Shard (Seeded T) A) (at : ℕ) (old : List (Client T))
      (was is : Client T) (seat : ShardSeat (Seeded T))
      → slice_get old 0 ≡ Some was → HasLast shard at was → LosesLast at was is seat
      → Joins shard at old 1 (slice_set old 0 is) seat
  joins_first shard at old was is seat first has loses = record {
    some = omega arith;
    short = within old 0 was first;
    count = length-set old 0 is;
    empty = has.last seat loses.last;
    view =
        let viewed : view_at at was ≡ view_of seat = ap view_by loses.last in
        sym viewed ∙ sym (ap all_joined (take_snoc (views_at at old) 0 (view_at at was)
        (view_there at old 0 was first)));
    known = known_first at old was seat first loses.last;
    left = λ j client below h.
        let zero_is : j ≡ 0 = omega arith in
        let here : slice_get (slice_set old 0 is) j ≡ Some is =
        ap (slice_get (slice_set old 0 is)) zero_is ∙ read_here old 0 was is first in
        let e : client ≡ is = let both : Some client ≡ Some is = sym h ∙ here in cc in
        (was, ap (slice_get old) zero_is ∙ first, rw e loses.left);
    same = λ j client above h.
        sym (read_other old 0 j is (λ e. absurd (omega arith))) ∙ h;
  }

  -- one client's more
  pub joins_more : (shard : Shard (Seeded T) A) (at : ℕ) (old now : List (Client T)) (k : ℕ)
      (was is : Client T) (seat more other : ShardSeat (Seeded T))
      → Joins shard at old k now seat → slice_get now k ≡ Some was
      → LosesLast at was is other → HoldsNothing shard more
      → view_of more ≡ joined_view (view_of seat) (view_of other)
      → past_of more ≡ longer (past_of seat) (past_of other)
      → Joins shard at old (k + 1) (slice_set now k is) more
  joins_more shard at old now k was is seat more other joins here loses empty both passed = record {
    some = omega arith;
    short = let low = inside in omega arith;
    count = length-set now k is ∙ joins.count;
    empty = empty;
    view =
        both ∙ ap (λ v. joined_view v (view_of other)) joins.view
        ∙ ap (joined_view (all_joined (take k (views_at at old)))) (sym viewed)
        ∙ sym (all_joined_snoc (take k (views_at at old)) (view_at at was) some_taken)
        ∙ sym (ap all_joined step);
    known =
        rw passed (known_more at old k (past_of seat) was other first loses.last joins.known);
    left = λ j client below h. elim (cases_eq j k) [
      | inl e ↦
          let there_is : slice_get (slice_set now k is) j ≡ Some is =
          ap (slice_get (slice_set now k is)) e ∙ read_here now k was is here in
          let same : client ≡ is = let b : Some client ≡ Some is = sym h ∙ there_is in cc in
          (was, ap (slice_get old) e ∙ first, rw same loses.left)
      | inr ne ↦ joins.left j client (omega arith) (sym (read_other now k j is ne) ∙ h)
    ];
    same = λ j client above h.
        joins.same j client (omega arith)
        (sym (read_other now k j is (λ e. absurd (omega arith))) ∙ h);
  }
    where
      first : slice_get old k ≡ Some was
      first = joins.same k was (omega arith) here

      inside : k < length old
      inside = within old k was first

      viewed : view_at at was ≡ view_of other
      viewed = ap view_by loses.last

      step : take (k + 1) (views_at at old) ≡ take k (views_at at old) ++ view_at at was ∷ []
      step =
          rw (let e : k + 1 ≡ suc k = omega arith in e) (take_snoc (views_at at old) k
          (view_at at was) (view_there at old k was first))

      some_taken : 1 ≤ length (take k (views_at at old))
      some_taken =
          let some = joins.some in
          let counted = views_count at old in
          rw (length-take-le k (views_at at old) (omega arith)) some

  -- and at the end all clients' are
  pub joins_all : (shard : Shard (Seeded T) A) (at : ℕ) (old now : List (Client T)) (k : ℕ)
      (seat : ShardSeat (Seeded T)) → Joins shard at old k now seat → length old ≤ k
      → view_of seat ≡ all_joined (views_at at old)
  joins_all shard at old now k seat joins done =
      let counted = views_count at old in
      joins.view ∙ ap all_joined (take_all k (views_at at old) (omega arith))

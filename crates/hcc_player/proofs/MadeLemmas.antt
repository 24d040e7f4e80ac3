-- What calls add to the lists of what clients made: the entry of a line that was placed, and
-- nothing else. And to what stands for them: an entry that stands alone.
use Rattle.std.proofs.Common.{◌≡◌, ◌≢◌, inl, inr, ℕ, true, false, Bool, List, [], ◌∷◌, ◌++◌}
use Rattle.std.proofs.Common.{Option, Some, None, Result, Ok, Err, ◌+◌, ◌<◌, ◌≤◌, length, refl, sym}
use Rattle.std.proofs.Common.{ap, ◌∙◌, arith}
use Rattle.std.proofs.lemmas.Option.{slice_get_within}
use Rattle.std.proofs.lemmas.Bool.{cases_eq}
use Rattle.hcc_core.specs.declared.client.Standalone.{Standalone}
use Rattle.hcc_core.specs.Ledgers.{is_standing}
use Rattle.hcc_core.specs.World.{standing_of}
use Rattle.hcc_core.proofs.DroppedLemmas.{dropped-le}
use Rattle.hcc_core.proofs.SumLemmas.{total-append}
use Rattle.hcc_rule.specs.declared.key.Key.{Key}
use Rattle.hcc_rule.specs.declared.view.Made.{Made}
use Rattle.hcc_rule.specs.declared.view.View.{View}
use Rattle.hcc_cache.specs.declared.cache.Cache.{Cache}
use Rattle.hcc_cache.specs.declared.client.Client.{Client}
use Rattle.hcc_cache.specs.declared.errors.InsertError.{InsertError}
use Rattle.hcc_cache.specs.declared.errors.InsertError.TheVariants as errors
use Rattle.hcc_cache.specs.declared.handle.Handle.{Handle}
use Rattle.hcc_cache.specs.declared.inserting.Inserted.{Inserted}
use Rattle.hcc_cache.specs.declared.inserting.Inserted.TheVariants as inserted
use Rattle.hcc_cache.specs.declared.priority.Priority.{Priority}
use Rattle.hcc_cache.specs.declared.seeded.Seeded.{Seeded}
use Rattle.hcc_cache.specs.Calls.{ReleasedOf, Releases, Rests, Works, shard_in}
use Rattle.hcc_cache.specs.Clients.{Insertion, view_at}
use Rattle.hcc_cache.specs.Inserts.{Inserts, InsertsAt, InsertsWith, RefusesWith}
use Rattle.hcc_cache.specs.Totals.{LoadsUsages, SearchesAll}
use Rattle.hcc_player.specs.declared.run.answer.Answer.{Answer}
use Rattle.hcc_player.specs.declared.run.answer.Answer.TheVariants as answers
use Rattle.hcc_player.specs.declared.run.call.Call.{Call}
use Rattle.hcc_player.specs.declared.run.call.Call.TheVariants as calls
use Rattle.hcc_player.specs.declared.run.registers.Filled.{Filled}
use Rattle.hcc_player.specs.RunAnswers.{insert_answer}
use Rattle.hcc_player.specs.RunCalls.{Does, ReadsTotals, ReadsWord}
use Rattle.hcc_player.specs.Runs.{placed_by, stood_by}

module _ {T : Type 0} where
  -- what a client made, as it knows of a shard
  abbrev pub listed : View (Seeded T) → List Made
  listed v = v.made

  -- what the client made at the shard of this number
  abbrev pub made_in : (shard : ℕ) → Client T → List Made
  made_in shard client = (view_at shard client).made

  -- the charges of what stands alone for it there
  abbrev pub stood : View (Seeded T) → ℕ
  stood v = standing_of v.work

  abbrev pub stood_in : (shard : ℕ) → Client T → ℕ
  stood_in shard client = standing_of (view_at shard client).work

  -- The client made nothing, and at no shard stands more for it, but for this charge.
  pub record MadeNone (alone : ℕ) (old new : Client T) : Type 0 where
    pub same : (s : ℕ) → made_in s new ≡ made_in s old
    pub stands : (s : ℕ) → stood_in s new ≤ stood_in s old + alone
    pub number : new.number ≡ old.number

  -- It made one entry, of this charge at this one of so many shards.
  pub record MadeOne (count shard charge : ℕ) (old new : Client T) : Type 0 where
    pub within : shard < count
    pub made : Made
    pub charge_is : made.charge ≡ charge
    pub more : made_in shard new ≡ made_in shard old ++ made ∷ []
    pub others : (s : ℕ) → s ≢ shard → made_in s new ≡ made_in s old
    pub stands : (s : ℕ) → stood_in s new ≤ stood_in s old
    pub number : new.number ≡ old.number

  pub none_same : (old new : Client T) → new ≡ old → MadeNone 0 old new
  none_same old new same =
      rw same (record { same = λ s. refl; stands = λ s. omega arith; number = refl })

  pub none_rests : (old new : Client T) → Rests old new → MadeNone 0 old new
  none_rests old new rests = record {
    same = λ s. ap listed (rests.all s);
    stands = λ s. let same = ap stood (rests.all s) in omega arith;
    number = rests.self.0;
  }

  pub none_then : (old mid new : Client T) → MadeNone 0 old mid → MadeNone 0 mid new
      → MadeNone 0 old new
  none_then old mid new first then = record {
    same = λ s. then.same s ∙ first.same s;
    stands = λ s. let few = first.stands s in let fewer = then.stands s in omega arith;
    number = then.number ∙ first.number;
  }

  -- work at one shard
  stands_works : (n alone : ℕ) (old new : Client T) (v w : View (Seeded T)) → Works n old new v w
      → stood w ≤ stood v + alone → (s : ℕ) → stood_in s new ≤ stood_in s old + alone
  stands_works n alone old new v w works few s = elim (cases_eq s n) [
    | inl here ↦
        let before = ap stood works.before in
        let after = ap stood works.after in
        let there : stood_in n new ≤ stood_in n old + alone = omega arith in
        rw here there
    | inr other ↦ let same = ap stood (works.others s other) in omega arith
  ]

  alone_works : (n alone : ℕ) (old new : Client T) (v w : View (Seeded T)) → Works n old new v w
      → w.made ≡ v.made → stood w ≤ stood v + alone → MadeNone alone old new
  alone_works n alone old new v w works same few = record {
    same = λ s. elim (cases_eq s n) [
      | inl here ↦
          rw here (ap listed works.after ∙ same
          ∙ sym (ap listed works.before))
      | inr other ↦ ap listed (works.others s other)
    ];
    stands = stands_works n alone old new v w works few;
    number = works.self.0;
  }

  -- by which the lists of its view stay
  pub none_works : (n : ℕ) (old new : Client T) (v w u : View (Seeded T)) → Works n old new v w
      → w ≡ u → u.made ≡ v.made → stood u ≡ stood v → MadeNone 0 old new
  none_works n old new v w u works is same stays =
      alone_works n 0 old new v w works (ap listed is ∙ same)
      (let all = ap stood is in omega arith)

  one_works : (count n charge : ℕ) (old new : Client T) (v w : View (Seeded T)) (made : Made)
      → n < count → Works n old new v w → w.made ≡ v.made ++ made ∷ [] → made.charge ≡ charge
      → stood w ≡ stood v → MadeOne count n charge old new
  one_works count n charge old new v w made within works more charge_is stays = record {
    within = within;
    made = made;
    charge_is = charge_is;
    more = ap listed works.after ∙ more
        ∙ sym (ap (λ v. listed v ++ made ∷ []) works.before);
    others = λ s other. ap listed (works.others s other);
    stands = λ s.
        let few = stands_works n 0 old new v w works (omega arith) s in omega arith;
    number = works.self.0;
  }

  loads_none : (old new : Client T) → LoadsUsages old new → MadeNone 0 old new
  loads_none old new loads = record {
    same = λ s. elim (loads.all s) [
      | inl same ↦ ap listed same
      | inr told ↦ ap listed told.1
    ];
    stands = λ s. elim (loads.all s) [
      | inl same ↦ let all = ap stood same in omega arith
      | inr told ↦ let all = ap stood told.1 in omega arith
    ];
    number = loads.self.0;
  }

  searches_none : (old new : Client T) → SearchesAll old new → MadeNone 0 old new
  searches_none old new searches = record {
    same = λ s. ap listed (searches.all s).searched.same;
    stands = λ s. let all = ap stood (searches.all s).searched.same in omega arith;
    number = searches.self.0;
  }

module _ {T : Type 0} (cache : Cache T) where
  abbrev pub AddsOne : (key : Key) → (charge : ℕ) → (old new : Client T) → Type 0
  AddsOne key charge = MadeOne (length cache.shards.items) (shard_in cache key) charge

  -- what a line adds, by the charge of an entry that stands alone, and by the insertion that was
  -- placed, if one was
  abbrev pub Adds : (alone : ℕ) → Option Insertion → (old new : Client T) → Type 0
  Adds alone None old new = MadeNone alone old new
  Adds alone (Some placed) old new = AddsOne placed.key placed.charge old new

  module _ (key : Key) (charge : ℕ) (priority : Priority) (value : List ℕ) where
    stores_one : (old new : Client T) → shard_in cache key < length cache.shards.items
        → Inserts cache key charge priority value (Ok inserted.Placed) old new
        → AddsOne key charge old new
    stores_one old new within s =
        one_works _ (shard_in cache key) charge old new s.v s.w _ within s.works
        (ap listed s.told.1.tries.same) refl (ap stood s.told.1.tries.same)

    pub stores_none : (old new : Client T)
        → Inserts cache key charge priority value (Ok inserted.Dropped) old new
        → MadeNone 0 old new
    stores_none old new s =
        none_works (shard_in cache key) old new s.v s.w _ s.works s.told.tries.same refl refl

    pub refused_none : (error : InsertError) (old new : Client T)
        → Inserts cache key charge priority value (Err error) old new → MadeNone 0 old new
    refused_none errors.HandlesFull old new s = absurd s
    refused_none errors.Spent old new s = none_same old new s
    refused_none errors.TooLarge old new s = none_same old new s
    refused_none errors.CapacityFull old new s =
        none_works (shard_in cache key) old new s.v s.w _ s.works s.told.0.same refl refl
    refused_none errors.OccupancyFull old new s =
        none_works (shard_in cache key) old new s.v s.w _ s.works s.told.0.same refl refl

    pins_one : (handle : Handle) (old new : Client T)
        → shard_in cache key < length cache.shards.items
        → InsertsWith cache key charge priority value handle inserted.Placed old new
        → AddsOne key charge old new
    pins_one handle old new within p =
        one_works _ (shard_in cache key) charge old new p.asks.v p.asks.w _ within p.asks.works
        (ap listed p.asks.told.0.tries.same) refl (ap stood p.asks.told.0.tries.same)

    stands_none : (handle : Handle) (old new : Client T)
        → InsertsWith cache key charge priority value handle inserted.Standalone old new
        → MadeNone charge old new
    stands_none handle old new p =
        alone_works (shard_in cache key) charge old new p.asks.v p.asks.w p.asks.works
        (ap listed p.asks.told.tries.same)
        (let all = ap stood p.asks.told.tries.same in
        let sum = total-append (λ (x : Standalone). x.charge) p.asks.v.work.standalones
        (record { name = old.used; charge = charge } ∷ []) in
        omega arith)

    unpinned_none : (error : InsertError) (old new : Client T)
        → RefusesWith cache key charge priority value error old new → MadeNone 0 old new
    unpinned_none errors.HandlesFull old new s = none_same old new s
    unpinned_none errors.Spent old new s = none_same old new s
    unpinned_none errors.TooLarge old new s = none_same old new s
    unpinned_none errors.CapacityFull old new s =
        none_works (shard_in cache key) old new s.asks.v s.asks.w _ s.asks.works
        s.asks.told.0.same refl refl
    unpinned_none errors.OccupancyFull old new s =
        none_works (shard_in cache key) old new s.asks.v s.asks.w _ s.asks.works
        s.asks.told.0.same refl refl

  -- a release, of an entry of the table or of a standalone one
  pub gives_none : (handle : Handle) (erase freed : Bool) (old new : Client T)
      → Releases cache handle erase freed old new → MadeNone 0 old new
  gives_none handle erase freed old new r =
      let left = by handle.serial erase freed r.held.standing r.v r.w r.released in
      alone_works r.shard 0 old new r.v r.w r.works left.0 left.1
    where
      by : (serial : ℕ) (erase freed : Bool) (standing : Option ℕ) (v w : View (Seeded T))
          → ReleasedOf cache serial erase freed standing v w
          → (w.made ≡ v.made) × (stood w ≤ stood v + 0)
      by serial erase freed None v w released =
          (ap listed released.same, let all = ap stood released.same in omega arith)
      by serial erase true (Some name) v w released = (
        ap listed released.1,
        let all = ap stood released.1 in
            let fewer = dropped-le (is_standing name) (λ (x : Standalone). x.charge)
            v.work.standalones in
            omega arith,
      )
      by serial erase false (Some name) v w released =
          (ap listed released, let all = ap stood released in omega arith)

module _ {T : Type 0} (fits : T → Key → List ℕ → Type 0) (cache : Cache T) where
  totals_none : (usage pinned occupancy : ℕ) (old new : Client T)
      → ReadsTotals fits cache usage pinned occupancy old new → MadeNone 0 old new
  totals_none usage pinned occupancy old new r =
      none_then old r.first new (loads_none old r.first r.views)
      (none_then r.first r.second new (searches_none r.first r.second r.searches)
      (none_rests r.second new r.reads.rests))

  word_none : (shard slot word displaced : ℕ) (old new : Client T)
      → ReadsWord fits cache shard slot word displaced old new → MadeNone 0 old new
  word_none shard slot word displaced old new r =
      none_then old r.between new
      (none_works shard old r.between _ _ _ r.sees refl refl refl)
      (none_rests r.between new r.reads.rests)

  -- an insertion, by what it told
  pub inserted_adds : (key : Key) (charge : ℕ) (priority : Priority) (value : List ℕ)
      (told : Result Inserted InsertError) (answer : Answer) (old new : Client T)
      → answer ≡ insert_answer told → Inserts cache key charge priority value told old new
      → InsertsAt cache fits key charge priority told old new
      → Adds cache 0 (placed_by (calls.Insert key charge priority value) answer) old new
  inserted_adds key charge priority value (Ok inserted.Placed) answer old new is inserts at =
      rw is (stores_one cache key charge priority value old new
      (slice_get_within cache.shards.items (shard_in cache key) at.shard at.shard_is) inserts)
  inserted_adds key charge priority value (Ok inserted.Dropped) answer old new is inserts at =
      rw is (stores_none cache key charge priority value old new inserts)
  inserted_adds key charge priority value (Ok inserted.Standalone) answer old new is inserts at =
      absurd inserts
  inserted_adds key charge priority value (Err error) answer old new is inserts at =
      rw is (refused_none cache key charge priority value error old new inserts)

  -- Each line adds what its answer says.
  pub adds : (call : Call) (answer : Answer) (old new : Client T)
      (was now : List Filled) → Does fits cache call answer old new was now
      → Adds cache (stood_by call answer) (placed_by call answer) old new
  unfolding Does
  adds (calls.Insert k x p w) answer old new was now did =
      inserted_adds k x p w did.told answer old new did.answer_is did.inserts did.evicts
  adds (calls.Pin r k x p w) answers.Placed old new was now did =
      pins_one cache k x p w did.handle old new
      (slice_get_within cache.shards.items (shard_in cache k) did.evicts.1.shard
      did.evicts.1.shard_is) did.inserts
  adds (calls.Pin r k x p w) answers.Standalone old new was now did =
      stands_none cache k x p w did.handle old new did.inserts
  adds (calls.Pin r k x p w) (answers.Refused e) old new was now did =
      unpinned_none cache k x p w e old new did.refuses
  adds (calls.Pin r k x p w) answers.Busy old new was now did = none_same old new did.client
  adds (calls.Pin r k x p w) answers.Nothing old new was now did = none_same old new did.client
  adds (calls.Lookup r k) (answers.Refused e) old new was now did = none_same old new did.client
  adds (calls.Lookup r k) answers.Busy old new was now did = none_same old new did.client
  adds (calls.Lookup r k) answers.Hit old new was now did =
      none_works _ old new did.finds.v did.finds.w _ did.finds.works
      did.finds.finds.searched.same refl refl
  adds (calls.Lookup r k) answers.Miss old new was now did =
      none_works _ old new did.misses.v did.misses.w _ did.misses.works
      did.misses.misses.sought.searched.same refl refl
  adds (calls.Lookup r k) answers.Nothing old new was now did = none_same old new did.client
  adds (calls.Reref r f) (answers.Refused e) old new was now did = none_same old new did.client
  adds (calls.Reref r f) answers.Busy old new was now did = none_same old new did.client
  adds (calls.Reref r f) answers.Held old new was now did =
      none_works _ old new did.again.v did.again.w _ did.again.works did.again.searched.same refl
      refl
  adds (calls.Reref r f) answers.Nothing old new was now did = none_same old new did.client
  adds (calls.Release r y z) answers.Busy old new was now did = none_same old new did.client
  adds (calls.Release r y z) answers.Freed old new was now did =
      gives_none cache did.handle z true old new did.releases
  adds (calls.Release r y z) answers.Kept old new was now did =
      gives_none cache did.handle z false old new did.releases
  adds (calls.Release r y z) answers.Nothing old new was now did = none_same old new did.client
  adds (calls.Value r) answers.Busy old new was now did = none_same old new did.client
  adds (calls.Value r) answers.Nothing old new was now did = none_same old new did.client
  adds (calls.Value r) (answers.Value v) old new was now did =
      none_then old did.between new (none_rests old did.between did.measures.rests)
      (none_rests did.between new did.reads.rests)
  adds (calls.Erase k) answers.Busy old new was now did = none_same old new did.client
  adds (calls.Erase k) answers.Nothing old new was now did = none_same old new did.client
  adds (calls.Erase k) (answers.Erased n) old new was now did =
      none_works _ old new did.erases.v did.erases.w _ did.erases.works did.erases.erases.same refl
      refl
  adds calls.Totals answers.Busy old new was now did = none_same old new did.client
  adds calls.Totals answers.Nothing old new was now did = none_same old new did.client
  adds calls.Totals (answers.Totals a b c) old new was now did = totals_none a b c old new did
  adds (calls.Word i j) answers.Busy old new was now did = none_same old new did.client
  adds (calls.Word i j) answers.Nothing old new was now did = none_same old new did.client
  adds (calls.Word i j) (answers.Word a b) old new was now did = word_none i j a b old new did
  adds calls.Stats answers.Busy old new was now did = none_same old new did.client
  adds calls.Stats answers.Nothing old new was now did = none_same old new did.client
  adds calls.Stats (answers.Stats t) old new was now did = none_same old new did.1.client
  adds call answer old new was now did = absurd did

-- How a shard's answers to insertions are told.
use Rattle.std.proofs.Common.{◌≡◌, ℕ, ◌≤◌, Bool, true, List, Result, Ok, Err, refl, arith}
use Rattle.hcc_rule.specs.declared.key.Key.{Key}
use Rattle.hcc_rule.specs.declared.steps.shows.Draft.{Draft}
use Rattle.hcc_rule.specs.declared.view.View.{View}
use Rattle.hcc_charge.specs.declared.reserving.Refused.{Refused}
use Rattle.hcc_charge.specs.declared.reserving.Refused.TheVariants.{CapacityFull, OccupancyFull, TooLarge}
use Rattle.hcc_shard.specs.declared.inserting.Inserted.{Inserted}
use Rattle.hcc_shard.specs.declared.inserting.Inserted.TheVariants.{Dropped, Placed}
use Rattle.hcc_shard.specs.Inserted.{InsertedBy, RefusedBy}
use Rattle.hcc_cache.specs.declared.cache.Cache.{Cache}
use Rattle.hcc_cache.specs.declared.client.Client.{Client}
use Rattle.hcc_cache.specs.declared.errors.InsertError.TheVariants as answers
use Rattle.hcc_cache.specs.declared.priority.Priority.{Priority}
use Rattle.hcc_cache.specs.Inserts.{Fails, InsertsAtListed, InsertsListed, PinsAtListed, RefusesPinnedAtListed, RefusesWithListed, StoresAtListed, StoresListed, answer_of, error_of}

-- A refusal by a shard isn't that all serials are used,
pub not_spent : (why : Refused) → error_of why ≡ answers.Spent → ⊥
not_spent TooLarge same = cc
not_spent CapacityFull same = cc
not_spent OccupancyFull same = cc

-- nor is an answer without a handle,
pub answers_unspent : (answer : Result Inserted Refused)
    → answer_of answer ≡ Err answers.Spent → ⊥
answers_unspent (Ok Placed) same = cc
answers_unspent (Ok Dropped) same = cc
answers_unspent (Err why) same =
    let is : error_of why ≡ answers.Spent = cc in
    not_spent why is

-- or that all handles are held,
pub not_full : (why : Refused) → error_of why ≡ answers.HandlesFull → ⊥
not_full TooLarge same = cc
not_full CapacityFull same = cc
not_full OccupancyFull same = cc

module _ {T : Type 0} where
  -- nor that the charge is too large, where it is not.
  pub not_large : (had has : Bool) (slots capacity : ℕ) (strict : Bool) (draft : Draft) (v w : View
      T)
      (why : Refused) → RefusedBy had has slots capacity strict draft why v w
      → (strict ≡ true → draft.charge ≤ capacity) → error_of why ≡ answers.TooLarge → ⊥
  not_large had has slots capacity strict draft v w TooLarge told small same =
      let above = told.1 in
      let below = small told.0 in
      omega arith
  not_large had has slots capacity strict draft v w CapacityFull told small same = cc
  not_large had has slots capacity strict draft v w OccupancyFull told small same = cc

  -- So it is with answers without a handle.
  pub answers_small : (had has : Bool) (slots capacity : ℕ) (strict : Bool) (draft : Draft) (value :
      List ℕ)
      (v w : View T) (answer : Result Inserted Refused)
      → InsertedBy had has slots capacity strict draft value answer v w
      → (strict ≡ true → draft.charge ≤ capacity) → answer_of answer ≡ Err answers.TooLarge → ⊥
  answers_small had has slots capacity strict draft value v w (Ok Placed) told small same = cc
  answers_small had has slots capacity strict draft value v w (Ok Dropped) told small same = cc
  answers_small had has slots capacity strict draft value v w (Err why) told small same =
      let is : error_of why ≡ answers.TooLarge = cc in
      not_large had has slots capacity strict draft v w why told small is

  module _ (cache : Cache T) (key : Key) (charge : ℕ) (priority : Priority) (value : List ℕ)
      (old new : Client T) where
    -- The answer is told, without a handle
    pub inserts_told : (had has : Bool) (answer : Result Inserted Refused)
        → (answer_of answer ≡ Err answers.TooLarge → ⊥)
        → StoresListed cache key charge priority value had has answer old new
        → InsertsListed cache key charge priority value had has (answer_of answer) old new
    inserts_told had has (Ok Placed) fits stores = stores
    inserts_told had has (Ok Dropped) fits stores = stores
    inserts_told had has (Err TooLarge) fits stores = absurd (fits refl)
    inserts_told had has (Err CapacityFull) fits stores = stores
    inserts_told had has (Err OccupancyFull) fits stores = stores

    -- and the refusal with one.
    pub refuses_told : (had has : Bool) (why : Refused) → (error_of why ≡ answers.TooLarge → ⊥)
        → Fails cache key charge priority value had has why old new
        → RefusesWithListed cache key charge priority value had has (error_of why) old new
    refuses_told had has TooLarge fits fails = absurd (fits refl)
    refuses_told had has CapacityFull fits fails = fails
    refuses_told had has OccupancyFull fits fails = fails

    module _ (fits : T → Key → List ℕ → Type 0) where
      -- So is what it did at its shard.
      pub inserts_did : (had has : Bool) (answer : Result Inserted Refused)
          → (answer_of answer ≡ Err answers.TooLarge → ⊥)
          → StoresAtListed cache fits key charge priority had has answer old new
          → InsertsAtListed cache fits key charge priority had has (answer_of answer) old new
      inserts_did had has (Ok Placed) small did = did
      inserts_did had has (Ok Dropped) small did = did
      inserts_did had has (Err TooLarge) small did = absurd (small refl)
      inserts_did had has (Err CapacityFull) small did = did
      inserts_did had has (Err OccupancyFull) small did = did

      pub refuses_did : (had has : Bool) (why : Refused) → (error_of why ≡ answers.TooLarge → ⊥)
          → PinsAtListed cache fits key charge priority had has (Err why) old new
          → RefusesPinnedAtListed cache fits key charge priority had has (error_of why) old new
      refuses_did had has TooLarge small did = absurd (small refl)
      refuses_did had has CapacityFull small did = did
      refuses_did had has OccupancyFull small did = did

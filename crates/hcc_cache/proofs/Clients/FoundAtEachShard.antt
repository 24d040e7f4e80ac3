-- What a client finds at each shard in turn.
use Rattle.std.proofs.Common.{◌≡◌, ◌⊎◌, inl, inr, ℕ, zero, suc, ◌+◌, ◌≤◌, List, [], ◌∷◌, ◌++◌, Some, length, slice_get, refl, sym, ap, ◌∙◌, arith}
use Rattle.std.proofs.lemmas.Option.{none-some, same_Some, slice_get_within}
use Rattle.std.specs.declared.alloc.Global.{Global}
use Rattle.hcc_core.proofs.SumLemmas.{length-push}
use Rattle.hcc_shard.specs.declared.seat.ShardSeat.{ShardSeat}
use Rattle.hcc_shard.specs.declared.shard.Shard.{Shard}
use Rattle.hcc_cache.specs.declared.cache.Cache.{Cache}
use Rattle.hcc_cache.specs.declared.client.Client.{Client}
use Rattle.hcc_cache.specs.declared.seeded.Seeded.{Seeded}
use Rattle.hcc_cache.specs.Calls.{AtShard}

-- what is read of a list with one more at its end is of the list, or is that one
read_pushed : (xs : List ℕ) (x i y : ℕ) → slice_get (xs ++ x ∷ []) i ≡ Some y
    → (slice_get xs i ≡ Some y) ⊎ ((i ≡ length xs) × (y ≡ x))
read_pushed [] x zero y h = inr (refl, sym (same_Some x y h))
read_pushed [] x (suc i) y h = absurd (none-some y h)
read_pushed (z ∷ xs) x zero y h = inl h
read_pushed (z ∷ xs) x (suc i) y h = elim (read_pushed xs x i y h) [
  | inl e ↦ inl e
  | inr e ↦ inr (ap suc e.0, e.1)
]

module _ {T : Type 0} (cache : Cache T) (Did : Shard (Seeded T) Global → (found : ℕ)
    → (old new : ShardSeat (Seeded T)) → Type 0) where
  -- At each of the first so many shards this was found, and no seat at another changed.
  pub record FindsEach (counts : List ℕ) (old now : Client T) (k : ℕ) : Type 0 where
    pub count : length counts ≡ k
    pub each : (s found : ℕ) → slice_get counts s ≡ Some found
        → AtShard cache (λ shard was is. Did shard found was is) s old now
    pub left : (s : ℕ) → k ≤ s → slice_get now.seats.items s ≡ slice_get old.seats.items s

  pub each_first : (old : Client T) → FindsEach [] old old 0
  each_first old = record {
    count = refl;
    each = λ s found at. absurd (none-some found at);
    left = λ s le. refl;
  }

  pub each_next : (counts : List ℕ) (old now next : Client T) (k found : ℕ)
      → FindsEach counts old now k
      → AtShard cache (λ shard was is. Did shard found was is) k now next
      → ((s : ℕ) → ¬ (s ≡ k) → slice_get next.seats.items s ≡ slice_get now.seats.items s)
      → FindsEach (counts ++ found ∷ []) old next (k + 1)
  each_next counts old now next k found g did others = record {
    count = length-push counts found ∙ ap (λ n. n + 1) g.count;
    each = λ s n at. by s n (read_pushed counts found s n at);
    left = λ s le. others s (λ e. absurd (omega arith)) ∙ g.left s (omega arith);
  }
    where
      here : AtShard cache (λ shard was is. Did shard found was is) k old next
      here = record {
        shard = did.shard;
        was = did.was;
        is = did.is;
        shard_is = did.shard_is;
        seat_was = sym (g.left k (omega arith)) ∙ did.seat_was;
        seat_is = did.seat_is;
        did = did.did;
      }

      by : (s n : ℕ) → (slice_get counts s ≡ Some n) ⊎ ((s ≡ length counts) × (n ≡ found))
          → AtShard cache (λ shard was is. Did shard n was is) s old next
      by s n (inl at) =
          let it = g.each s n at in
          let low = slice_get_within counts s n at in
          let count = g.count in
          record {
            shard = it.shard;
            was = it.was;
            is = it.is;
            shard_is = it.shard_is;
            seat_was = it.seat_was;
            seat_is = others s (λ e. absurd (omega arith)) ∙ it.seat_is;
            did = it.did;
          }
      by s n (inr e) = rw (e.0 ∙ g.count, e.1) here

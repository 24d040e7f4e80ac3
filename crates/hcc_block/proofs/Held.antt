-- What a client holds after a look-up, a reading and a release, and after an insertion.
use Rattle.std.proofs.Common.{◌≡◌, ◌∙◌, ◌⊎◌, ◌==◌, ℕ, false, List, Option, Some, None, Result, Ok, Err, ap, refl, sym, inl, inr, arith}
use Rattle.std.specs.Prelude.{IsSome}
use Rattle.std.proofs.lemmas.Bool.{cases_Bool, eqb-true, eq-eqb}
use Rattle.hcc_rule.specs.declared.key.Key.{Key}
use Rattle.hcc_cache.specs.declared.cache.Cache.{Cache}
use Rattle.hcc_cache.specs.declared.client.Client.{Client}
use Rattle.hcc_cache.specs.declared.errors.InsertError.{InsertError}
use Rattle.hcc_cache.specs.declared.errors.InsertError.TheVariants.{HandlesFull, Spent, TooLarge, CapacityFull, OccupancyFull}
use Rattle.hcc_cache.specs.declared.handle.Handle.{Handle}
use Rattle.hcc_cache.specs.declared.holding.Hold.{Hold}
use Rattle.hcc_cache.specs.declared.inserting.Inserted.{Inserted}
use Rattle.hcc_cache.specs.declared.inserting.Inserted.TheVariants.{Placed, Dropped, Standalone}
use Rattle.hcc_cache.specs.declared.priority.Priority.{Priority}
use Rattle.hcc_cache.specs.Calls.{Gains, KeepsAll, Loses}
use Rattle.hcc_cache.specs.Clients.{Held, Holds, held_as, held_of, hold_of}
use Rattle.hcc_cache.specs.Inserts.{Inserts}
use Rattle.hcc_block.specs.Reads.{HoldsSame}

-- handles that differ in a number
apart : (h k : Handle) (number : Handle → ℕ) → (number h == number k) ≡ false → ¬ (h ≡ k)
apart h k number differ same =
    let equal = eq-eqb (number h) (number k) (ap number same) in cc

-- handles of the same numbers
same_parts : (h k : Handle) → h.client ≡ k.client → h.index ≡ k.index → h.serial ≡ k.serial
    → h ≡ k
same_parts h k client index serial =
    ap (λ x. record h { client = x }) client
    ∙ ap (λ x. record h { client = k.client; index = x }) index
    ∙ ap (λ x. record k { serial = x }) serial

-- A handle is this one or another.
one_or_other : (h k : Handle) → (h ≡ k) ⊎ ¬ (h ≡ k)
one_or_other h k =
    elim (cases_Bool (h.client == k.client)) [
      | inr other ↦ inr (apart h k (λ x. x.client) other)
      | inl client ↦ elim (cases_Bool (h.index == k.index)) [
        | inr other ↦ inr (apart h k (λ x. x.index) other)
        | inl index ↦ elim (cases_Bool (h.serial == k.serial)) [
          | inr other ↦ inr (apart h k (λ x. x.serial) other)
          | inl serial ↦ inl (same_parts h k (eqb-true h.client k.client client)
              (eqb-true h.index k.index index) (eqb-true h.serial k.serial serial))
        ]
      ]
    ]

module _ {T : Type 0} (cache : Cache T) where
  -- A handle that the client doesn't hold stands for nothing.
  stands_not : (client : Client T) (handle : Handle) → hold_of client handle ≡ None
      → held_of cache client handle ≡ None
  stands_not client handle none =
      ap (held_as cache.seed client.seats.items client.alone) none

  -- One that stands for something is held.
  pub holds_what : (client : Client T) (handle : Handle) (held : Held)
      → held_of cache client handle ≡ Some held → Holds client handle
  holds_what client handle held is = by (hold_of client handle) is
    where
      by : (o : Option Hold)
          → held_as cache.seed client.seats.items client.alone o ≡ Some held → IsSome o
      by None is = cc
      by (Some hold) is = refl

  -- A handle that was gained and then lost leaves what the client held.
  pub holds_same : (handle : Handle) (held : Held) (old found was new : Client T)
      → Gains cache handle held old found → KeepsAll cache found was
      → Loses cache handle was new → HoldsSame cache old new
  holds_same handle held old found was new gains keeps loses = record {
    all = λ h. by h (one_or_other h handle);
    count =
        let gained = gains.count in
        let kept = keeps.count in
        let lost = loses.count in
        omega arith;
  }
    where
      by : (h : Handle) → (h ≡ handle) ⊎ ¬ (h ≡ handle)
          → held_of cache new h ≡ held_of cache old h
      by h (inl same) =
          rw same (stands_not new handle loses.gone ∙ sym (stands_not old handle gains.free))
      by h (inr other) = loses.others h other ∙ keeps.all h ∙ gains.others h other

  -- An insertion without a handle leaves what the client holds.
  pub inserts_same : (key : Key) (charge : ℕ) (priority : Priority) (value : List ℕ)
      (answer : Result Inserted InsertError) (old new : Client T)
      → Inserts cache key charge priority value answer old new → HoldsSame cache old new
  inserts_same key charge priority value (Ok Placed) old new h =
      record { all = h.keeps.all; count = h.keeps.count }
  inserts_same key charge priority value (Ok Dropped) old new h =
      record { all = h.keeps.all; count = h.keeps.count }
  inserts_same key charge priority value (Ok Standalone) old new h = absurd h
  inserts_same key charge priority value (Err HandlesFull) old new h = absurd h
  inserts_same key charge priority value (Err Spent) old new h =
      rw h (record { all = λ k. refl; count = refl })
  inserts_same key charge priority value (Err TooLarge) old new h =
      rw h (record { all = λ k. refl; count = refl })
  inserts_same key charge priority value (Err CapacityFull) old new h =
      record { all = h.keeps.all; count = h.keeps.count }
  inserts_same key charge priority value (Err OccupancyFull) old new h =
      record { all = h.keeps.all; count = h.keeps.count }

-- The charges that were counted slot by slot.
use Rattle.std.proofs.Common.{◌≡◌, ℕ, ◌+◌, List, [], ◌∷◌, ◌++◌, length, subst, refl, ap, ◌∙◌, arith}
use Rattle.hcc_core.specs.Sums.{total}
use Rattle.hcc_rule.specs.declared.key.Key.{Key}
use Rattle.hcc_rule.specs.declared.table.RuleTable.{RuleTable}
use Rattle.hcc_rule.specs.Seats.{SeatOf}
use Rattle.hcc_table.specs.declared.efforts.Effort.{Effort}
use Rattle.hcc_table.specs.Pinned.{CountsHeld}
use Rattle.hcc_shard.specs.declared.erasing.TheConstants.{IN_FLIGHT}
use Rattle.hcc_shard.specs.declared.seat.ShardSeat.{ShardSeat}
use Rattle.hcc_shard.specs.Counted.{CountsFrom}
use Rattle.hcc_shard.proofs.Names.{length_more}

module _ {T A : Type 0} (fits : T → Key → List ℕ → Type 0) (table : RuleTable T A) where
  -- The slots below this one were looked at, and their charges make up what the sum has grown by.
  pub record CountedTo (slot before sum : ℕ) (old new : ShardSeat T) : Type 0 where
    pub charges : List ℕ
    pub all : length charges ≡ slot
    pub counts : CountsFrom fits table 0 charges old.effort new.effort old.seat new.seat
    pub sum_is : sum ≡ before + total (λ charge. charge) charges

  -- One slot more was looked at.
  counts_more : (slot charge : ℕ) (charges : List ℕ) (before between after : Effort)
      (old mid new : SeatOf T) → CountsFrom fits table slot charges before between old mid
      → CountsHeld fits table IN_FLIGHT (slot + length charges) charge between after mid new
      → CountsFrom fits table slot (charges ++ charge ∷ []) before after old new
  counts_more slot charge [] before between after old mid new counted held = (
    after,
    new,
    subst (λ e. CountsHeld fits table IN_FLIGHT slot charge e after old new) counted.0
        (subst (λ s. CountsHeld fits table IN_FLIGHT slot charge between after s new) counted.1
        (subst (λ s. CountsHeld fits table IN_FLIGHT s charge between after mid new)
        (omega arith) held)),
    (refl, refl),
  )
  counts_more slot charge (first ∷ more) before between after old mid new counted held = (
    counted.0,
    counted.1,
    counted.2,
    counts_more (slot + 1) charge more counted.0 between after counted.1 mid new counted.3
        (subst (λ s. CountsHeld fits table IN_FLIGHT s charge between after mid new)
        (omega arith) held),
  )

  total_more : (charge : ℕ) (charges : List ℕ)
      → total (λ n. n) (charges ++ charge ∷ []) ≡ total (λ n. n) charges + charge
  total_more charge [] = omega arith
  total_more charge (first ∷ more) = let rest = total_more charge more in omega arith

  -- Before the first slot,
  pub counted_none : (sum : ℕ) (seat : ShardSeat T) → CountedTo 0 sum sum seat seat
  counted_none sum seat = record {
    charges = [];
    all = refl;
    counts = (refl, refl);
    sum_is = omega arith;
  }

  -- and behind one more.
  pub counted_on : (slot before sum charge : ℕ) (old mid new : ShardSeat T)
      → CountedTo slot before sum old mid
      → CountsHeld fits table IN_FLIGHT slot charge mid.effort new.effort mid.seat new.seat
      → CountedTo (slot + 1) before (sum + charge) old new
  counted_on slot before sum charge old mid new counted held = record {
    charges = counted.charges ++ charge ∷ [];
    all = length_more counted.charges charge ∙ ap (λ n. n + 1) counted.all;
    counts =
        counts_more 0 charge counted.charges old.effort mid.effort new.effort old.seat mid.seat
        new.seat counted.counts
        (subst (λ s. CountsHeld fits table IN_FLIGHT s charge mid.effort new.effort mid.seat
        new.seat) (let all = counted.all in omega arith) held);
    sum_is =
        let was = counted.sum_is in
        let more = total_more charge counted.charges in
        omega arith;
  }

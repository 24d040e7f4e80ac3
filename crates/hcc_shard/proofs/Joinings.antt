-- Seats that are joined, one after the other.
use Rattle.std.proofs.Common.{◌≡◌, ℕ, ◌+◌, ◌++◌, List, [], ◌∷◌, Some, is_some, true, length, refl, ap, ◌∙◌, arith}
use Rattle.hcc_core.specs.declared.client.Client.{Client}
use Rattle.hcc_core.specs.Opening.{new_client}
use Rattle.hcc_core.specs.Sums.{when, total}
use Rattle.hcc_rule.specs.declared.view.View.{View}
use Rattle.hcc_rule.specs.Acts.{longer, past}
use Rattle.hcc_rule.specs.Callers.{IsSeatAt, clients_of}
use Rattle.hcc_rule.specs.Between.{IsBetweenCalls}
use Rattle.hcc_rule.specs.Closing.{IsBack}
use Rattle.hcc_rule.specs.Passing.{IsIdle, as_other, joined_view}
use Rattle.hcc_rule.specs.Seats.{SeatOf, IsSameSeat, view}
use Rattle.hcc_rule.specs.Views.{Each, named_by}
use Rattle.hcc_shard.specs.declared.seat.ShardSeat.{ShardSeat}
use Rattle.hcc_shard.specs.declared.shard.Shard.{Shard}
use Rattle.hcc_shard.specs.Closed.{AreBack, HoldsNothing, joined_with, together}
use Rattle.hcc_shard.specs.Ended.{past_of, past_together, past_with}

length_both : {A : Type 0} (xs ys : List A) → length (xs ++ ys) ≡ length xs + length ys
length_both [] ys = omega arith
length_both (x ∷ xs) ys = let rest = length_both xs ys in omega arith

-- A client between calls without standalone entries has nothing in hand.
idle_of : (work : Client) → IsBetweenCalls work → work.standalones ≡ [] → IsIdle work
idle_of work between none =
    between ∙ ap (λ ss. record new_client {
      live = true;
      looked = work.looked;
      standalones = ss;
      stamps = work.stamps;
      dead = work.dead;
    }) none

module _ {T : Type 0} where
  abbrev named_in : List (ShardSeat T) → ℕ
  named_in = total (λ (s : ShardSeat T). named_by (view s.seat))

  -- A seat names its client and those of the other.
  named_more : (v w : View T) (tag : T) → w.tag ≡ Some tag
      → named_by (joined_view v w) ≡ named_by v + named_by w
  named_more v w tag tagged =
      let sum = length_both v.others (as_other w ∷ w.others) in
      let one : when (is_some w.tag) 1 ≡ 1 = ap (λ o. when (is_some o) 1) tagged in
      omega arith

module _ {T A : Type 0} where
  pub idle_held : (shard : Shard T A) (seat : ShardSeat T) → HoldsNothing shard seat
      → IsIdle (view seat.seat).work × ((view seat.seat).records ≡ [])
  idle_held shard seat h =
      (idle_of (view seat.seat).work h.rests.quiet.idle h.standalones, h.records)

  -- those that were joined to the first, and those that are left
  pub record IsJoining (shard : Shard T A) (last : SeatOf T) (all left : List (ShardSeat T))
      : Type 0 where
    pub at : IsSeatAt shard.table last
    pub idle : IsIdle (view last).work
    pub view_is : joined_with (view last) left ≡ together all
    pub past_is : past_with (past last) left ≡ past_together all
    pub named : named_by (view last) + named_in left ≡ clients_of shard.table
    pub later : Each (HoldsNothing shard) left

  pub joins_first : (shard : Shard T A) (first : ShardSeat T) (rest : List (ShardSeat T))
      → AreBack shard (first ∷ rest) → IsJoining shard first.seat (first ∷ rest) rest
  joins_first shard first rest back = record {
    at = back.each.0.rests.at;
    idle = (idle_held shard first back.each.0).0;
    view_is = refl;
    past_is = refl;
    named = back.all;
    later = back.each.1;
  }

  pub joins_on : (shard : Shard T A) (last new : SeatOf T) (all left : List (ShardSeat T))
      (seat : ShardSeat T) → IsJoining shard last all (seat ∷ left) → IsSameSeat last new
      → view new ≡ joined_view (view last) (view seat.seat)
      → past new ≡ longer (past last) (past_of seat) → IsJoining shard new all left
  joins_on shard last new all left seat s same joined passed = record {
    at = record {
      table = same.table ∙ s.at.table;
      slots = same.slots ∙ s.at.slots;
      tagged = ap (λ (v : View T). v.tag) joined ∙ s.at.tagged;
    };
    idle = rw joined s.idle;
    view_is = ap (λ v. joined_with v left) joined ∙ s.view_is;
    past_is = ap (λ h. past_with h left) passed ∙ s.past_is;
    named =
        let more =
        named_more (view last) (view seat.seat) _ s.later.0.rests.at.tagged in
        let before = s.named in
        let now : named_by (view new) ≡ named_by (joined_view (view last) (view seat.seat)) =
        ap named_by joined in
        omega arith;
    later = s.later.1;
  }

  -- All seats are back, and what the last one tells is told of all.
  pub joins_all : (shard : Shard T A) (last : SeatOf T) (all left : List (ShardSeat T))
      → length left ≡ 0 → IsJoining shard last all left
      → IsBack (clients_of shard.table) (view last)
  joins_all shard last all [] none s = record {
    idle = s.idle;
    all = let named = s.named in omega arith;
  }
  joins_all shard last all (seat ∷ seats) none s = absurd (omega arith)

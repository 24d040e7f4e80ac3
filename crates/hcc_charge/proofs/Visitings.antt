-- A turn of the hand, visit by visit.
use Rattle.std.proofs.Common.{◌*◌, ◌≤◌, ◌≡◌, ℕ, ◌+◌, ◌%◌, ◌++◌, List, [], ◌∷◌, length, subst, sym, refl, ap, ◌∙◌, arith}
use Rattle.std.proofs.Math.Nat.{mul-add}
use Rattle.hcc_rule.specs.declared.key.Key.{Key}
use Rattle.hcc_rule.specs.declared.view.Atomic.{Atomic}
use Rattle.hcc_rule.specs.declared.table.RuleTable.{RuleTable}
use Rattle.hcc_rule.specs.Callers.{slots_of}
use Rattle.hcc_rule.specs.Seats.{SeatOf, IsSameSeat, made, steps, view}
use Rattle.hcc_table.specs.declared.efforts.Effort.{Effort}
use Rattle.hcc_table.specs.declared.visiting.ClockVisit.{ClockVisit}
use Rattle.hcc_table.specs.declared.visiting.ClockVisit.TheVariants as visits
use Rattle.hcc_table.specs.Efforts.{Lost}
use Rattle.hcc_table.specs.Erased.{IsAtRest}
use Rattle.hcc_table.specs.Steps.{MakesAtMost, MakesTwo, freeing}
use Rattle.hcc_table.proofs.Finds.{seat_then}
use Rattle.hcc_table.proofs.Rises.{rose_then}
use Rattle.hcc_charge.specs.declared.swept.Swept.{Swept}
use Rattle.hcc_charge.specs.Evicted.{Moved, Sweeps, Turned, VisitedAt, VisitedBy, Visits}
use Rattle.hcc_charge.specs.Swept.{IsModest, both, one_turn, swept_of, with_visits}
use Rattle.hcc_charge.proofs.Sweepings.{modest_both, modest_idle, sweeps_then, sweeps_turned}

-- losses, one after the other
pub lost_then : (a b : ℕ) (old between new : Effort) → Lost a a old between
    → Lost b b between new → Lost (a + b) (a + b) old new
lost_then a b old between new h g = (
  g.0 ∙ h.0,
  g.1 ∙ h.1,
  rose_then a a b b (a + b) (a + b) old.lost between.lost new.lost h.2 g.2 refl refl,
)

pub lost_none : (effort : Effort) → Lost 0 0 effort effort
lost_none effort = (refl, refl, (omega arith, λ low. omega arith, omega arith))

-- a visit more
with_one : (all : Swept) (answers : List ClockVisit) (answer : ClockVisit)
    → with_visits all (answers ++ answer ∷ []) ≡ both (with_visits all answers) (swept_of answer)
with_one all [] answer = refl
with_one all (a ∷ answers) answer = with_one (both all (swept_of a)) answers answer

pub one_longer : {A : Type 0} (xs : List A) (x : A) → length (xs ++ x ∷ []) ≡ length xs + 1
one_longer [] x = refl
one_longer (y ∷ ys) x = let rest = one_longer ys x in omega arith

-- two steps are two more
two_more : {T : Type 0} (one two : Atomic) (a b : SeatOf T) → MakesTwo one two a b
    → made b ≡ made a + 2
two_more one two a b both =
    let first = one_longer (steps a) one in
    let second = one_longer (steps a ++ one ∷ []) two in
    let all : made b ≡ length ((steps a ++ one ∷ []) ++ two ∷ []) = ap length both in
    omega arith

module _ {T A : Type 0} (fits : T → Key → List ℕ → Type 0) (table : RuleTable T A) (loads : ℕ)
  where
    -- A visit makes two steps at most, but where it frees a slot.
    pub visit_few : (slot : ℕ) (answer : ClockVisit) (a b : SeatOf T)
        → VisitedAt fits table slot answer a b → MakesAtMost (freeing (slots_of table) + loads + 1)
        a b
        → MakesAtMost (2 + (slots_of table + loads + 4) * (swept_of answer).slots) a b
    visit_few slot visits.Passed a b h few = let one = h.1.one in omega arith
    visit_few slot visits.Pinned a b h few = let one = h.1.one in omega arith
    visit_few slot visits.Counted a b h few =
        let two = two_more _ _ a b h.1 in
        omega arith
    visit_few slot visits.Lost a b h few =
        let two = two_more _ _ a b h.4 in
        omega arith
    visit_few slot (visits.Freed charge hit) a b h few = omega arith

    visits_then : (from : ℕ) (answers : List ClockVisit) (answer : ClockVisit) (a b c : SeatOf T)
        → Visits fits table from answers a b
        → VisitedAt fits table ((from + length answers) % slots_of table) answer b c
        → Visits fits table from (answers ++ answer ∷ []) a c
    visits_then from [] answer a b c none h = (
      c,
      subst (λ z. VisitedAt fits table (from % slots_of table) answer z c) none
          (subst (λ n. VisitedAt fits table (n % slots_of table) answer b c) bare h),
      refl,
    )
      where
        bare : from + 0 ≡ from
        bare = omega arith
    visits_then from (first ∷ answers) answer a b c before h = (
      before.0,
      before.1,
      visits_then (from + 1) answers answer before.0 b c before.2
          (subst (λ n. VisitedAt fits table (n % slots_of table) answer b c) shifted h),
    )
      where
        shifted : from + length (first ∷ answers) ≡ from + 1 + length answers
        shifted = omega arith

    -- A turn that found the hand at this slot, and made so many visits.
    pub record IsTurning (hand k : ℕ) (all : Swept) (old now : SeatOf T) (before after : Effort)
        : Type 0 where
      pub same : IsSameSeat old now
      pub swept : Sweeps 1 all.slots all.charge (view old) (view now)
      pub modest : IsModest k all
      pub one : all.turns ≡ 1
      pub effort : Lost all.lost all.lost before after
      pub turned : SeatOf T
      pub moved : Moved table hand old turned
      pub answers : List ClockVisit
      pub count : length answers ≡ k
      pub visits : Visits fits table (hand % slots_of table) answers turned now
      pub sum : all ≡ with_visits one_turn answers
      pub few : made now ≤ made old + 2 * k + (slots_of table + loads + 4) * all.slots + 1

    -- It begins,
    pub turning_begins : (hand : ℕ) (old now : SeatOf T) (effort : Effort) → IsSameSeat old now
        → IsAtRest (view old) → Moved table hand old now
        → IsTurning hand 0 one_turn old now effort effort
    turning_begins hand old now effort same rest moved = record {
      same = same;
      swept = sweeps_turned (view old) (view now) rest moved.view;
      modest = modest_idle 0 1 0 0 (omega arith) (omega arith);
      one = refl;
      effort = lost_none effort;
      turned = now;
      moved = moved;
      answers = [];
      count = refl;
      visits = refl;
      sum = refl;
      few = let one = moved.step.one in omega arith;
    }

    -- goes on,
    pub turning_on : (hand k slot : ℕ) (all here next : Swept) (old now new : SeatOf T)
        (before after then : Effort) → IsTurning hand k all old now before after
        → slot ≡ (hand % slots_of table + k) % slots_of table → IsSameSeat now new
        → Sweeps 0 here.slots here.charge (view now) (view new)
        → VisitedBy fits table slot here now new → here.turns ≡ 0
        → IsModest 1 here → Lost here.lost here.lost after then → next ≡ both all here
        → MakesAtMost (2 + (slots_of table + loads + 4) * here.slots) now new
        → IsTurning hand (k + 1) next old new before then
    turning_on hand k slot all here next old now new before after then t at same swept visited none
        modest effort sum steps =
        subst (λ z. IsTurning hand (k + 1) z old new before then) (sym sum) (record {
          same = seat_then old now new t.same same;
          swept =
              sweeps_then 1 all.slots all.charge 0 here.slots here.charge
              (view old) (view now) (view new) t.swept swept;
          modest = modest_both k 1 all here t.modest modest;
          one = let was = t.one in omega arith;
          effort = lost_then all.lost here.lost before after then t.effort effort;
          turned = t.turned;
          moved = t.moved;
          answers = t.answers ++ visited.answer ∷ [];
          count = one_longer t.answers visited.answer ∙ ap (λ n. n + 1) t.count;
          visits =
              visits_then (hand % slots_of table) t.answers visited.answer t.turned now new t.visits
              (subst (λ n. VisitedAt fits table n visited.answer now new) place visited.visited);
          sum =
              ap (λ (z : Swept). both z here) t.sum
              ∙ (ap (both (with_visits one_turn t.answers)) visited.is
              ∙ sym (with_one one_turn t.answers visited.answer));
          few =
              let was = t.few in
              omega (arith, mul-add (slots_of table + loads + 4) all.slots here.slots);
        })
      where
        place : slot ≡ (hand % slots_of table + length t.answers) % slots_of table
        place = at ∙ ap (λ n. (hand % slots_of table + n) % slots_of table) (sym t.count)

    -- and ends.
    pub turning_ends : (hand : ℕ) (all : Swept) (old now : SeatOf T) (before after : Effort)
        → IsTurning hand 4 all old now before after → Turned fits table all old now
    turning_ends hand all old now before after t = record {
      hand = hand;
      b = t.turned;
      moved = t.moved;
      answers = t.answers;
      four = t.count;
      visits = t.visits;
      sum = t.sum;
    }

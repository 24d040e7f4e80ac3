-- An eviction, turn by turn.
use Rattle.std.proofs.Common.{◌≡◌, ℕ, ◌+◌, ◌*◌, ◌^◌, ◌<◌, ◌≤◌, ◌==◌, ◌++◌, Bool, true, false, List, [], ◌∷◌, length, subst, sym, refl, ap, ◌∙◌, arith}
use Rattle.std.proofs.Math.Nat.{mul-add}
use Rattle.std.proofs.lemmas.Bool.{eqb-false, leb-false, or_parts}
use Rattle.hcc_rule.specs.declared.key.Key.{Key}
use Rattle.hcc_rule.specs.declared.table.RuleTable.{RuleTable}
use Rattle.hcc_rule.specs.Callers.{slots_of}
use Rattle.hcc_rule.specs.Seats.{SeatOf, IsSameSeat, made, view}
use Rattle.hcc_table.specs.declared.efforts.Effort.{Effort}
use Rattle.hcc_table.specs.Efforts.{Lost}
use Rattle.hcc_table.specs.Erased.{IsAtRest}
use Rattle.hcc_table.specs.Steps.{MakesAtMost}
use Rattle.hcc_table.proofs.Finds.{seat_then}
use Rattle.hcc_table.proofs.Probings.{split_last}
use Rattle.hcc_charge.specs.declared.swept.Swept.{Swept}
use Rattle.hcc_charge.specs.Evicted.{Evicts, GoesOn, Sweeps, Turned, Turns, has_ended, is_enough, most_turns, sweeping}
use Rattle.hcc_charge.specs.Swept.{IsModest, both, nothing_swept, with_turns}
use Rattle.hcc_charge.proofs.Sweepings.{modest_both, modest_idle, sweeps_none, sweeps_then}
use Rattle.hcc_charge.proofs.Visitings.{lost_none, lost_then, one_longer}

-- a turn more
with_one : (all : Swept) (turns : List Swept) (turn : Swept)
    → with_turns all (turns ++ turn ∷ []) ≡ both (with_turns all turns) turn
with_one all [] turn = refl
with_one all (t ∷ turns) turn = with_one (both all t) turns turn

goes_on : (ask : ℕ) (all : Swept) (turns : List Swept) (turn : Swept) → GoesOn ask all turns
    → is_enough ask (with_turns all (turns ++ turn ∷ [])) ≡ false
    → GoesOn ask all (turns ++ turn ∷ [])
goes_on ask all [] turn before h = (h, tt)
goes_on ask all (t ∷ turns) turn before h =
    (before.0, goes_on ask (both all t) turns turn before.1 h)

goes_front : (ask : ℕ) (all : Swept) (turns : List Swept) (turn : Swept)
    → GoesOn ask all (turns ++ turn ∷ []) → GoesOn ask all turns
goes_front ask all [] turn h = tt
goes_front ask all (t ∷ turns) turn h = (h.0, goes_front ask (both all t) turns turn h.1)

module _ {T A : Type 0} (fits : T → Key → List ℕ → Type 0) (table : RuleTable T A) (ask loads : ℕ)
  where
    turns_then : (before : List Swept) (turn : Swept) (a b c : SeatOf T)
        → Turns fits table before a b → Turned fits table turn b c
        → Turns fits table (before ++ turn ∷ []) a c
    turns_then [] turn a b c none h =
        (c, subst (λ z. Turned fits table turn z c) none h, refl)
    turns_then (t ∷ before) turn a b c first h =
        (first.0, first.1, turns_then before turn first.0 b c first.2 h)

    -- An eviction that has not ended.
    pub record IsGoing (all : Swept) (old now : SeatOf T) (first last : Effort) : Type 0 where
      pub same : IsSameSeat old now
      pub swept : Sweeps all.turns all.slots all.charge (view old) (view now)
      pub modest : IsModest (4 * all.turns) all
      pub effort : Lost all.lost all.lost first last
      pub charge : all.charge ≤ ask
      pub few : all.turns < most_turns (slots_of table)
      pub before : List Swept
      pub turns : Turns fits table before old now
      pub sum : all ≡ with_turns nothing_swept before
      pub count : all.turns ≡ length before
      pub steps : made now ≤ made old + sweeping (slots_of table + loads) all.turns all.slots
      pub goes_on : GoesOn ask nothing_swept before

    -- One that made a turn more.
    pub record HasTurned (all : Swept) (old now : SeatOf T) (start end : Effort) : Type 0 where
      pub same : IsSameSeat old now
      pub swept : Sweeps all.turns all.slots all.charge (view old) (view now)
      pub modest : IsModest (4 * all.turns) all
      pub effort : Lost all.lost all.lost start end
      pub charge : all.charge ≤ ask + 4 * 2 ^ 32
      pub some : 1 ≤ all.turns
      pub few : all.turns ≤ most_turns (slots_of table)
      pub before : List Swept
      pub last : Swept
      pub turns : Turns fits table (before ++ last ∷ []) old now
      pub sum : all ≡ with_turns nothing_swept (before ++ last ∷ [])
      pub count : all.turns ≡ length before + 1
      pub steps : made now ≤ made old + sweeping (slots_of table + loads) all.turns all.slots
      pub goes_on : GoesOn ask nothing_swept before

    pub going_begins : (seat : SeatOf T) (effort : Effort) → IsAtRest (view seat)
        → IsGoing nothing_swept seat seat effort effort
    going_begins seat effort rest = record {
      same = record { table = refl; number = refl; slots = refl };
      swept = sweeps_none (view seat) rest;
      modest = modest_idle 0 0 0 0 (omega arith) (omega arith);
      effort = lost_none effort;
      charge = omega arith;
      few = omega arith;
      before = [];
      turns = refl;
      sum = refl;
      count = refl;
      steps = omega arith;
      goes_on = tt;
    }

    pub going_turned : (all here next : Swept) (old now new : SeatOf T) (first last then : Effort)
        → IsGoing all old now first last → IsSameSeat now new
        → Sweeps 1 here.slots here.charge (view now) (view new)
        → Turned fits table here now new → here.turns ≡ 1 → IsModest 4 here
        → Lost here.lost here.lost last then → next ≡ both all here
        → MakesAtMost (sweeping (slots_of table + loads) 1 here.slots) now new
        → HasTurned next old new first then
    going_turned all here next old now new first last then g same swept turned one modest effort sum
        few =
        subst (λ z. HasTurned z old new first then) (sym sum) (record {
          same = seat_then old now new g.same same;
          swept =
              sweeps_then all.turns all.slots all.charge here.turns here.slots here.charge
              (view old) (view now) (view new) g.swept
              (subst (λ n. Sweeps n here.slots here.charge (view now) (view new)) (sym one) swept);
          modest =
              subst (λ n. IsModest n (both all here)) visits
              (modest_both (4 * all.turns) 4 all here g.modest modest);
          effort = lost_then all.lost here.lost first last then g.effort effort;
          charge =
              let low = g.charge in
              let little = modest.charge in
              let four = modest.slots in
              omega arith;
          some = omega arith;
          few = let less = g.few in omega arith;
          before = g.before;
          last = here;
          turns =
              turns_then g.before here old now new g.turns turned;
          sum =
              ap (λ (z : Swept). both z here) g.sum ∙ sym (with_one nothing_swept g.before here);
          count = let so_far = g.count in omega arith;
          steps =
              let was = g.steps in
              omega (arith, mul-add (slots_of table + loads + 4) all.slots here.slots);
          goes_on = g.goes_on;
        })
      where
        visits : 4 * all.turns + 4 ≡ 4 * (all.turns + here.turns)
        visits = omega arith

    -- It goes on where it hasn't ended,
    pub turned_on : (all : Swept) (old now : SeatOf T) (first last : Effort)
        → HasTurned all old now first last → has_ended (slots_of table) ask all ≡ false
        → IsGoing all old now first last
    turned_on all old now first last t unended = record {
      same = t.same;
      swept = t.swept;
      modest = t.modest;
      effort = t.effort;
      charge =
          let low = leb-false ask all.charge (or_parts _ _ not_enough).0 in
          omega arith;
      few = less;
      before = t.before ++ t.last ∷ [];
      turns = t.turns;
      sum = t.sum;
      count = t.count ∙ sym (one_longer t.before t.last);
      steps = t.steps;
      goes_on =
          goes_on ask nothing_swept t.before t.last t.goes_on
          (subst (λ z. is_enough ask z ≡ false) t.sum not_enough);
    }
      where
        not_enough : is_enough ask all ≡ false
        not_enough =
            (or_parts (is_enough ask all) (all.turns == most_turns (slots_of table)) unended).0

        less : all.turns < most_turns (slots_of table)
        less =
            let most = t.few in
            let other =
            eqb-false all.turns (most_turns (slots_of table))
            (or_parts (is_enough ask all) (all.turns == most_turns (slots_of table)) unended).1 in
            omega arith

    -- and ends where it has,
    pub turned_ends : (room : Bool) (all : Swept) (old now : SeatOf T) (first last : Effort)
        → HasTurned all old now first last → has_ended (slots_of table) ask all ≡ true
        → Evicts fits table room ask all old now
    turned_ends room all old now first last t ended = record {
      before = t.before;
      last = t.last;
      turns = t.turns;
      sum = t.sum;
      goes_on = t.goes_on;
      ends = λ _. ended;
    }

    -- Where no turn was made nothing was done.
    pub going_unmade : (all : Swept) (old now : SeatOf T) (first last : Effort)
        → IsGoing all old now first last → all.turns ≡ 0 → (all ≡ nothing_swept) × (now ≡ old)
    going_unmade all old now first last g none = by g.before g.count g.sum g.turns
      where
        by : (before : List Swept) → all.turns ≡ length before
            → all ≡ with_turns nothing_swept before → Turns fits table before old now
            → (all ≡ nothing_swept) × (now ≡ old)
        by [] count sum turns = (sum, turns)
        by (t ∷ ts) count sum turns = absurd (omega (arith, count, none))

    -- or where the list has no more room for a turn.
    pub going_ends : (room : Bool) (all : Swept) (old now : SeatOf T) (first last : Effort)
        → IsGoing all old now first last → 1 ≤ all.turns → room ≡ false
        → Evicts fits table room ask all old now
    going_ends room all old now first last g some full = record {
      before = split.0;
      last = split.1;
      turns = subst (λ ts. Turns fits table ts old now) split.2 g.turns;
      sum = g.sum ∙ ap (with_turns nothing_swept) split.2;
      goes_on =
          goes_front ask nothing_swept split.0 split.1
          (subst (λ ts. GoesOn ask nothing_swept ts) split.2 g.goes_on);
      ends = λ has. absurd (let no : true ≡ false = sym has ∙ full in cc);
    }
      where
        split : (before : List Swept) × (last : Swept) × (g.before ≡ before ++ last ∷ [])
        split = split_last g.before (let long = g.count in omega (arith, long, some))

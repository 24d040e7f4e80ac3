-- The charges of the entries that a client holds, slot by slot.
use Rattle.std.proofs.Common.{◌≡◌, ◌≢◌, ℕ, ◌+◌, ◌*◌, ◌^◌, ◌<◌, ◌≤◌, not, nat_lt, cond, Bool, true, false, List, [], ◌∷◌, Option, Some, None, sym, subst, refl, ap, ◌∙◌, arith, eqb-true}
use Rattle.std.specs.List.{find}
use Rattle.std.proofs.lemmas.Bool.{lt-ltb, le-ltb, ltb-true, ltb-false, ne_eqb, eqb-false}
use Rattle.hcc_core.specs.Sums.{when, total}
use Rattle.hcc_rule.specs.declared.geometry.Geometry.{Geometry}
use Rattle.hcc_rule.specs.declared.view.Record.{Record}
use Rattle.hcc_rule.specs.Seats.{IsSameSeat, made, view}
use Rattle.hcc_rule.specs.Views.{Each, is_on}
use Rattle.hcc_rule.specs.Records.{different, off, weight_on}
use Rattle.hcc_table.specs.declared.efforts.Effort.{Effort}
use Rattle.hcc_table.specs.Efforts.{Took}
use Rattle.hcc_table.specs.Rises.{Rose}
use Rattle.hcc_table.specs.Searched.{Sought}
use Rattle.hcc_table.specs.Steps.{MakesAtMost}
use Rattle.hcc_table.proofs.Finds.{seat_then}
use Rattle.hcc_table.proofs.Searches.{searched_refl, sought_then}
use Rattle.hcc_shard.specs.declared.seat.ShardSeat.{ShardSeat}
use Rattle.hcc_shard.specs.Counted.{SameEvictions}
use Rattle.hcc_shard.specs.Seated.{IsKept}
use Rattle.hcc_shard.proofs.Names.{each_as}

-- what a record on this slot is charged, and one on a slot before it
abbrev charge_on : ℕ → Record → ℕ
charge_on k r = when (is_on k r) r.entry.charge

abbrev charge_before : ℕ → Record → ℕ
charge_before k r = when (nat_lt r.slot k) r.entry.charge

abbrev pub charge_of : Record → ℕ
charge_of r = r.entry.charge

off_same : (k : ℕ) (rs : List Record) → total (charge_on k) (off k rs) ≡ 0
off_same k [] = refl
off_same k (r ∷ rs) = by (is_on k r) refl (off_same k rs)
  where
    by : (b : Bool) → is_on k r ≡ b → total (charge_on k) (off k rs) ≡ 0
        → total (charge_on k) (cond (not b) (r ∷ off k rs) (off k rs)) ≡ 0
    by true is rest = rest
    by false is rest =
        let none : when (is_on k r) r.entry.charge ≡ 0 =
        ap (λ b. when b r.entry.charge) is in omega arith

off_other : (k s : ℕ) (rs : List Record) → s ≢ k
    → total (charge_on k) (off s rs) ≡ total (charge_on k) rs
off_other k s [] other = refl
off_other k s (r ∷ rs) other = by (is_on s r) refl (off_other k s rs other)
  where
    by : (b : Bool) → is_on s r ≡ b → total (charge_on k) (off s rs) ≡ total (charge_on k) rs
        → total (charge_on k) (cond (not b) (r ∷ off s rs) (off s rs)) ≡ charge_on k r + total
        (charge_on k) rs
    by true is rest =
        let there : r.slot ≡ s = eqb-true r.slot s is in
        let away : is_on k r ≡ false = ne_eqb r.slot k (λ same. other (sym there ∙ same)) in
        let none : when (is_on k r) r.entry.charge ≡ 0 = ap (λ b. when b r.entry.charge) away in
        omega arith
    by false is rest = omega arith

-- the charge of the first record on a slot
abbrev charged : Option Record → ℕ
charged None = 0
charged (Some r) = r.entry.charge

total_on : (k : ℕ) (rs : List Record)
    → total (charge_on k) (different rs) ≡ charged (find (is_on k) rs)
total_on k [] = refl
total_on k (r ∷ rs) = by (is_on k r) refl (total_on k rs)
  where
    by : (b : Bool) → is_on k r ≡ b
        → total (charge_on k) (different rs) ≡ charged (find (is_on k) rs)
        → charge_on k r + total (charge_on k) (off r.slot (different rs)) ≡ charged (cond b
        (Some r) (find (is_on k) rs))
    by true is rest =
        let there : r.slot ≡ k = eqb-true r.slot k is in
        let gone : total (charge_on k) (off r.slot (different rs)) ≡ 0 =
        ap (λ s. total (charge_on k) (off s (different rs))) there
        ∙ off_same k (different rs) in
        let own : when (is_on k r) r.entry.charge ≡ r.entry.charge = ap
        (λ b. when b r.entry.charge) is in
        omega arith
    by false is rest =
        let left = off_other k r.slot (different rs) (eqb-false r.slot k is) in
        let none : when (is_on k r) r.entry.charge ≡ 0 = ap (λ b. when b r.entry.charge) is in
        omega arith

-- what holds of each record holds of the first of each slot
off_each : (P : Record → Type 0) (slot : ℕ) (rs : List Record) → Each P rs → Each P (off slot rs)
off_each P slot [] h = tt
off_each P slot (q ∷ qs) h = by (is_on slot q) (off_each P slot qs h.1)
  where
    by : (b : Bool) → Each P (off slot qs) → Each P (cond (not b) (q ∷ off slot qs) (off slot qs))
    by true later = later
    by false later = (h.0, later)

different_each : (P : Record → Type 0) (rs : List Record) → Each P rs → Each P (different rs)
different_each P [] h = tt
different_each P (r ∷ rs) h = (h.0, off_each P r.slot (different rs) (different_each P rs h.1))

-- what weighs on a slot
weight_none : (k : ℕ) (rs : List Record) → find (is_on k) rs ≡ None → weight_on k rs ≡ 0
weight_none k [] none = refl
weight_none k (r ∷ rs) none = by (is_on k r) refl (weight_none k rs) none
  where
    by : (b : Bool) → is_on k r ≡ b → (find (is_on k) rs ≡ None → weight_on k rs ≡ 0)
        → cond b (Some r) (find (is_on k) rs) ≡ None
        → when (is_on k r) r.weight + weight_on k rs ≡ 0
    by true is later none = cc
    by false is later none =
        let rest = later none in
        let bare : when (is_on k r) r.weight ≡ 0 = ap (λ b. when b r.weight) is in
        omega arith

weight_some : (k : ℕ) (rs : List Record) (r : Record) → find (is_on k) rs ≡ Some r
    → Each (λ (q : Record). 0 < q.weight) rs
    → 0 < weight_on k rs
weight_some k [] r some each = cc
weight_some k (q ∷ qs) r some each =
    by (is_on k q) refl (λ there. weight_some k qs r there each.1) some
  where
    by : (b : Bool) → is_on k q ≡ b → (find (is_on k) qs ≡ Some r → 0 < weight_on k qs)
        → cond b (Some q) (find (is_on k) qs) ≡ Some r
        → 0 < when (is_on k q) q.weight + weight_on k qs
    by true is later some =
        let own : when (is_on k q) q.weight ≡ q.weight = ap (λ b. when b q.weight) is in
        let heavy = each.0 in
        omega arith
    by false is later some = let rest = later some in omega arith

-- the record that is found is one of them
found_each : (P : Record → Type 0) (k : ℕ) (rs : List Record) (r : Record)
    → find (is_on k) rs ≡ Some r
    → Each (λ (q : Record). q.slot ≡ k → P q) rs → P r
found_each P k [] r some each = cc
found_each P k (q ∷ qs) r some each =
    by (is_on k q) refl (λ there. found_each P k qs r there each.1) some
  where
    by : (b : Bool) → is_on k q ≡ b → (find (is_on k) qs ≡ Some r → P r) → cond b (Some q)
        (find (is_on k) qs) ≡ Some r → P r
    by true is later some = let same : q ≡ r = cc in subst P same (each.0 (eqb-true q.slot k is))
    by false is later some = later some

-- One slot more.
before_next : (k : ℕ) (rs : List Record)
    → total (charge_before (k + 1)) rs ≡ total (charge_before k) rs + total (charge_on k) rs
before_next k [] = refl
before_next k (r ∷ rs) = let first = one in let rest = before_next k rs in omega arith
  where
    by : (a b c : Bool) → (n : ℕ) → nat_lt r.slot
        (k + 1) ≡ a → nat_lt r.slot k ≡ b → is_on k r ≡ c → when a n ≡ when b n + when c n
        → when (nat_lt r.slot (k + 1)) n ≡ when (nat_lt r.slot k) n + when (is_on k r) n
    by a b c n x y z same = ap (λ q. when q n) x ∙ (same ∙ λ j. when (sym y j) n + when (sym z j) n)

    one : charge_before (k + 1) r ≡ charge_before k r + charge_on k r
    one = cases (nat_lt r.slot k) (is_on k r) refl refl
      where
        cases : (b c : Bool) → nat_lt r.slot k ≡ b → is_on k r ≡ c
            → charge_before (k + 1) r ≡ charge_before k r + charge_on k r
        cases true true y z =
            let lower : r.slot < k = ltb-true r.slot k y in
            let there : r.slot ≡ k = eqb-true r.slot k z in
            absurd (omega arith)
        cases true false y z =
            let lower : r.slot < k = ltb-true r.slot k y in
            by true true false r.entry.charge (lt-ltb r.slot (k + 1) (omega arith)) y z
            (omega arith)
        cases false true y z =
            let there : r.slot ≡ k = eqb-true r.slot k z in
            by true false true r.entry.charge (lt-ltb r.slot (k + 1) (omega arith)) y z
            (omega arith)
        cases false false y z =
            let above : k ≤ r.slot = ltb-false r.slot k y in
            let other = eqb-false r.slot k z in
            by false false false r.entry.charge (le-ltb r.slot (k + 1) (omega arith)) y z
            (omega arith)

before_none : (rs : List Record) → total (charge_before 0) rs ≡ 0
before_none [] = refl
before_none (r ∷ rs) =
    let rest = before_none rs in
    let none : when (nat_lt r.slot 0) r.entry.charge ≡ 0 =
    ap (λ b. when b r.entry.charge) (le-ltb r.slot 0 (omega arith)) in
    omega arith

before_all : (k : ℕ) (rs : List Record) → Each (λ (r : Record). r.slot < k) rs
    → total (charge_before k) rs ≡ total charge_of rs
before_all k [] each = refl
before_all k (r ∷ rs) each =
    let rest = before_all k rs each.1 in
    let own : when (nat_lt r.slot k) r.entry.charge ≡ r.entry.charge =
    ap (λ b. when b r.entry.charge) (lt-ltb r.slot k each.0) in
    omega arith

-- how a count rises twice
pub rose_then : (a b old mid new : ℕ) → Rose 0 a old mid → Rose 0 b mid new → Rose 0 (a + b) old new
rose_then a b old mid new h g =
    let low = h.0 in
    let lower = g.0 in
    let most = h.2 in
    let more = g.2 in
    (omega arith, (λ end. (omega arith)), omega arith)

took_none : (e : Effort) → Took 0 0 0 e e
took_none e = (rose_none e.probes, rose_none e.corrections, rose_none e.lost)
  where
    rose_none : (n : ℕ) → Rose 0 0 n n
    rose_none n = (omega arith, (λ end. (omega arith)), omega arith)

pub took_then : (a b : ℕ) (old mid new : Effort) → Took 0 0 a old mid → Took 0 0 b mid new
    → Took 0 0 (a + b) old new
took_then a b old mid new h g = (
  rose_then 0 0 old.probes mid.probes new.probes h.0 g.0,
  rose_then a b old.corrections mid.corrections new.corrections h.1 g.1,
  rose_then a b old.lost mid.lost new.lost h.2 g.2,
)

module _ {T : Type 0} where
  -- The slots before this one were summed up.
  pub record IsPinning (clients standing k sum : ℕ) (old now : ShardSeat T) : Type 0 where
    pub same : IsSameSeat old.seat now.seat
    pub client : now.client ≡ old.client
    pub sought : Sought (view old.seat) (view now.seat)
    pub least : standing + total (charge_before k) (different (view old.seat).records) ≤ sum
    pub most : sum ≤ standing + k * 2 ^ 32
    pub alone : clients ≡ 1
        → sum ≡ standing + total (charge_before k) (different (view old.seat).records)
    pub effort : Took 0 0 k old.effort now.effort
    pub counts : SameEvictions old now
    pub steps : made now.seat ≤ made old.seat + 1 + 5 * k

  pub pins_none : (clients standing : ℕ) (old now : ShardSeat T) → IsSameSeat old.seat now.seat
      → now.client ≡ old.client → view now.seat ≡ view old.seat → now.effort ≡ old.effort
      → SameEvictions old now → MakesAtMost 1 old.seat now.seat
      → IsPinning clients standing 0 standing old now
  pins_none clients standing old now same client kept effort counts steps =
      let none = before_none (different (view old.seat).records) in record {
        same = same;
        client = client;
        sought = rw kept (searched_refl (view old.seat));
        least = omega arith;
        most = omega arith;
        alone = λ one. (omega arith);
        effort = rw effort (took_none old.effort);
        counts = counts;
        steps = omega arith;
      }

  module _ (clients standing k sum : ℕ) (geometry : Geometry) (old now new : ShardSeat T)
      (s : IsPinning clients standing k sum old now) (n : ℕ)
      (kept : Each (IsKept geometry) (view old.seat).records)
      (held : 0 < weight_on k (view now.seat).records
      → Each (λ (r : Record). r.slot ≡ k → n ≡ r.entry.charge) (view now.seat).records)
      (bare : clients ≡ 1 → weight_on k (view now.seat).records ≡ 0 → n ≡ 0)
      (small : n < 2 ^ 32) where
    abbrev rs : List Record
    rs = (view old.seat).records

    heavy : Each (λ (r : Record). 0 < r.weight) rs
    heavy =
        each_as (IsKept geometry) (λ (r : Record). 0 < r.weight)
        (λ r at. (let one = at.single in omega arith)) rs kept

    told : (f : Option Record) → find (is_on k) rs ≡ f
        → (charged f ≤ n) × (clients ≡ 1 → n ≡ charged f)
    told None is = (
      omega arith,
      λ one. bare one (ap (weight_on k) s.sought.records ∙ weight_none k rs is),
    )
    told (Some r) is =
        let weight : 0 < weight_on k (view now.seat).records =
        subst (λ z. 0 < weight_on k z) (sym s.sought.records) (weight_some k rs r is heavy) in
        let each : Each (λ (q : Record). q.slot ≡ k → n ≡ q.entry.charge) rs =
        subst (λ z. Each (λ (q : Record). q.slot ≡ k → n ≡ q.entry.charge) z) s.sought.records
        (held weight) in
        let same : n ≡ r.entry.charge = found_each (λ q. n ≡ q.entry.charge) k rs r is each in
        (omega arith, λ one. same)

    pub pins_on : IsSameSeat now.seat new.seat → new.client ≡ now.client
        → Sought (view now.seat) (view new.seat) → Took 0 0 1 now.effort new.effort
        → SameEvictions now new → MakesAtMost 5 now.seat new.seat
        → IsPinning clients standing (k + 1) (sum + n) old new
    pins_on same client then effort counts steps =
        let at = told (find (is_on k) rs) refl in
        let slot = total_on k rs in
        let next = before_next k (different rs) in
        let least = s.least in
        let most = s.most in
        let covers = at.0 in
        let before = s.steps in record {
          same = seat_then old.seat now.seat new.seat s.same same;
          client = client ∙ s.client;
          sought = sought_then (view old.seat) (view now.seat) (view new.seat) s.sought then;
          least = omega arith;
          most = omega arith;
          alone = λ one. (let exact = at.1 one in let sofar = s.alone one in omega arith);
          effort = took_then k 1 old.effort now.effort new.effort s.effort effort;
          counts = (counts.0 ∙ s.counts.0, counts.1 ∙ s.counts.1);
          steps = omega arith;
        }

  -- All slots were.
  pub pins_all : (clients standing sum : ℕ) (geometry : Geometry) (old now : ShardSeat T)
      → IsPinning clients standing geometry.slots sum old now
      → Each (IsKept geometry) (view old.seat).records
      → (standing + total charge_of (different (view old.seat).records) ≤ sum)
      × (clients ≡ 1 → sum ≡ standing + total charge_of (different (view old.seat).records))
  pins_all clients standing sum geometry old now s kept =
      let rs = (view old.seat).records in
      let within = each_as (IsKept geometry) (λ (r : Record). r.slot < geometry.slots)
      (λ r at. at.on) rs kept in
      let all = before_all geometry.slots (different rs)
      (different_each (λ (r : Record). r.slot < geometry.slots) rs within) in
      let least = s.least in
      (omega arith, λ one. (let exact = s.alone one in omega arith))

-- Hiding over the probes of a key, one after the other.
use Rattle.std.proofs.Common.{◌≡◌, ℕ, zero, suc, ◌+◌, ◌-◌, ◌*◌, ◌%◌, ◌^◌, ◌<◌, ◌≤◌, ◌++◌, ◌∷◌, replicate, subst, refl, ap, ◌∙◌, bit_and, bit_or, arith, append_assoc}
use Rattle.hcc_core.specs.declared.limits.TheConstants.{MOST_SLOTS}
use Rattle.hcc_core.specs.World.{times}
use Rattle.hcc_rule.specs.declared.key.Key.{Key}
use Rattle.hcc_rule.specs.declared.view.Record.{Record}
use Rattle.hcc_rule.specs.declared.view.View.{View}
use Rattle.hcc_rule.specs.Probes.{probe_slot, trail_to}
use Rattle.hcc_rule.specs.Seats.{SeatOf, IsSameSeat, view}
use Rattle.hcc_rule.specs.Views.{Each}
use Rattle.hcc_rule.specs.Words.{key_of}
use Rattle.hcc_rule.proofs.Probes.ProbeLaws.{first_masked, next_masked}
use Rattle.hcc_table.specs.declared.hiding.Erased.{Erased}
use Rattle.hcc_table.specs.declared.walk.Walk.{Walk}
use Rattle.hcc_table.specs.Erased.{Erases, IsAtRest, IsErased}
use Rattle.hcc_table.specs.Searched.{Buried, AllDead, IsBefore, is_key}
use Rattle.hcc_table.proofs.Erasures.{erases_then, erased_none}
use Rattle.hcc_table.proofs.Finds.{IsAt, seat_then, buried_none, buried_more, ended, all_seen}
use Rattle.hcc_table.proofs.Searches.{searched_refl}
use Rattle.hcc_core.specs.Sums.{when}
use Rattle.hcc_core.proofs.SumLemmas.{total-append}

replicated : (key : Key) (m n : ℕ) → replicate m key ++ replicate n key ≡ replicate (m + n) key
replicated key zero n = ap (λ k. replicate k key) (let all : n ≡ zero + n = omega arith in all)
replicated key (suc m) n =
    ap (λ keys. key ∷ keys) (replicated key m n)
    ∙ ap (λ k. replicate k key) (let all : suc (m + n) ≡ suc m + n = omega arith in all)

module _ {T : Type 0} where
  -- Both in sum.
  erased_then : {key : Key} {h s c i t d : ℕ} {u v w : View T} → IsErased key h s c u v
      → IsErased key i t d v w
      → IsErased key (h + i) (s + t) (c + d) u w
  erased_then {key} {h} {s} {c} {i} {t} {d} {u} {v} {w} a b = record {
    erases = subst (λ keys. Erases keys (s + t) (c + d) u w) (replicated key h i)
        (erases_then a.erases b.erases);
    records = b.records ∙ a.records;
    met =
        let sum = total-append (λ k. when (is_key key k) 1) a.met.0 b.met.0 in
        let first = a.met.2 in
        let then = b.met.2 in (
          a.met.0 ++ b.met.0,
          b.met.1 ∙ (ap (λ keys. keys ++ b.met.0) a.met.1 ∙ append_assoc u.met a.met.0 b.met.0),
          omega arith,
        );
  }

  -- What was hidden once the first so many probes were seen.
  pub record IsHiding (slots : ℕ) (key : Key) (i : ℕ) (walk : Walk) (all : Erased)
      (seat now : SeatOf T) : Type 0 where
    pub same : IsSameSeat seat now
    pub erased : IsErased key all.hidden all.slots all.charge (view seat) (view now)
    pub walking : IsAt slots key i walk
    pub buried : Buried key (IsBefore slots key i) (view seat) (view now)
    pub within : 0 < i → Each (λ (r : Record). r.slot < slots) (view seat).records
    pub few : all.hidden ≤ i
    pub fewer : all.slots ≤ i
    pub small : all.charge ≤ all.slots * (2 ^ 32 - 1)

  module _ (slots : ℕ) (key : Key) (power : MOST_SLOTS % slots ≡ 0) where
    pub hides_none : {walk : Walk} {all : Erased} {seat : SeatOf T} → IsAtRest (view seat)
        → walk.probe ≡ key.w1
        → walk.stride ≡ bit_or key.w0 1 → walk.mask ≡ slots - 1
        → all ≡ record { hidden = 0; slots = 0; charge = 0 }
        → IsHiding slots key 0 walk all seat seat
    hides_none {seat = seat} rest probe stride mask none = record {
      same = record { table = refl; number = refl; slots = refl };
      erased = rw none (erased_none rest (searched_refl (view seat)));
      walking = record {
        probe = rw (probe, mask) (first_masked slots key power);
        stride = stride;
        mask = mask;
      };
      buried = buried_none slots key (view seat) (view seat);
      within = λ some. absurd (omega arith);
      few = rw none (omega arith);
      fewer = rw none (omega arith);
      small = rw none (omega arith);
    }

  module _ {slots : ℕ} {key : Key} {i slot : ℕ} {walk : Walk} {all : Erased} {seat now : SeatOf T}
      (s : IsHiding slots key i walk all seat now) (there : slot ≡ bit_and walk.probe walk.mask)
    where
      slot_at : slot ≡ probe_slot slots key i
      slot_at = there ∙ s.walking.probe

      module _ (power : MOST_SLOTS % slots ≡ 0) (n : ℕ) (here sum : Erased) {hid counted : SeatOf T}
          (same : IsSameSeat now hid) (same_then : IsSameSeat hid counted)
          (erased : IsErased key here.hidden here.slots here.charge (view now) (view hid))
          (dead : Buried key (λ z. z ≡ slot) (view now) (view hid))
          (few : (here.hidden ≤ 1) × (here.slots ≤ 1) × (here.charge ≤ here.slots * (2 ^ 32 - 1)))
          (is_sum : (sum.hidden ≡ all.hidden + here.hidden) × (sum.slots ≡ all.slots + here.slots)
          × (sum.charge ≡ all.charge + here.charge)) (kept : view counted ≡ view hid) (held : Each
          (λ (r : Record). times slot (trail_to slots (key_of r.entry) r.slot) ≤ n)
          (view hid).records) (within : Each (λ (r : Record). r.slot < slots) (view hid).records)
        where
          pub both : IsErased key sum.hidden sum.slots sum.charge (view seat) (view counted)
          both = rw (kept, is_sum.0, is_sum.1, is_sum.2) (erased_then s.erased erased)

          records_same : (view hid).records ≡ (view seat).records
          records_same = erased.records ∙ s.erased.records

          more_buried : Buried key (IsBefore slots key (i + 1)) (view seat) (view counted)
          more_buried = rw kept (buried_more slots key i (view seat) (view now) (view hid)
              s.erased.records erased.erases.dead s.buried (rw (← slot_at) dead))

          all_within : Each (λ (r : Record). r.slot < slots) (view seat).records
          all_within = rw (← records_same) within

          pub hides_on : {next : Walk} → next.probe ≡ (walk.probe + walk.stride) % 2 ^ 64
              → next.stride ≡ walk.stride
              → next.mask ≡ walk.mask → IsHiding slots key (i + 1) next sum seat counted
          hides_on probe stride mask = record {
            same = seat_then seat now counted s.same (seat_then now hid counted same same_then);
            erased = both;
            walking = record {
              probe =
                  rw (probe, mask, s.walking.stride, s.walking.mask) (next_masked slots key power i
                  walk.probe (rw (← s.walking.mask) s.walking.probe));
              stride = stride ∙ s.walking.stride;
              mask = mask ∙ s.walking.mask;
            };
            buried = more_buried;
            within = λ some. all_within;
            few = let old = s.few in let one = few.0 in let is = is_sum.0 in omega arith;
            fewer = let old = s.fewer in let one = few.1 in let is = is_sum.1 in omega arith;
            small = let old = s.small in let one = few.2 in let is = is_sum.2 in
                let more = is_sum.1 in omega arith;
          }

          pub hides_last : n ≡ 0 → AllDead key (view seat) (view counted)
          hides_last over = ended slots key power i (view seat) (view counted) over more_buried
              (rw (← records_same, ← slot_at) held) all_within

          pub few_more : i < slots → (sum.hidden ≤ slots) × (sum.slots ≤ slots)
          few_more low =
              let old = s.few in
              let fewer = s.fewer in
              let one = few.0 in
              let other = few.1 in
              let is = is_sum.0 in
              let total = is_sum.1 in
              (omega arith, omega arith)

  pub hides_all : {slots : ℕ} {key : Key} → MOST_SLOTS % slots ≡ 0
      → {i : ℕ} {walk : Walk} {all : Erased} {seat now : SeatOf T} → 0 < slots
      → slots ≤ i → i ≤ slots
      → IsHiding slots key i walk all seat now → AllDead key (view seat) (view now)
  hides_all {slots} {key} power {i} {walk} {all} {seat} {now} some least most s =
      let same : i ≡ slots = omega arith in
      all_seen slots key power (view seat) (view now)
      (subst (λ z. Buried key (IsBefore slots key z) (view seat) (view now)) same s.buried)
      (s.within (omega arith))

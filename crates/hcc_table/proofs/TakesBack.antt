-- The trail of a taken entry, taken back from its first probe on.
use Rattle.std.proofs.Common.{◌≡◌, ℕ, suc, ◌+◌, ◌-◌, ◌%◌, ◌^◌, ◌<◌, ◌≤◌, ◌≢◌, ◌==◌, ◌||◌, cond, true, Some, None, List, [], ◌∷◌, length, map, sym, subst, refl, ap, ◌∙◌, bit_and, bit_or, arith, ne_eqb, Option, slice_index}
use Rattle.std.specs.List.{list_any, range_with_len}
use Rattle.std.specs.Prelude.{if◌then◌else◌}
use Rattle.std.proofs.lemmas.Bool.{eq-eqb, eqb-true}
use Rattle.hcc_core.specs.declared.limits.TheConstants.{MOST_SLOTS}
use Rattle.hcc_core.specs.Outcomes.{dropped}
use Rattle.hcc_core.specs.Trails.{is_slot}
use Rattle.hcc_rule.specs.declared.key.Key.{Key}
use Rattle.hcc_rule.specs.declared.table.RuleTable.{RuleTable}
use Rattle.hcc_rule.specs.declared.view.View.{View}
use Rattle.hcc_rule.specs.Callers.{IsEvent}
use Rattle.hcc_rule.specs.Events.{free_done, look_done}
use Rattle.hcc_rule.specs.Probes.{probe_slot, trail_to, before}
use Rattle.hcc_rule.specs.Seats.{SeatOf, IsSameSeat, view}
use Rattle.hcc_rule.specs.ToldTrails.{after_unpass}
use Rattle.hcc_rule.proofs.Probes.ProbeLaws.{first_masked, next_masked, probe_of_slot, trail_length}
use Rattle.hcc_table.specs.declared.walk.Walk.{Walk}
use Rattle.hcc_table.proofs.Finds.{IsAt, seat_then}
use Rattle.hcc_rule.specs.declared.layout.TheConstants.{CHARGE}
use Rattle.hcc_rule.specs.Looked.{found_dead}
use Rattle.hcc_rule.specs.ToldOwners.{Freed, after_free, records_left}
use Rattle.hcc_table.specs.Freed.{IsFreed, TakenAt, TakesBy, emptied, free_event}
use Rattle.hcc_table.specs.Seeking.{Empties}
use Rattle.hcc_table.proofs.Searches.{grows_joined}

-- the probes from this one on, up to the slot
abbrev pub trail_from : (slots : ℕ) → Key → (slot i : ℕ) → List ℕ
trail_from slots key slot i =
    before slot (map (probe_slot slots key) (range_with_len i (slots - i)))

module _ {slots : ℕ} (key : Key) (slot : ℕ) {i : ℕ} where
  -- The first of them is this probe, where it isn't the slot.
  pub trail_first : i < slots → probe_slot slots key i ≢ slot
      → trail_from slots key slot i ≡ probe_slot slots key i ∷ trail_from slots key slot (i + 1)
  trail_first low other =
      ap (λ n. before slot (map (probe_slot slots key) (range_with_len i n))) more
      ∙ ap (λ b. cond b [] (probe_slot slots key i ∷ trail_from slots key slot (i + 1)))
      (ne_eqb (probe_slot slots key i) slot other)
    where
      more : slots - i ≡ suc (slots - (i + 1))
      more = omega arith

  -- There is none, where it is.
  pub trail_over : i < slots → probe_slot slots key i ≡ slot → trail_from slots key slot i ≡ []
  trail_over low same =
      ap (λ n. before slot (map (probe_slot slots key) (range_with_len i n))) more
      ∙ ap (λ b. cond b [] (probe_slot slots key i ∷ trail_from slots key slot (i + 1)))
      (eq-eqb (probe_slot slots key i) slot same)
    where
      more : slots - i ≡ suc (slots - (i + 1))
      more = omega arith

  -- After all probes there is none.
  pub trail_end : slots ≤ i → trail_from slots key slot i ≡ []
  trail_end past =
      let none : slots - i ≡ 0 = omega arith in
      ap (λ n. before slot (map (probe_slot slots key) (range_with_len i n))) none

-- A trail is shorter than there are slots.
pub trail_short : {slots : ℕ} (key : Key) {slot : ℕ} → MOST_SLOTS % slots ≡ 0 → slot < slots
    → length (trail_to slots key slot) < slots
trail_short {slots} key {slot} power near =
    let at = probe_of_slot slots key power slot near in
    subst (λ s. length (trail_to slots key s) < slots) at.2
    (let long = trail_length slots key power at.0 at.1 in let inside = at.1 in omega arith)

module _ {T : Type 0} where
  -- What is left of the trail, once the first so many probes were taken back.
  pub record IsTakingBack (slots : ℕ) (key : Key) (slot i : ℕ) (walk : Walk)
      (seat now : SeatOf T) : Type 0 where
    pub same : IsSameSeat seat now
    pub walking : IsAt slots key i walk
    pub left : view now ≡ record (view seat) {
      work =
          record (view seat).work { trail = trail_from slots key slot i };
    }

  pub takes_back : {slots : ℕ} {key : Key} {slot : ℕ} {walk : Walk} {seat : SeatOf T}
      → MOST_SLOTS % slots ≡ 0
      → (view seat).work.trail ≡ trail_to slots key slot → walk.probe ≡ key.w1
      → walk.stride ≡ bit_or key.w0 1 → walk.mask ≡ slots - 1
      → IsTakingBack slots key slot 0 walk seat seat
  takes_back {slots} {key} {slot} {walk} {seat} power trail probe stride mask = record {
    same = record { table = refl; number = refl; slots = refl };
    walking = record {
      probe = rw (probe, mask) (first_masked slots key power);
      stride = stride;
      mask = mask;
    };
    left = ap (λ t. record (view seat) { work = record (view seat).work { trail = t } })
        (trail ∙ sym whole);
  }
    where
      whole : trail_from slots key slot 0 ≡ trail_to slots key slot
      whole =
          let all : slots - 0 ≡ slots = omega arith in
          ap (λ n. before slot (map (probe_slot slots key) (range_with_len 0 n))) all

  module _ {slots : ℕ} {key : Key} {slot i there : ℕ} {walk : Walk} {seat now : SeatOf T}
      (s : IsTakingBack slots key slot i walk seat now) (is : there ≡ bit_and walk.probe walk.mask)
      (low : i < slots) where
    probe_is : there ≡ probe_slot slots key i
    probe_is = is ∙ s.walking.probe

    trail_is : (view now).work.trail ≡ trail_from slots key slot i
    trail_is = ap (λ (z : View T). z.work.trail) s.left

    -- all is taken back at the slot
    pub back : there ≡ slot
        → view now ≡ record (view seat) { work = record (view seat).work { trail = [] } }
    back same = s.left ∙ ap (λ t.
        record (view seat) { work = record (view seat).work { trail = t } })
        (trail_over key slot low (sym probe_is ∙ same))

    module _ (other : there ≢ slot) where
      first_is : (view now).work.trail ≡ there ∷ trail_from slots key slot (i + 1)
      first_is =
          trail_is ∙ (trail_first key slot low (λ e. other (probe_is ∙ e))
          ∙ ap (λ p. p ∷ trail_from slots key slot (i + 1)) (sym probe_is))

      -- else the slot stands in it
      pub stands : list_any (is_slot there) (view now).work.trail ≡ true
      stands = ap (list_any (is_slot there)) first_is
          ∙ ap (λ b. b || list_any (is_slot there) (trail_from slots key slot (i + 1)))
          (eq-eqb there there refl)

      -- and goes
      pub goes_back : {new : SeatOf T} {next : Walk} → MOST_SLOTS % slots ≡ 0 → IsSameSeat now new
          → view new ≡ after_unpass there (view now)
          → next.probe ≡ (walk.probe + walk.stride) % 2 ^ 64
          → next.stride ≡ walk.stride → next.mask ≡ walk.mask
          → IsTakingBack slots key slot (i + 1) next seat new
      goes_back {new} power same told probe stride mask = record {
        same = seat_then seat now new s.same same;
        walking = record {
          probe =
              rw (probe, mask, s.walking.stride, s.walking.mask)
              (next_masked slots key power i walk.probe (rw (← s.walking.mask) s.walking.probe));
          stride = stride ∙ s.walking.stride;
          mask = mask ∙ s.walking.mask;
        };
        left =
            told ∙ (ap (λ (v : View T). record v {
              work =
                  record v.work { trail = dropped (is_slot there) (view now).work.trail };
            }) s.left
            ∙ ap (λ t. record (view seat) { work = record (view seat).work { trail = t } }) gone);
      }
        where
          gone : dropped (is_slot there) (view now).work.trail ≡ trail_from slots key slot (i + 1)
          gone = ap (dropped (is_slot there)) first_is
              ∙ ap (λ b. cond b (trail_from slots key slot (i + 1))
              (there ∷ dropped (is_slot there) (trail_from slots key slot (i + 1))))
              (eq-eqb there there refl)

      -- One less is left.
      pub shorter : {new : SeatOf T} {next : Walk}
          → IsTakingBack slots key slot (i + 1) next seat new
          → length (view now).work.trail ≡ length (view new).work.trail + 1
      shorter back =
          let was = ap length first_is in
          let is = ap (λ (z : View T). length z.work.trail) back.left in
          omega arith

  -- All is taken back after all probes.
  pub back_at_end : {slots : ℕ} {key : Key} {slot i : ℕ} {walk : Walk} {seat now : SeatOf T}
      → slots ≤ i
      → IsTakingBack slots key slot i walk seat now
      → view now ≡ record (view seat) { work = record (view seat).work { trail = [] } }
  back_at_end {slots} {key} {slot} {i} {walk} {seat} past s =
      s.left ∙ ap (λ t. record (view seat) { work = record (view seat).work { trail = t } })
      (trail_end key slot past)

  -- A taken entry's slot was emptied.
  pub taken_at : {fits : T → Key → List ℕ → Type 0} {slots room slot old word charge : ℕ}
      {name : Option ℕ} {u v w : View T}
      → (old == word) ≡ true → Freed fits slots room slot word old name u v
      → charge ≡ slice_index v.written CHARGE → w ≡ emptied v
      → TakenAt fits slots room slot word name charge u w
  taken_at {fits} {slots} {room} {slot} {old} {word} {charge} {name} {u} won told charged same =
      let got = told.won won in
      let is : old ≡ word = eqb-true old word won in
      record {
        stamp = got.0;
        made = got.1;
        taken = got.2;
        charged = charged ∙ ap (λ (z : View T). slice_index z.written CHARGE) got.3;
        is = same ∙ (ap emptied got.3
            ∙ ap (λ n. emptied (after_free slots slot n name got.0 got.1 u)) is);
      }

  -- So it was freed.
  pub freed : (fits : T → Key → List ℕ → Type 0) (slots room slot word charge : ℕ) (name : Option ℕ)
      (u w : View T) → TakenAt fits slots room slot word name charge u w
      → IsFreed fits room word name charge u w × (w.records ≡ records_left name u.records)
      × (w.work.looked ≡ u.work.looked)
  freed fits slots room slot word charge name u w t = (
    record {
      stamp = t.stamp;
      made = t.made;
      taken = t.taken;
      charged = t.charged;
      dead = λ stamp h. rw t.is (grows_joined u.work.dead (found_dead slot word u) stamp h);
      same = rw (t.is, t.charged) refl;
    },
    ap (λ (z : View T). z.records) t.is,
    ap (λ (z : View T). z.work.looked) t.is,
  )

-- The one try to take an entry, as an event.
module _ {T A : Type 0} {table : RuleTable T A} {slot word : ℕ} {name : Option ℕ}
    {a b : SeatOf T} where
  -- It lost: a look that found another word.
  pub lost_by : {found : ℕ} (charge : ℕ) → found ≢ word
      → IsEvent table (free_done slot name word found charge (view a)) a b
      → TakesBy table slot word name None a b
  lost_by {found} charge other event = record {
    lost = (found, other, subst (λ done. IsEvent table done a b) same event);
    won = tt;
  }
    where
      same : free_done slot name word found charge (view a) ≡ look_done slot found (view a)
      same = ap (λ t. if t then free_event slot name charge (view a)
          else look_done slot found (view a)) (ne_eqb found word other)

  -- It won: the entry was taken, with its charge.
  pub taken_by : {fits : T → Key → List ℕ → Type 0} {slots room found charge : ℕ} {c : SeatOf T}
      → found ≡ word → Freed fits slots room slot word found name (view a) (view b)
      → charge ≡ slice_index (view b).written CHARGE
      → IsEvent table (free_done slot name word found
      ((view b).work.freed - (view a).work.freed) (view a)) a b
      → Empties table (view b).client b c → TakesBy table slot word name (Some charge) a c
  taken_by {found = found} {charge = charge} {c = c} is told charged event more = record {
    lost = tt;
    won = (
      b,
      subst (λ done. IsEvent table done a b) same event,
      subst (λ n. Empties table n b c) mine more,
    );
  }
    where
      won : (found == word) ≡ true
      won = eq-eqb found word is

      mine : (view b).client ≡ (view a).client
      mine = ap (λ (z : View T). z.client) (told.won won).3

      amount : (view b).work.freed - (view a).work.freed ≡ charge
      amount =
          let got = told.won won in
          let freed : (view b).work.freed ≡ (view a).work.freed + got.1.charge =
          ap (λ (z : View T). z.work.freed) got.3 in
          let paid : charge ≡ got.1.charge =
          charged ∙ ap (λ (z : View T). slice_index z.written CHARGE) got.3 in
          omega arith

      same : free_done slot name word found ((view b).work.freed - (view a).work.freed) (view a)
          ≡ free_event slot name charge (view a)
      same = ap (λ t. if t then free_event slot name
          ((view b).work.freed - (view a).work.freed) (view a)
          else look_done slot found (view a)) won
          ∙ ap (λ n. free_event slot name n (view a)) amount

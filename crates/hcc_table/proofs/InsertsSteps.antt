-- What an insertion finds at the probes of its key, one after the other.
use Rattle.std.proofs.Common.{◌≡◌, ℕ, ◌+◌, List, sym, subst, ap, ◌∙◌}
use Rattle.hcc_rule.specs.declared.key.Key.{Key}
use Rattle.hcc_rule.specs.declared.table.RuleTable.{RuleTable}
use Rattle.hcc_rule.specs.Callers.{slots_of, IsEvent}
use Rattle.hcc_rule.specs.Addresses.{address_of_displacement}
use Rattle.hcc_rule.specs.Events.{pass_done}
use Rattle.hcc_rule.specs.Probes.{probe_slot}
use Rattle.hcc_rule.specs.Seats.{SeatOf, MakesSome, view}
use Rattle.hcc_rule.specs.ToldTrails.{after_pass}
use Rattle.hcc_table.specs.declared.efforts.Effort.{Effort}
use Rattle.hcc_table.specs.declared.inserting.Insertion.{Insertion}
use Rattle.hcc_table.specs.declared.inserting.Insertion.TheVariants.{NoSlot, Placed}
use Rattle.hcc_table.specs.Efforts.{VisitedSlots}
use Rattle.hcc_table.specs.Seeking.{GoesOnBy, is_unpass}
use Rattle.hcc_table.specs.Steps.{Adds, MakesAtMost}
use Rattle.hcc_table.specs.Tries.{Inserts, PassesTaken, TriesAt}
use Rattle.hcc_table.proofs.Probings.{HasSeen, seen_none, seen_then}

module _ {T A : Type 0} (fits : T → Key → List ℕ → Type 0) (table : RuleTable T A) (key : Key)
    (name weight : ℕ) where
  -- So many probes were tried and passed.
  abbrev pub HasTried : (i : ℕ) → (before after : Effort) → (old now : SeatOf T) → Type 0
  HasTried = HasSeen (slots_of table) key (PassesTaken fits table key name weight) (λ _. Unit {0})

  pub tried_none : (effort : Effort) (seat : SeatOf T) → HasTried 0 effort effort seat seat
  tried_none =
      seen_none (slots_of table) key (PassesTaken fits table key name weight) (λ _. Unit {0})

module _ {T A : Type 0} {fits : T → Key → List ℕ → Type 0} {table : RuleTable T A} {key : Key}
    {name weight : ℕ} where
  module _ {i slot : ℕ} {answer : Insertion} {e f counted g : Effort} {old now mid new : SeatOf T}
      (h : HasTried fits table key name weight i e f old now)
      (there : slot ≡ probe_slot (slots_of table) key i) (visited : VisitedSlots 1 f counted)
      (tries : TriesAt fits table key name weight slot answer counted g now mid) where
    -- It ends here.
    pub inserts_here : (answer ≡ NoSlot → i + 1 ≡ slots_of table)
        → ((at : ℕ) → answer ≡ Placed at → new ≡ mid) → Adds mid new
        → GoesOnBy table is_unpass mid new → MakesAtMost i mid new
        → Inserts fits table key name weight answer e g old new
    inserts_here all placed adds rest few = record {
      earlier = h.seen;
      between = f;
      mid = now;
      probes = h.probes;
      counted = counted;
      visited = visited;
      done = mid;
      tries = subst (λ k. TriesAt fits table key name weight k answer counted g now mid)
          (there ∙ ap (probe_slot (slots_of table) key) (sym h.long)) tries;
      all = λ none. ap (λ n. n + 1) h.long ∙ all none;
      placed = placed;
      adds = adds;
      rest = rest;
      few = subst (λ n. MakesAtMost n mid new) (sym h.long) few;
    }

  -- It goes on.
  pub tried_then : {i slot : ℕ} {e f counted g : Effort} {old now mid new : SeatOf T}
      → HasTried fits table key name weight i e f old now → slot ≡ probe_slot (slots_of table) key i
      → VisitedSlots 1 f counted
      → TriesAt fits table key name weight slot NoSlot counted g now mid
      → MakesSome (address_of_displacement table slot) 1 0 mid new
      → view new ≡ after_pass slot (view mid) → IsEvent table (pass_done slot (view mid)) mid new
      → HasTried fits table key name weight (i + 1) e g old new
  tried_then {i} {slot} {e} {f} {counted} {g} {old} {now} {mid} {new} h there visited passes step
      passed event =
      seen_then h there one tt
    where
      one : PassesTaken fits table key name weight slot passes.0 f g now new
      one = record {
        between = counted;
        visited = visited;
        mid = mid;
        passes = passes.1;
        step = step;
        passed = passed;
        event = event;
      }

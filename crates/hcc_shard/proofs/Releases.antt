-- Which steps a release makes: it gives its reference back, and tries to take the entry where due.
use Rattle.std.proofs.Common.{◌≡◌, ◌&&◌, ℕ, Bool, true, false, Some, None, ◌++◌, length, ap, subst, sym, refl, ◌∙◌}
use Rattle.std.proofs.lemmas.List.{append_assoc}
use Rattle.hcc_rule.specs.declared.view.Atomic.{Atomic}
use Rattle.hcc_rule.specs.Seats.{SeatOf, steps}
use Rattle.hcc_table.specs.declared.efforts.Effort.{Effort}
use Rattle.hcc_table.specs.Efforts.{Lost}
use Rattle.hcc_table.specs.Freed.{IsLeft, TriedWhereDue, is_due, left_of}
use Rattle.hcc_table.specs.Steps.{Adds, Begins, after}
use Rattle.hcc_table.proofs.Logs.{begins_with_two, makes_two}
use Rattle.hcc_charge.proofs.Visitings.{lost_none}
use Rattle.hcc_shard.specs.Referred.{GivesBack, giving, lost_of, taking}

-- An exchange was lost where one was due and nothing was freed,
lost_where_due : (due : Bool) (before later : Effort) → (due ≡ true → Lost 1 1 before later)
    → (due ≡ false → later ≡ before) → Lost (lost_of due false) (lost_of due false) before later
lost_where_due true before later lost same = lost refl
lost_where_due false before later lost same =
    subst (λ e. Lost 0 0 before e) (sym (same refl)) (lost_none before)

-- and none where an entry was.
lost_nowhere : (due : Bool) (before later : Effort) → later ≡ before
    → Lost (lost_of due true) (lost_of due true) before later
lost_nowhere true before later same =
    subst (λ e. Lost 0 0 before e) (sym same) (lost_none before)
lost_nowhere false before later same =
    subst (λ e. Lost 0 0 before e) (sym same) (lost_none before)

module _ {T : Type 0} where
  -- what begins with a step still does so with others behind
  begins_more : (one : Atomic) (a b c : SeatOf T) → Begins one a b → Adds b c → Begins one a c
  begins_more one a b c h g = (
    h.0 ++ g.0,
    g.1 ∙ ap (λ xs. xs ++ g.0) h.1 ∙ append_assoc (after (steps a) one) h.0 g.0,
  )

  module _ (address slot name : ℕ) (room used erase : Bool) where
    -- a release that freed nothing
    pub gives_back : (left : ℕ) (before later : Effort) (old mid new : SeatOf T)
        → IsLeft address slot 1 name used left old mid
        → TriedWhereDue address left (room && is_due erase left) None before later mid new
        → GivesBack address room used erase false before later old new
    gives_back left before later old mid new given tried = record {
      found = given.found;
      entry = given.entry;
      enough = given.enough;
      kept = λ due. (
        refl,
        record {
          step = told.passed due ∙ given.step.step;
          one = ap length (told.passed due) ∙ given.step.one;
        },
      );
      lost = λ due freed. let lost = (told.tried due).0 in (
        lost.0,
        lost.1,
        makes_two (giving address used given.found) (taking address used given.found lost.0)
            old mid new given.step.step lost.2.step,
      );
      won = λ due freed. cc;
      counted = lost_where_due _ before later told.lost told.same;
    }
      where
        told : TriedWhereDue address (left_of used 1 given.found)
            (room && is_due erase (left_of used 1 given.found)) None before later mid new
        told = subst (λ x. TriedWhereDue address x (room && is_due erase x) None before later mid
            new)
            given.is tried

    -- a release that freed an entry, and settled what it freed
    pub gives_back_and_frees : (left charge : ℕ) (before later : Effort)
        (old mid end new : SeatOf T) → IsLeft address slot 1 name used left old mid
        → TriedWhereDue address left (room && is_due erase left) (Some charge) before later mid end
        → Adds end new
        → GivesBack address room used erase true before later old new
    gives_back_and_frees left charge before later old mid end new given tried adds = record {
      found = given.found;
      entry = given.entry;
      enough = given.enough;
      kept = λ due. (cc, cc);
      lost = λ due freed. cc;
      won = λ due freed. begins_with_two (giving address used given.found)
          (taking address used given.found (left_of used 1 given.found)) old mid new
          given.step.step (begins_more _ mid end new ((told.tried due).1) adds);
      counted = lost_nowhere _ before later told.won.1;
    }
      where
        told : TriedWhereDue address (left_of used 1 given.found)
            (room && is_due erase (left_of used 1 given.found)) (Some charge) before later mid end
        told = subst
            (λ x. TriedWhereDue address x (room && is_due erase x) (Some charge) before later mid
            end)
            given.is tried

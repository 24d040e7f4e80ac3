use Rattle.std.proofs.Common.{rules, ◌≡◌, ◌==◌, ℕ, Bool, true, false, cond, List, ap, refl, subst, sym, ◌∙◌}
use Rattle.hcc_rule.specs.declared.view.Made.{Made}
use Rattle.hcc_rule.specs.declared.view.View.{View}
use Rattle.hcc_rule.specs.Looked.{after_look, noticing}
use Rattle.hcc_rule.specs.Rule.{IsAbove}
use Rattle.hcc_rule.specs.Seats.{view}
use Rattle.hcc_rule.specs.ToldReferences.{after_correct}
use Rattle.hcc_rule_tests.proofs.worker.Worker.correct.Goals as goal

pub invariant_of-self-clause-bench : goal.invariant_of-self-clause-bench
invariant_of-self-clause-bench g c = c.args.self.now.bench

-- a correction shows no entry, whatever it found
corrected_made : {T : Type 0} (slot old word : ℕ) (v : View T)
    → (after_correct slot old word v).made ≡ v.made
corrected_made slot old word v = by (word == old)
  where
    by : (b : Bool) → (cond b (noticing slot word v) (after_look slot word v)).made ≡ v.made
    by true = refl
    by false = refl

pub invariant_of-self-clause-above : goal.invariant_of-self-clause-above
invariant_of-self-clause-above g c =
    let made : View _ → List Made = λ v. v.made in
    let got : made (view c.acquire_at-found.new.seat) ≡ made (view c.look_at-seen.new.seat) =
    search rules in
    let met : made (view c.correct-met.new.seat) ≡ made (view c.acquire_at-found.new.seat) =
    ap made c.correct-met.ensures.view ∙ corrected_made _ _ _ (view c.acquire_at-found.new.seat) in
    let same : made (view c.look_at.new.seat) ≡ made (view c.args.self.now.seat) =
    ap made c.look_at.ensures.view ∙ (ap made c.give_at.ensures.view
    ∙ (ap made c.look_at-left.ensures.view ∙ (met
    ∙ (got ∙ ap made c.look_at-seen.ensures.view)))) in
    subst (IsAbove c.args.self.now.shown) (sym same) c.args.self.now.above

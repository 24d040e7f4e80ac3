-- The entries that a client takes, over several steps.
use Rattle.std.proofs.Common.{◌≡◌, ℕ, ◌+◌, [], ◌∷◌, ◌++◌, Option, sym, refl, ap, ◌∙◌, arith}
use Rattle.std.proofs.lemmas.List.{append-nil, append_assoc, length-append}
use Rattle.hcc_core.specs.declared.slot.Stamp.{Stamp}
use Rattle.hcc_core.proofs.SumLemmas.{total-append}
use Rattle.hcc_rule.specs.declared.view.Gone.{Gone}
use Rattle.hcc_rule.specs.declared.view.Made.{Made}
use Rattle.hcc_rule.specs.declared.view.View.{View}
use Rattle.hcc_rule.specs.Gone.{Takes}
use Rattle.hcc_rule.specs.ToldOwners.{after_free}

module _ {T : Type 0} where
  -- none was taken
  pub takes_none : {v w : View T} → w.gone ≡ v.gone → Takes 0 0 v w
  takes_none {v} same = record {
    these = [];
    gone = same ∙ sym (append-nil v.gone);
    count = refl;
    charges = refl;
  }

  -- one was
  pub takes_one : {v w : View T} (g : Gone) → w.gone ≡ v.gone ++ g ∷ []
      → Takes 1 g.made.charge v w
  takes_one g more = record {
    these = g ∷ [];
    gone = more;
    count = refl;
    charges = omega arith;
  }

  -- so it is by the exchange that takes an entry
  pub takes_freed : (slots slot word : ℕ) (name : Option ℕ) (stamp : Stamp) (made : Made)
      {v w : View T} → w ≡ after_free slots slot word name stamp made v
      → Takes 1 made.charge v w
  takes_freed slots slot word name stamp made new =
      takes_one (record { stamp = stamp; made = made }) (ap (λ (u : View T). u.gone) new)

  -- some were, and then more
  pub takes_more : {a b c d : ℕ} {u v w : View T} → Takes a c u v → Takes b d v w
      → Takes (a + b) (c + d) u w
  takes_more {u = u} first second = record {
    these = first.these ++ second.these;
    gone = second.gone
        ∙ (ap (λ l. l ++ second.these) first.gone
        ∙ append_assoc u.gone first.these second.these);
    count =
        let sum = length-append first.these second.these in
        let some = first.count in
        let more = second.count in
        omega arith;
    charges =
        let sum = total-append (λ (g : Gone). g.made.charge) first.these second.these in
        let some = first.charges in
        let more = second.charges in
        omega arith;
  }

  -- and it is of views with the same lists
  pub takes_alike : {a c : ℕ} {v w x y : View T} → Takes a c v w → x.gone ≡ v.gone
      → y.gone ≡ w.gone → Takes a c x y
  takes_alike took before after = record {
    these = took.these;
    gone = after ∙ (took.gone ∙ ap (λ l. l ++ took.these) (sym before));
    count = took.count;
    charges = took.charges;
  }

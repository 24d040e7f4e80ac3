-- The entries that a client showed, after an insertion that was placed.
use Rattle.std.proofs.Common.{◌≡◌, ℕ, ◌+◌, ◌++◌, List, [], ◌∷◌, length, sym, subst, ap, ◌∙◌}
use Rattle.hcc_charge.proofs.Visitings.{one_longer}
use Rattle.hcc_rule.specs.declared.steps.shows.Draft.{Draft}
use Rattle.hcc_rule.specs.declared.view.View.{View}
use Rattle.hcc_rule.specs.Rule.{IsAbove}
use Rattle.hcc_rule.specs.ToldOwners.{made_of}
use Rattle.hcc_rule_tests.proofs.Serials.{above_more}
use Rattle.hcc_table.specs.Inserted.{IsPlaced}

module _ {T : Type 0} (slots slot i : ℕ) (draft : Draft) (value : List ℕ) (v w : View T)
    (placed : IsPlaced slots slot i draft value v w) where
  -- The entry is the newest.
  made_is : w.made ≡ v.made ++ made_of draft value ∷ []
  made_is = ap (λ (z : View T). z.made) placed.tried.same

  -- There is one more,
  pub placed_counted : (shown : ℕ) → length v.made ≡ shown → length w.made ≡ shown + 1
  placed_counted shown counted =
      ap length made_is ∙ one_longer v.made (made_of draft value) ∙ ap (λ n. n + 1) counted

  -- and the next serial is above those of all.
  pub placed_above : (shown : ℕ) → draft.serial ≡ shown → IsAbove shown v.made
      → IsAbove (shown + 1) w.made
  placed_above shown serial above =
      subst (λ book. IsAbove (shown + 1) book) (sym made_is)
      (above_more shown v.made (made_of draft value) serial above)

-- An entry that came to stand alone, and was let go.
use Rattle.std.proofs.Common.{◌≡◌, ◌<◌, Some, refl, ap, ◌∙◌}
use Rattle.std.specs.List.{find}
use Rattle.std.proofs.lemmas.Bool.{eq-eqb}
use Rattle.hcc_core.specs.declared.client.Standalone.{Standalone}
use Rattle.hcc_core.specs.Ledgers.{is_standing}
use Rattle.hcc_core.specs.Outcomes.{dropped}
use Rattle.hcc_rule.specs.declared.key.Key.{Key}
use Rattle.hcc_rule.specs.declared.steps.shows.Draft.{Draft}
use Rattle.hcc_rule.specs.declared.view.View.{View}
use Rattle.hcc_rule.specs.Views.{Each}
use Rattle.hcc_charge.specs.Settled.{fallen}
use Rattle.hcc_shard.specs.Inserted.{with_draft}
use Rattle.hcc_cache.proofs.Basics.FoundByName.{dropped_last, find_last, unused_standing}
use Rattle.hcc_cache.proofs.Insertions.KnownAfterInsertion.{Leaves}

module _ {T : Type 0} (key : Key) (draft : Draft) (v w : View T)
    (left : Leaves key draft.serial v.records (with_draft draft v.work.standalones) v w)
    (names : Each (λ (s : Standalone). s.name < draft.serial) v.work.standalones) where
  -- The shard knew it.
  pub stood_last : find (is_standing draft.serial) w.work.standalones
      ≡ Some (record { name = draft.serial; charge = draft.charge })
  stood_last =
      rw (left.standalones_are)
      (find_last (is_standing draft.serial) v.work.standalones _
      (unused_standing draft.serial v.work.standalones names)
      (eq-eqb draft.serial draft.serial refl))

  -- What there was before is left.
  pub leaves_fallen : (x : View T) → x ≡ fallen draft.serial w
      → Leaves key draft.serial v.records v.work.standalones v x
  leaves_fallen x fell = record {
    tried = record {
      client = ap (λ (z : View T). z.client) fell ∙ left.tried.client;
      others = ap (λ (z : View T). z.others) fell ∙ left.tried.others;
      made = rw (ap (λ (z : View T). z.made) fell) left.tried.made;
    };
    records_are = ap (λ (z : View T). z.records) fell ∙ left.records_are;
    standalones_are =
        ap (λ (z : View T). z.work.standalones) fell
        ∙ (ap (dropped (is_standing draft.serial)) left.standalones_are
        ∙ dropped_last (is_standing draft.serial) v.work.standalones _
        (unused_standing draft.serial v.work.standalones names)
        (eq-eqb draft.serial draft.serial refl));
  }

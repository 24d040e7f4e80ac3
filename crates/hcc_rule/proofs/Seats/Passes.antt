-- What is shown of a seat that is split, and of two that are joined: the rule holds after it, and
-- the world goes on by a start or by an end.
use Rattle.std.proofs.Common.{◌≡◌, ◌≢◌, ℕ, List, [], ◌∷◌, ◌++◌, Some, slice_get, slice_set}
use Rattle.hcc_core.specs.World.{State}
use Rattle.hcc_rule.specs.declared.key.Key.{Key}
use Rattle.hcc_rule.specs.declared.rule.Plan.{Plan}
use Rattle.hcc_rule.specs.declared.view.Done.{Done}
use Rattle.hcc_rule.specs.declared.view.View.{View}
use Rattle.hcc_rule.specs.Acts.{Passes}
use Rattle.hcc_rule.specs.Passing.{left_view, right_view, joined_view, spent_view}
use Rattle.hcc_rule.specs.Rule.{Holds}
use Rattle.hcc_rule.proofs.Parts.SlotSteps.{Shard}

module _ {T : Type 0} (fits : T → Key → List ℕ → Type 0) (p : Plan T) where
  -- these words and views meet the rule, and show the world to which this start or end leads
  abbrev pub Passed : State → Done → Shard fits p → Type 0
  Passed world done s = (after : Holds fits p s) × Passes world done after.world

  abbrev pub SplitsBy : ℕ → View T → Done → Type 0
  SplitsBy id v done =
      (s : Shard fits p) → (r : Holds fits p s) → slice_get s.views id ≡ Some v
      → Passed r.world done record {
        words = s.words;
        homes = s.homes;
        views = slice_set s.views id (left_view v) ++ right_view v ∷ [];
      }

  abbrev pub JoinsBy : ℕ → View T → ℕ → View T → Done → Type 0
  JoinsBy id v other w done =
      (s : Shard fits p) → (r : Holds fits p s) → slice_get s.views id ≡ Some v → other ≢ id
      → slice_get s.views other ≡ Some w
      → Passed r.world done record {
        words = s.words;
        homes = s.homes;
        views = slice_set (slice_set s.views id (joined_view v w)) other spent_view;
      }

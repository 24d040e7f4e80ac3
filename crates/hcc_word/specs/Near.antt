-- The nearness bound of a slot with an entry.
use Rattle.std.specs.Prelude.{ℕ, ◌+◌, ◌*◌, ◌^◌, ◌<◌, ◌≤◌}
use Rattle.hcc_word.specs.declared.layout.TheConstants.{NEAR}

-- At most `most` references stand on the slot, and its uses, with the references that may still
-- become uses, are at most NEAR and `most`. That holds for any `most` that leaves room in a
-- counter.
pub record IsNear (most uses refs counting : ℕ) : Type 0 where
  pub few_refs : refs ≤ most
  pub counting_are_refs : counting ≤ refs
  pub near_uses : uses + counting ≤ NEAR + most
  pub room : 2 * most + 4 < 2 ^ 29

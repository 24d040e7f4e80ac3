use Rattle.std.proofs.Common.{refl}
use Rattle.hcc_cache.proofs.holding.LentStanding.into_value.Goals as goal

pub returns-in-Ok-clause-made : goal.returns-in-Ok-clause-made
returns-in-Ok-clause-made c =
    ((c.in-Ok.copy, refl), c.in-Ok.ensures.items_if_clones_equal (λ x y same. same))

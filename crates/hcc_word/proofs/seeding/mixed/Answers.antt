use Rattle.std.proofs.Common.{sym, refl, ne_eqb}
use Rattle.hcc_word.specs.Seeding.{folded, mixture}
use Rattle.hcc_word.proofs.SeedLaws.{mixture-no_seed}
use Rattle.hcc_word.proofs.seeding.mixed.Goals as goal

pub returns-then-seed-eq0 : goal.returns-then-seed-eq0
returns-then-seed-eq0 c = rw c.if-seed-eq0.true (sym (mixture-no_seed c.args.word))

pub returns : goal.returns
unfolding folded mixture
returns c =
    let seeded = ne_eqb c.args.seed 0 c.if-seed-eq0.false in
    rw seeded refl

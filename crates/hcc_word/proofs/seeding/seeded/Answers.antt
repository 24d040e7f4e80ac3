use Rattle.std.proofs.Common.{◌≡◌, ◌+◌, ◌%◌, ◌^◌, arith, ◌∙◌}
use Rattle.hcc_word.proofs.SeedLaws.{mixture-no_seed}
use Rattle.hcc_word.proofs.seeding.seeded.Goals as goal

pub returns-clause-unchanged : goal.returns-clause-unchanged
returns-clause-unchanged c no_seed =
    let first : c.mixed.result ≡ 0 = c.mixed.ensures ∙ rw no_seed (mixture-no_seed c.args.k0) in
    let second : c.mixed-2.result ≡ 0 = c.mixed-2.ensures ∙ rw no_seed (mixture-no_seed _) in
    let word0 : (c.args.k0 + c.mixed-2.result) % 2 ^ 64 ≡ c.args.k0 = omega arith in
    let word1 : (c.args.k1 + c.mixed.result) % 2 ^ 64 ≡ c.args.k1 = omega arith in
    cc

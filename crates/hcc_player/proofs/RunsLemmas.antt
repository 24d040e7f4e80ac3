-- Lines that were played on a cache, one after another.
use Rattle.std.proofs.Common.{ℕ, List, [], ◌∷◌, ◌++◌, refl, subst}
use Rattle.hcc_rule.specs.declared.key.Key.{Key}
use Rattle.hcc_cache.specs.declared.cache.Cache.{Cache}
use Rattle.hcc_cache.specs.declared.client.Client.{Client}
use Rattle.hcc_player.specs.declared.run.answer.Answer.{Answer}
use Rattle.hcc_player.specs.declared.run.call.RunLine.{RunLine}
use Rattle.hcc_player.specs.declared.run.registers.Registers.{Registers}
use Rattle.hcc_player.specs.Runs.{Makes, MakesAll}

module _ {T : Type 0} (fits : T → Key → List ℕ → Type 0) (cache : Cache T) where
  -- a line more
  pub makes_one : (lines : List RunLine) (told : List Answer) (line : RunLine) (answer : Answer)
      (first mid new : List (Client T)) (empty was now : List Registers)
      → MakesAll fits cache lines told first mid empty was
      → Makes fits cache line answer mid new was now
      → MakesAll fits cache (lines ++ line ∷ []) (told ++ answer ∷ []) first new empty now
  makes_one [] [] line answer first mid new empty was now so_far makes = (
    new,
    now,
    subst (λ r. Makes fits cache line answer first new r now) so_far.1
        (subst (λ c. Makes fits cache line answer c new was now) so_far.0 makes),
    (refl, refl),
  )
  makes_one [] (a ∷ told) line answer first mid new empty was now so_far makes = absurd so_far
  makes_one (l ∷ lines) [] line answer first mid new empty was now so_far makes = absurd so_far
  makes_one (l ∷ lines) (a ∷ told) line answer first mid new empty was now so_far makes = (
    so_far.0,
    so_far.1,
    so_far.2,
    makes_one lines told line answer so_far.0 mid new so_far.1 was now so_far.3 makes,
  )

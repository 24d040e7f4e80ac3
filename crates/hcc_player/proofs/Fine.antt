-- Options that are not refused.
use Rattle.std.proofs.Common.{◌≡◌, ℕ, ◌*◌, ◌≤◌, ◌==◌, inl, inr, nat_lt, Result, Ok, Err, rules, tests}
use Rattle.std.proofs.lemmas.Bool.{cases_Bool}
use Rattle.hcc_cache.specs.Configs.{checked}
use Rattle.hcc_cache.specs.declared.errors.NewError.{NewError}
use Rattle.hcc_player.specs.declared.options.Options.{Options}
use Rattle.hcc_player.specs.Options.{block_check, options_check, then_block, told_config}

-- The block size is within the room of a value.
pub record IsBlockSize (room block : ℕ) : Type 0 where
  pub some : 1 ≤ block
  pub fits : block ≤ 8 * room

size_by : (room block : ℕ) → block_check room block ≡ Ok tt → IsBlockSize room block
size_by room block e = elim (cases_Bool (block == 0)) [
  | inl none ↦ let no = rw none at e in cc
  | inr some ↦ elim (cases_Bool (nat_lt (8 * room) block)) [
    | inl large ↦ let no = rw (some, large) at e in cc
    | inr fits ↦ record { some = search (rules, tests); fits = search (rules, tests) }
  ]
]

fine_by : (told : Result (Unit {0}) NewError) (room block : ℕ)
    → then_block (told_config told) room block ≡ Ok tt → IsBlockSize room block
fine_by (Ok fine) room block e = size_by room block e
fine_by (Err error) room block e = cc

-- options that pass have such a size
pub block_size : (o : Options) → options_check o ≡ Ok tt → IsBlockSize o.config.room o.block
block_size o e = fine_by (checked o.config) o.config.room o.block e

-- Which options are refused.
use Rattle.std.specs.Prelude.{ℕ, ◌*◌, ◌||◌, ◌==◌, nat_lt, Result, Ok, Err, if◌then◌else◌}
use Rattle.hcc_cache.specs.Configs.{checked}
use Rattle.hcc_cache.specs.declared.config.Config.{Config}
use Rattle.hcc_cache.specs.declared.errors.NewError.{NewError}
use Rattle.hcc_player.specs.declared.fault.PlayError.{PlayError}
use Rattle.hcc_player.specs.declared.fault.PlayError.TheVariants.{Refused, BadBlock}
use Rattle.hcc_player.specs.declared.options.Options.{Options}

-- a refusal of the config's check, as it is told
abbrev pub told_config : Result (Unit {0}) NewError → Result (Unit {0}) PlayError
told_config (Ok fine) = Ok fine
told_config (Err error) = Err (Refused error)

abbrev pub config_check : Config → Result (Unit {0}) PlayError
config_check config = told_config (checked config)

-- 0 is refused, and what no value has room for
abbrev pub block_check : (room block : ℕ) → Result (Unit {0}) PlayError
block_check room block =
    if (block == 0) || nat_lt (8 * room) block then Err BadBlock else Ok tt

-- the config's refusal, and else that of the block size
abbrev pub then_block : Result (Unit {0}) PlayError → (room block : ℕ) → Result (Unit {0}) PlayError
then_block (Ok fine) room block = block_check room block
then_block (Err error) room block = Err error

abbrev pub options_check : Options → Result (Unit {0}) PlayError
options_check o = then_block (config_check o.config) o.config.room o.block

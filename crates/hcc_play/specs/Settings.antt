-- What the options of a subcommand give.
use Rattle.std.specs.Prelude.{◌≡◌, ◌&&◌, Bool, true, List, Option, Some, None, codes, nat_le}
use Rattle.clap.specs.Words.{Row}
use Rattle.hcc_cache.specs.Configs.{is_within}
use Rattle.hcc_cache.specs.declared.config.Config.{Config}
use Rattle.hcc_core.specs.declared.limits.TheConstants.{MOST_CLIENTS}
use Rattle.hcc_core.specs.declared.setup.Setup.{Setup}
use Rattle.hcc_player.specs.declared.options.Options.{Options}
use Rattle.hcc_play.specs.declared.cli.TheConstants.{PLAYED_SLOTS, PLAYED_CAPACITY}
use Rattle.hcc_play.specs.Values.{flag_in, number_in}

-- it is one of which the fact holds, and where it is none there is none
abbrev pub Finds : {X : Type 0} → (X → Type 0) → Option X → Type 0
Finds P (Some x) = P x
Finds {X} P None = (x : X) → P x → ⊥

-- each number of the setup is the one that its option gives
pub record GivesSetup (rows : List Row) (setup : Setup) : Type 0 where
  pub slots : number_in 32 (codes "slots") rows ≡ Some setup.slots
  pub clients : number_in 32 (codes "clients") rows ≡ Some setup.clients
  pub capacity : number_in 64 (codes "capacity") rows ≡ Some setup.capacity
  pub strict : setup.strict ≡ flag_in (codes "strict") rows

-- whether each number is in its range
abbrev pub is_played : Setup → Bool
is_played setup = is_within 1 PLAYED_SLOTS setup.slots && is_within 1 MOST_CLIENTS setup.clients
    && nat_le setup.capacity PLAYED_CAPACITY

-- a setup whose world is played
abbrev pub CanPlay : Setup → Type 0
CanPlay setup = is_played setup ≡ true

-- each number of the cache's sizes is the one that its option gives
pub record GivesConfig (rows : List Row) (config : Config) : Type 0 where
  pub slots : number_in 32 (codes "slots") rows ≡ Some config.slots
  pub room : number_in 32 (codes "room") rows ≡ Some config.room
  pub clients : number_in 32 (codes "clients") rows ≡ Some config.clients
  pub handles : number_in 32 (codes "handles") rows ≡ Some config.handles
  pub shards : number_in 32 (codes "shards") rows ≡ Some config.shards
  pub capacity : number_in 64 (codes "capacity") rows ≡ Some config.capacity
  pub strict : config.strict ≡ flag_in (codes "strict") rows
  pub marks : config.marks ≡ flag_in (codes "marks") rows
  pub serials : number_in 64 (codes "serials") rows ≡ Some config.serials
  pub seed : number_in 64 (codes "seed") rows ≡ Some config.seed

-- each number of block reads is the one that its option gives
pub record GivesOptions (rows : List Row) (options : Options) : Type 0 where
  pub config : GivesConfig rows options.config
  pub block : number_in 32 (codes "block") rows ≡ Some options.block

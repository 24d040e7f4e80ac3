-- The commands of the program with their options, as a parse reads them.
use Rattle.std.specs.Prelude.{◌≡◌, pos, List, [], ◌∷◌, Some, true, false, codes}
use Rattle.std.specs.List.{fold}
use Rattle.hcc_core.specs.declared.limits.TheConstants.{MOST_CLIENTS}
use Rattle.clap.specs.Lexer.{usize_max}
use Rattle.clap.specs.Simple.{on_top}
use Rattle.clap.specs.Words.{App, Rule, Text, app_of, new_app, new_rule, rule_of}
use Rattle.clap.specs.Words.{with_rule, with_subcommand}
use Rattle.clap.specs.declared.builder.arg.Arg.{Arg}
use Rattle.clap.specs.declared.builder.command.Command.{Command}
use Rattle.clap.specs.declared.builder.command.Command.TheViews.{out-Command}
use Rattle.clap.specs.declared.builder.action.ArgAction.TheVariants.{SetTrue}
use Rattle.clap.specs.declared.builder.value_parser.ValueParser.{ValueParser}
use Rattle.clap.specs.declared.builder.value_parser.ValueParser.TheVariants.{Signed, Unsigned}
use Rattle.hcc_play.specs.declared.cli.TheConstants.{PLAYED_SLOTS, PLAYED_CAPACITY}

-- `--name N`, a number that the parser takes, with its default
abbrev pub number_option : (name default : Text) → ValueParser → Rule
number_option name default parser = record (new_rule name) {
  long = Some name;
  value_names = 1;
  defaults = default ∷ [];
  parser = Some parser;
}

-- `--name`
abbrev pub flag_option : Text → Rule
flag_option name = record (new_rule name) { long = Some name; action = Some SetTrue }

-- any number of at most 32 bits, and of at most 64
abbrev pub any_u32 : ValueParser
any_u32 = Signed (pos 0) (pos 4294967295)

abbrev pub any_u64 : ValueParser
any_u64 = Unsigned 0 18446744073709551615

abbrev pub core_options : List Rule
core_options =
    number_option (codes "slots") (codes "2") (Signed (pos 1) (pos PLAYED_SLOTS))
    ∷ number_option (codes "clients") (codes "2") (Signed (pos 1) (pos MOST_CLIENTS))
    ∷ number_option (codes "capacity") (codes "600") (Unsigned 0 PLAYED_CAPACITY)
    ∷ flag_option (codes "strict")
    ∷ []

-- what says the size of a cache
abbrev pub cache_options : List Rule
cache_options =
    number_option (codes "slots") (codes "8") any_u32
    ∷ number_option (codes "room") (codes "2") any_u32
    ∷ number_option (codes "clients") (codes "1") any_u32
    ∷ number_option (codes "handles") (codes "8") any_u32
    ∷ number_option (codes "shards") (codes "1") any_u32
    ∷ number_option (codes "capacity") (codes "600") any_u64
    ∷ number_option (codes "serials") (codes "18014398509481984") any_u64
    ∷ number_option (codes "seed") (codes "0") any_u64
    ∷ flag_option (codes "strict")
    ∷ flag_option (codes "marks")
    ∷ []

abbrev pub block_option : Rule
block_option = number_option (codes "block") (codes "16") any_u32

-- the paths of files, none or more
abbrev pub file_option : Rule
file_option = record (new_rule (codes "FILE")) {
  range = Some (record { start_inclusive = 0; end_inclusive = usize_max });
}

-- the command with these arguments behind its own
abbrev pub with_rules : App → List Rule → App
with_rules app rules = fold with_rule app rules

abbrev pub core_app : App
core_app = with_rules (new_app (codes "core")) core_options

abbrev pub run_app : App
run_app = with_rules (new_app (codes "run")) cache_options

abbrev pub blocks_app : App
blocks_app =
    with_rule (with_rule (with_rules (new_app (codes "blocks")) cache_options) block_option)
    file_option

-- a subcommand has to be there, and the version is known
abbrev pub bare_app : App
bare_app = on_top (λ s. record s { has_version = true; subcommand_required = true })
    (new_app (codes "hcc_play"))

-- the whole command line
unfoldable pub program : App
program = with_subcommand (with_subcommand (with_subcommand bare_app core_app.top) run_app.top)
    blocks_app.top

-- the argument has these rules, and is its command's alone
abbrev pub IsArgument : Rule → Arg → Type 0
IsArgument rule arg = (rule_of arg ≡ rule) × (arg.global ≡ false)

-- no argument of the command is passed on
abbrev pub IsLocal : Command → Type 0
IsLocal command = (out-Command command).has_globals ≡ false

abbrev pub IsCommand : App → Command → Type 0
IsCommand app command = (app_of command ≡ app) × IsLocal command

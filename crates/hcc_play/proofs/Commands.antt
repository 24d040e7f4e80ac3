-- What the methods that build a command make of it.
use Rattle.std.proofs.Common.{◌≡◌, ◌||◌, ◌∙◌, ap, ap₂, Bool, true, Option, Some}
use Rattle.std.specs.Borrow.{Bor}
use Rattle.clap.specs.Simple.{app_of_fields, on_top}
use Rattle.clap.specs.Words.{AddsArg, AddsSubcommand, App, Rule, Text, with_rule, with_subcommand}
use Rattle.clap.specs.declared.builder.arg.Arg.{Arg}
use Rattle.clap.specs.declared.builder.command.Command.{Command}
use Rattle.clap.specs.declared.builder.command.Command.TheOpen.{Command-F}
use Rattle.clap.specs.declared.builder.command.Command.TheViews.{out-Command}
use Rattle.hcc_play.specs.CommandLine.{IsArgument, IsCommand}

-- `arg`
pub adds : (old new : Command) (arg : Arg) (app : App) (rule : Rule) → IsCommand app old
    → IsArgument rule arg → AddsArg old arg new → IsCommand (with_rule app rule) new
adds old new arg app rule is has added = (
  added.shape has.1 ∙ ap₂ with_rule is.0 has.0,
  added.globals ∙ ap₂ (λ (a b : Bool). a || b) is.1 has.1,
)

-- `subcommand`
pub joins : (old sub new : Command) (app below : App) → IsCommand app old → IsCommand below sub
    → AddsSubcommand old sub new → IsCommand (with_subcommand app below.top) new
joins old sub new app below is has added = (
  added.shape has.1 ∙ ap₂ (λ (a b : App). with_subcommand a b.top) is.0 has.0,
  added.globals ∙ ap₂ (λ (a b : Bool). a || b) is.1 has.1,
)

module _ (old new : Command) (app : App) where
  -- texts that help shows
  pub with_about : (text : Option (Bor Text))
      → out-Command new ≡ record (out-Command old) { about = text }
      → IsCommand app old → IsCommand app new
  with_about text is was =
      (ap app_of_fields is ∙ was.0, ap (λ (f : Command-F Command). f.has_globals) is ∙ was.1)

  pub with_after_help : (text : Option (Bor Text))
      → out-Command new ≡ record (out-Command old) { after_help = text }
      → IsCommand app old → IsCommand app new
  with_after_help text is was =
      (ap app_of_fields is ∙ was.0, ap (λ (f : Command-F Command). f.has_globals) is ∙ was.1)

  pub with_usage : (text : Option (Bor Text))
      → out-Command new ≡ record (out-Command old) { usage_str = text }
      → IsCommand app old → IsCommand app new
  with_usage text is was =
      (ap app_of_fields is ∙ was.0, ap (λ (f : Command-F Command). f.has_globals) is ∙ was.1)

  -- the version, and that a subcommand has to be there
  pub with_version : (text : Bor Text)
      → out-Command new ≡ record (out-Command old) { version = Some text } → IsCommand app old
      → IsCommand (on_top (λ s. record s { has_version = true }) app) new
  with_version text is was = (
    ap app_of_fields is ∙ ap (on_top (λ s. record s { has_version = true })) was.0,
    ap (λ (f : Command-F Command). f.has_globals) is ∙ was.1,
  )

  pub with_need : out-Command new ≡ record (out-Command old) { subcommand_required = true }
      → IsCommand app old
      → IsCommand (on_top (λ s. record s { subcommand_required = true }) app) new
  with_need is was = (
    ap app_of_fields is ∙ ap (on_top (λ s. record s { subcommand_required = true })) was.0,
    ap (λ (f : Command-F Command). f.has_globals) is ∙ was.1,
  )

-- a new command with texts
pub bare_is : (new about after : Command) (app : App) (first last : Option (Bor Text))
    → IsCommand app new → out-Command about ≡ record (out-Command new) { about = first }
    → out-Command after ≡ record (out-Command about) { after_help = last } → IsCommand app after
bare_is new about after app first last is texts more =
    with_after_help about after app last more (with_about new about app first texts is)

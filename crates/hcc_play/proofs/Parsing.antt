-- A parse of the whole command line.
use Rattle.std.proofs.Common.{◌≡◌, ◌∙◌, ap, subst, sym, refl, true, List, [], Result, Ok, Err, IfOk}
use Rattle.std.proofs.Common.{IfErr}
use Rattle.clap.specs.Words.{App, FailsBy, HasKind, HasMatchesOf, Kinds, Text, fault_of, is_simple}
use Rattle.clap.specs.Words.{is_simple_and_free, subcommand_of, subcommand_rows_of}
use Rattle.clap.specs.declared.error.Error.{Error}
use Rattle.clap.specs.declared.parser.matches.ArgMatches.{ArgMatches}
use Rattle.hcc_play.specs.CommandLine.{program}
use Rattle.hcc_play.specs.Parsed.{faults_of, used_by}

is_simple-program : is_simple program ≡ true
unfolding program
is_simple-program = refl

is_free-program : is_simple_and_free program ≡ true
unfolding program
is_free-program = refl

module _ (app : App) (words : List Text) (is : app ≡ program) where
  kinds_are : fault_of app words ≡ faults_of words
  unfolding faults_of
  kinds_are = ap (λ (a : App). fault_of a words) is

  used_is : subcommand_of app words ≡ used_by words
  unfolding used_by
  used_is = ap (λ (a : App). subcommand_of a words) is

  pub parsed_ok : (result : Result ArgMatches Error) → IfOk result (HasMatchesOf app words)
      → (is_simple_and_free app ≡ true → FailsBy (fault_of app words) result)
      → IfOk result (λ m. (faults_of words ≡ []) × (subcommand_rows_of m ≡ used_by words))
  parsed_ok (Ok m) matches kinds = (
    sym kinds_are ∙ kinds (ap is_simple_and_free is ∙ is_free-program),
    (matches (ap is_simple is ∙ is_simple-program)).1 ∙ used_is,
  )
  parsed_ok (Err e) matches kinds = tt

  pub parsed_err : (result : Result ArgMatches Error)
      → (is_simple_and_free app ≡ true → FailsBy (fault_of app words) result)
      → IfErr result (HasKind (faults_of words))
  parsed_err (Ok m) kinds = tt
  parsed_err (Err e) kinds =
      subst (λ (k : Kinds). HasKind k e) kinds_are
      (kinds (ap is_simple_and_free is ∙ is_free-program))

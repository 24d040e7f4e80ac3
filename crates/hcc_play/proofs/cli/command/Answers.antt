use Rattle.std.proofs.lemmas.Result.{IfOk-weaker}
use Rattle.hcc_play.specs.CommandLine.{program}
use Rattle.hcc_play.proofs.Commands.{bare_is, joins, with_need, with_usage, with_version}
use Rattle.hcc_play.proofs.cli.command.Goals as goal

pub returns : goal.returns
unfolding program
returns c =
    let versioned = with_version _ _ _ _ c.version.ensures
    (c.new.ensures.app, c.new.ensures.local) in
    let texts = bare_is _ _ _ _ _ _ versioned c.about.ensures c.after_help.ensures in
    let used = with_usage _ _ _ _ c.override_usage.ensures texts in
    let bare = with_need _ _ _ c.subcommand_required.ensures used in
    let core = joins _ _ _ _ _ bare c.in_ok-core.ensures c.in_ok-subcommand.ensures in
    let run = joins _ _ _ _ _ core c.in_ok-run.ensures c.in_ok-subcommand-2.ensures in
    IfOk-weaker c.subcommand-3.result _ _
    (λ command added. joins _ _ command _ _ run c.in_ok-blocks.ensures added)
    c.subcommand-3.ensures

use Rattle.std.proofs.Common.{◌∙◌, ap}
use Rattle.std.proofs.lemmas.Result.{IfOk-weaker}
use Rattle.clap.specs.Words.{App}
use Rattle.hcc_play.proofs.Commands.{bare_is}
use Rattle.hcc_play.specs.CommandLine.{cache_options, with_rules}
use Rattle.hcc_play.proofs.run_command.run_command.Goals as goal

pub returns : goal.returns
returns c =
    let bare = bare_is _ _ _ _ _ _ (c.new.ensures.app, c.new.ensures.local)
    c.about.ensures c.after_help-command.ensures in
    IfOk-weaker c.with_cache_args.result _ _
    (λ command is. (is.0 ∙ ap (λ (a : App). with_rules a cache_options) bare.0, is.1))
    c.with_cache_args.ensures

pub with_cache_args-requires : goal.with_cache_args-requires
with_cache_args-requires c =
    let bare = bare_is _ _ _ _ _ _ (c.new.ensures.app, c.new.ensures.local)
    c.about.ensures c.after_help-command.ensures in
    bare.1

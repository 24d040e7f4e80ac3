use Rattle.std.proofs.Common.{◌∙◌, ap}
use Rattle.std.proofs.lemmas.Result.{IfOk-weaker}
use Rattle.clap.specs.Words.{App}
use Rattle.hcc_play.proofs.Commands.{adds, bare_is}
use Rattle.hcc_play.specs.CommandLine.{IsCommand, cache_options, with_rules}
use Rattle.hcc_play.proofs.blocks_command.blocks_command.Goals as goal

pub returns : goal.returns
returns c =
    let bare = bare_is _ _ _ _ _ _ (c.new.ensures.app, c.new.ensures.local)
    c.about.ensures c.after_help-command.ensures in
    let made = c.in_ok-with_cache_args.ensures in
    let sized : IsCommand _ _ =
    (made.0 ∙ ap (λ (a : App). with_rules a cache_options) bare.0, made.1) in
    let block = adds _ _ _ _ _ sized c.block_arg.ensures c.in_ok-arg.ensures in
    IfOk-weaker c.arg-2.result _ _
    (λ command added. adds _ command _ _ _ block c.file_arg.ensures added) c.arg-2.ensures

pub with_cache_args-requires : goal.with_cache_args-requires
with_cache_args-requires c =
    let bare = bare_is _ _ _ _ _ _ (c.new.ensures.app, c.new.ensures.local)
    c.about.ensures c.after_help-command.ensures in
    bare.1

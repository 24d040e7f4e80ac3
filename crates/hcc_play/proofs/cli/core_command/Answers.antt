use Rattle.std.proofs.lemmas.Result.{IfOk-weaker}
use Rattle.hcc_play.proofs.Commands.{adds, bare_is}
use Rattle.hcc_play.proofs.cli.core_command.Goals as goal

pub returns : goal.returns
returns c =
    let bare = bare_is _ _ _ _ _ _ (c.new.ensures.app, c.new.ensures.local)
    c.about.ensures c.after_help.ensures in
    let slots = adds _ _ _ _ _ bare c.slots_arg.ensures c.in_ok-arg.ensures in
    let clients = adds _ _ _ _ _ slots c.clients_arg.ensures c.in_ok-arg-2.ensures in
    let capacity = adds _ _ _ _ _ clients c.capacity_arg.ensures c.in_ok-arg-3.ensures in
    IfOk-weaker c.arg-4.result _ _
    (λ command added. adds _ command _ _ _ capacity c.strict_arg.ensures added) c.arg-4.ensures

use Rattle.std.proofs.Common.{refl}
use Rattle.std.proofs.lemmas.Result.{IfOk-weaker}
use Rattle.hcc_play.proofs.Commands.{adds}
use Rattle.hcc_play.proofs.cache_options.with_cache_args.Goals as goal

pub returns : goal.returns
returns c =
    let slots = adds c.args.command _ _ _ _ (refl, c.requires)
    c.number_arg.ensures c.in_ok-arg.ensures in
    let room = adds _ _ _ _ _ slots c.number_arg-2.ensures c.in_ok-arg-2.ensures in
    let clients = adds _ _ _ _ _ room c.number_arg-3.ensures c.in_ok-arg-3.ensures in
    let handles = adds _ _ _ _ _ clients c.number_arg-4.ensures c.in_ok-arg-4.ensures in
    let shards = adds _ _ _ _ _ handles c.number_arg-5.ensures c.in_ok-arg-5.ensures in
    let capacity = adds _ _ _ _ _ shards c.wide_arg.ensures c.in_ok-arg-6.ensures in
    let serials = adds _ _ _ _ _ capacity c.wide_arg-2.ensures c.in_ok-arg-7.ensures in
    let seed = adds _ _ _ _ _ serials c.wide_arg-3.ensures c.in_ok-arg-8.ensures in
    let strict = adds _ _ _ _ _ seed c.flag_arg.ensures c.in_ok-arg-9.ensures in
    IfOk-weaker c.arg-10.result _ _
    (λ command added. adds _ command _ _ _ strict c.flag_arg-2.ensures added) c.arg-10.ensures

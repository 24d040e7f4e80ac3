use Rattle.std.proofs.Common.{sym, subst, ◌∙◌, arith}
use Rattle.hcc_player.specs.Work.{Ends}
use Rattle.hcc_player.proofs.Places.{all_with, ok_both}
use Rattle.hcc_player.proofs.blocks.worker.work_all.Goals as goal

pub returns-clause-each : goal.returns-clause-each
returns-clause-each g c =
    let Ended = Ends g.T.Tag.fits g.S.BlockSource.content g.S.BlockSource.reliable
    c.args.cache.now in
    ok_both _ _ _ c.map_vec.result c.map_vec.ensures.len c.map_vec.ensures.each
    (λ done len each. all_with Ended c.args.workers.items done.items
    (omega (arith, len, done.ok, c.args.workers.ok))
    (λ i w d within here there.
    let job = (each i d within).1 in
    subst (λ x. Ended x d) (sym (job.job_is w) ∙ here)
    (subst (λ y. Ended job.job y) there job.call.met)))

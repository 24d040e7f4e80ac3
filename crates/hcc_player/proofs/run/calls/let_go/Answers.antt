use Rattle.std.proofs.Common.{◌+◌, drop, refl, subst, sym}
use Rattle.std.proofs.lemmas.List.{drop_more, take_more}
use Rattle.hcc_player.specs.Registers.{CanPlay}
use Rattle.hcc_player.specs.Runs.{LetsGo}
use Rattle.hcc_player.proofs.EndLemmas.{first_holds, let_one_more, others_left}
use Rattle.hcc_player.proofs.run.calls.let_go.Goals as goal

pub release-requires-clause-holds : goal.release-requires-clause-holds
release-requires-clause-holds g c =
    let fits = g.T.Tag.fits in
    let cache = c.args.cache.now in
    let client = c.loop-filled.client in
    let xs = c.deref-filled-items.result.now in
    let i = c.loop-filled.filled-index in
    first_holds fits cache client _ (drop (i + 1) xs)
    (subst (λ l. CanPlay fits cache client l) (drop_more xs i _ c.loop-filled-test.true)
    c.loop-filled.invariant.can)

pub loop-filled-preserved : goal.loop-filled-preserved
loop-filled-preserved g c =
    let fits = g.T.Tag.fits in
    let cache = c.args.cache.now in
    let old = c.loop-filled.client in
    let new = c.release.new.client in
    let xs = c.deref-filled-items.result.now in
    let i = c.loop-filled.filled-index in
    let can = subst (λ l. CanPlay fits cache old l) (drop_more xs i _ c.loop-filled-test.true)
    c.loop-filled.invariant.can in
    record {
      can = others_left fits cache old new _ (drop (i + 1) xs) c.release.result can
          c.release.ensures.known c.release.ensures.released;
      did = subst (λ l. LetsGo fits cache l c.args.client.now new)
          (sym (take_more xs i _ c.loop-filled-test.true))
          (let_one_more fits cache _ _ c.args.client.now old new c.release.result
          c.loop-filled.invariant.did (record {
            handle = _;
            held = refl;
            emptied = refl;
            releases = c.release.ensures.released;
            gives = c.release.ensures.gives;
            by = c.release.ensures.by;
            stays = c.release.ensures.stays;
            standing = c.release.ensures.standing;
          }));
    }

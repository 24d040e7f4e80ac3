use Rattle.std.proofs.Common.{◌≡◌, None, Some, refl, sym, ◌∙◌}
use Rattle.hcc_player.specs.Registers.{at}
use Rattle.hcc_player.specs.RunAnswers.{IsRight}
use Rattle.hcc_player.specs.RunCalls.{Does}
use Rattle.hcc_player.specs.RunStates.{with_emptied}
use Rattle.hcc_player.proofs.CallLemmas.{empty_told, release_goes}
use Rattle.hcc_player.proofs.RegisterLemmas.{at_emptied}
use Rattle.hcc_player.proofs.run.calls.release.Goals as goal

pub returns-in_default-clause-goes : goal.returns-in_default-clause-goes
unfolding IsRight
returns-in_default-clause-goes g c config s filled =
    let fits = g.T.Tag.fits in
    let cache = c.args.cache.now in
    let client = c.args.client.now in
    let handles = c.args.registers.now.filled.items in
    let r = c.args.register in
    let none : at handles r ≡ None = sym c.get.ensures ∙ c.in_default.is in
    (s, (empty_told fits cache config s client handles r none filled, refl), filled)

pub returns-in_default-clause-did : goal.returns-in_default-clause-did
unfolding Does
returns-in_default-clause-did g c = record { client = refl; registers = λ r. refl }

pub returns-then-release-clause-goes : goal.returns-then-release-clause-goes
unfolding IsRight
returns-then-release-clause-goes g c config s filled =
    let fits = g.T.Tag.fits in
    let cache = c.args.cache.now in
    let client = c.args.client.now in
    let handles = c.args.registers.now.filled.items in
    let r = c.args.register in
    let gone = release_goes fits cache config s client c.release.new.client handles r
    c.in-Some.handle c.args.erase c.release.result c.release.ensures.known
    c.release.ensures.released (sym c.get.ensures ∙ c.in-Some.is) filled in
    rw c.empty.ensures (with_emptied s r, (gone.0, refl), gone.1)

pub returns-then-release-clause-did : goal.returns-then-release-clause-did
unfolding Does
returns-then-release-clause-did g c =
    let handles = c.args.registers.now.filled.items in
    let r = c.args.register in
    let held : at handles r ≡ Some c.in-Some.handle = sym c.get.ensures ∙ c.in-Some.is in
    record {
      handle = c.in-Some.handle;
      held = held;
      emptied = rw c.empty.ensures (at_emptied handles r);
      releases = rw c.if-release.true at c.release.ensures.released;
      gives = rw c.if-release.true at c.release.ensures.gives;
      by = rw c.if-release.true at c.release.ensures.by;
      stays = λ never. cc;
      standing = c.release.ensures.standing;
    }

pub returns-else-release-clause-goes : goal.returns-else-release-clause-goes
unfolding IsRight
returns-else-release-clause-goes g c config s filled =
    let fits = g.T.Tag.fits in
    let cache = c.args.cache.now in
    let client = c.args.client.now in
    let handles = c.args.registers.now.filled.items in
    let r = c.args.register in
    let gone = release_goes fits cache config s client c.release.new.client handles r
    c.in-Some.handle c.args.erase c.release.result c.release.ensures.known
    c.release.ensures.released (sym c.get.ensures ∙ c.in-Some.is) filled in
    rw c.empty.ensures (with_emptied s r, (gone.0, refl), gone.1)

pub returns-else-release-clause-did : goal.returns-else-release-clause-did
unfolding Does
returns-else-release-clause-did g c =
    let handles = c.args.registers.now.filled.items in
    let r = c.args.register in
    let held : at handles r ≡ Some c.in-Some.handle = sym c.get.ensures ∙ c.in-Some.is in
    record {
      handle = c.in-Some.handle;
      held = held;
      emptied = rw c.empty.ensures (at_emptied handles r);
      releases = rw c.if-release.false at c.release.ensures.released;
      gives = rw c.if-release.false at c.release.ensures.gives;
      by = rw c.if-release.false at c.release.ensures.by;
      stays = λ kept. c.release.ensures.stays c.if-release.false;
      standing = c.release.ensures.standing;
    }

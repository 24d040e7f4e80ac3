use Rattle.std.proofs.Common.{◌≡◌, true, None, Some, Ok, Err, refl, sym, ◌∙◌}
use Rattle.std.specs.Prelude.{is_some}
use Rattle.hcc_player.specs.Registers.{at}
use Rattle.hcc_player.specs.RunAnswers.{IsRight}
use Rattle.hcc_player.specs.RunCalls.{Does}
use Rattle.hcc_player.proofs.CallLemmas.{busy_told, empty_told, reref_goes, full_told, look_refused}
use Rattle.hcc_player.proofs.CallLemmas.{may_look, no_handle, stays}
use Rattle.hcc_player.proofs.RegisterLemmas.{at_filled}
use Rattle.hcc_player.proofs.run.calls.reref.Goals as goal

pub returns-then-is_some-clause-goes : goal.returns-then-is_some-clause-goes
unfolding IsRight
returns-then-is_some-clause-goes g c config s filled =
    let fits = g.T.Tag.fits in
    let cache = c.args.cache.now in
    let client = c.args.client.now in
    let handles = c.args.registers.now.filled.items in
    let r = c.args.register in
    let full : is_some (at handles r) ≡ true =
    rw c.get.ensures at (sym c.is_some.ensures ∙ c.if-is_some.true) in
    (s, (busy_told fits cache config s client handles r full filled, refl), filled)

pub returns-then-is_some-clause-did : goal.returns-then-is_some-clause-did
unfolding Does
returns-then-is_some-clause-did g c = record { client = refl; registers = λ r. refl }

pub returns-in_default-clause-goes : goal.returns-in_default-clause-goes
unfolding IsRight
returns-in_default-clause-goes g c config s filled =
    let fits = g.T.Tag.fits in
    let cache = c.args.cache.now in
    let client = c.args.client.now in
    let handles = c.args.registers.now.filled.items in
    let r = c.args.register in
    let empty : at handles r ≡ None = no_handle handles r
    (rw c.get.ensures at (sym c.is_some.ensures ∙ c.if-is_some.false)) in
    let none : at handles c.args.from ≡ None = sym c.get-2.ensures ∙ c.in_default.is in (
      s,
      (
        empty_told fits cache config s client handles r empty filled,
        empty_told fits cache config s client handles c.args.from none filled,
        refl,
      ),
      filled,
    )

pub returns-in_default-clause-did : goal.returns-in_default-clause-did
unfolding Does
returns-in_default-clause-did g c = record { client = refl; registers = λ r. refl }

pub returns-in-Ok-clause-goes : goal.returns-in-Ok-clause-goes
returns-in-Ok-clause-goes g c config s filled =
    let fits = g.T.Tag.fits in
    let cache = c.args.cache.now in
    let client = c.args.client.now in
    let handles = c.args.registers.now.filled.items in
    let r = c.args.register in
    let told = c.in-Ok.ensures in
    let empty : at handles r ≡ None = no_handle handles r
    (rw c.get.ensures at (sym c.is_some.ensures ∙ c.if-is_some.false)) in
    let from = c.args.from in
    let full : at handles from ≡ Some c.in-Some.held = sym c.get-2.ensures ∙ c.in-Some.is in
    let may = may_look fits cache config s client (Ok c.in-Ok.handle) c.in-Ok.handle refl
    filled.known filled.limited told.full told.spent in
    rw (c.fill.ensures, c.in_ok-reserve.ensures.same)
    (reref_goes fits cache config s client c.reref.new.client handles r from c.in-Some.held
    c.in-Ok.handle told.known may told.again full empty filled)

pub returns-in-Ok-clause-did : goal.returns-in-Ok-clause-did
unfolding Does
returns-in-Ok-clause-did g c =
    let handles = c.args.registers.now.filled.items in
    let r = c.args.register in
    let empty : at handles r ≡ None = no_handle handles r
    (rw c.get.ensures at (sym c.is_some.ensures ∙ c.if-is_some.false)) in
    record {
      handle = c.in-Some.held;
      more = c.in-Ok.handle;
      held = sym c.get-2.ensures ∙ c.in-Some.is;
      filled = rw (c.fill.ensures, c.in_ok-reserve.ensures.same)
          (at_filled handles r c.in-Ok.handle empty);
      again = c.in-Ok.ensures.again;
      stays = c.in-Ok.ensures.stays;
    }

pub returns-in-Err-clause-goes : goal.returns-in-Err-clause-goes
unfolding IsRight
returns-in-Err-clause-goes g c config s filled =
    let fits = g.T.Tag.fits in
    let cache = c.args.cache.now in
    let client = c.args.client.now in
    let handles = c.args.registers.now.filled.items in
    let r = c.args.register in
    let told = c.in-Err.ensures in
    let empty : at handles r ≡ None = no_handle handles r
    (rw c.get.ensures at (sym c.is_some.ensures ∙ c.if-is_some.false)) in
    let from = c.args.from in
    let full : at handles from ≡ Some c.in-Some.held = sym c.get-2.ensures ∙ c.in-Some.is in
    let refused = look_refused fits cache config s client (Err c.in-Err.error) c.in-Err.error
    refl filled.limited told.full told.spent in (
      s,
      (
        empty_told fits cache config s client handles r empty filled,
        full_told fits cache config s client handles from c.in-Some.held full filled,
        rw c.refusal.ensures refused,
        refl,
      ),
      rw c.in_ok-reserve.ensures.same
          (stays fits cache config s client c.reref.new.client handles told.refused filled),
    )

pub returns-in-Err-clause-did : goal.returns-in-Err-clause-did
unfolding Does
returns-in-Err-clause-did g c = record {
  client = c.in-Err.ensures.refused;
  registers = λ r. rw c.in_ok-reserve.ensures.same refl;
}

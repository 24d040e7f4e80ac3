use Rattle.std.proofs.Common.{◌≡◌, true, None, Ok, Err, refl, sym, ◌∙◌, arith}
use Rattle.std.specs.Prelude.{is_some}
use Rattle.hcc_player.specs.Registers.{at}
use Rattle.hcc_player.specs.RunAnswers.{IsRight}
use Rattle.hcc_player.specs.RunCalls.{Does}
use Rattle.hcc_player.proofs.CallLemmas.{busy_told, empty_told, lookup_goes, look_refused, may_look}
use Rattle.hcc_player.proofs.CallLemmas.{no_handle, stays}
use Rattle.hcc_player.proofs.RegisterLemmas.{at_filled, same_filled}
use Rattle.hcc_player.proofs.run.calls.lookup.Goals as goal

pub returns-then-is_some-clause-goes : goal.returns-then-is_some-clause-goes
unfolding IsRight
returns-then-is_some-clause-goes g c config s filled =
    let fits = g.T.Tag.fits in
    let cache = c.args.cache.now in
    let client = c.args.client.now in
    let handles = c.args.registers.now.filled.items in
    let r = c.args.register in
    let full : is_some (at handles r) ≡ true =
    rw c.get.ensures at (sym c.is_some.ensures ∙ c.if-is_some.true) in
    (s, (busy_told fits cache config s client handles r full filled, refl), filled)

pub returns-then-is_some-clause-did : goal.returns-then-is_some-clause-did
unfolding Does
returns-then-is_some-clause-did g c = record { client = refl; registers = λ r. refl }

pub returns-in-Ok-Some-clause-goes : goal.returns-in-Ok-Some-clause-goes
returns-in-Ok-Some-clause-goes g c config s filled =
    let fits = g.T.Tag.fits in
    let cache = c.args.cache.now in
    let client = c.args.client.now in
    let handles = c.args.registers.now.filled.items in
    let r = c.args.register in
    let told = c.in-Ok-Some.ensures in
    let empty : at handles r ≡ None = no_handle handles r
    (rw c.get.ensures at (sym c.is_some.ensures ∙ c.if-is_some.false)) in
    let found = rw c.in-Ok-Some.field-0-is at told.found in
    let may = may_look fits cache config s client (Ok c.in-Ok-Some.field-0) c.in-Ok-Some.field-0
    refl filled.known filled.limited told.full told.spent in
    rw (c.fill.ensures, c.in_ok-reserve.ensures.same)
    (lookup_goes fits cache config s client c.lookup.new.client handles r c.args.key
    c.in-Ok-Some.handle told.known may found empty filled)

pub returns-in-Ok-Some-clause-did : goal.returns-in-Ok-Some-clause-did
unfolding Does
returns-in-Ok-Some-clause-did g c =
    let told = c.in-Ok-Some.ensures in
    let handles = c.args.registers.now.filled.items in
    let r = c.args.register in
    let empty : at handles r ≡ None = no_handle handles r
    (rw c.get.ensures at (sym c.is_some.ensures ∙ c.if-is_some.false)) in
    record {
      handle = c.in-Ok-Some.handle;
      filled = rw (c.fill.ensures, c.in_ok-reserve.ensures.same)
          (at_filled handles r c.in-Ok-Some.handle empty);
      finds = rw c.in-Ok-Some.field-0-is at told.found;
      searched = rw c.in-Ok-Some.field-0-is at told.searched;
      words = (omega arith, omega arith);
      stays = told.stays;
    }

pub returns-in-Ok-None-clause-goes : goal.returns-in-Ok-None-clause-goes
unfolding IsRight
returns-in-Ok-None-clause-goes g c config s filled =
    let fits = g.T.Tag.fits in
    let cache = c.args.cache.now in
    let client = c.args.client.now in
    let handles = c.args.registers.now.filled.items in
    let r = c.args.register in
    let told = c.in-Ok-None.ensures in
    let empty : at handles r ≡ None = no_handle handles r
    (rw c.get.ensures at (sym c.is_some.ensures ∙ c.if-is_some.false)) in
    let may = may_look fits cache config s client (Ok c.in-Ok-None.field-0) c.in-Ok-None.field-0
    refl filled.known filled.limited told.full told.spent in
    let missed = rw c.in-Ok-None.field-0-is at told.missed in (
      s,
      (empty_told fits cache config s client handles r empty filled, may, refl),
      rw c.in_ok-reserve.ensures.same
          (same_filled fits cache config s client c.lookup.new.client handles told.known
          missed.works.self missed.keeps filled),
    )

pub returns-in-Ok-None-clause-did : goal.returns-in-Ok-None-clause-did
unfolding Does
returns-in-Ok-None-clause-did g c = record {
  misses = rw c.in-Ok-None.field-0-is at c.in-Ok-None.ensures.missed;
  searched = rw c.in-Ok-None.field-0-is at c.in-Ok-None.ensures.searched;
  words = (omega arith, omega arith);
  stays = c.in-Ok-None.ensures.stays;
}

pub returns-in-Err-clause-goes : goal.returns-in-Err-clause-goes
unfolding IsRight
returns-in-Err-clause-goes g c config s filled =
    let fits = g.T.Tag.fits in
    let cache = c.args.cache.now in
    let client = c.args.client.now in
    let handles = c.args.registers.now.filled.items in
    let r = c.args.register in
    let told = c.in-Err.ensures in
    let empty : at handles r ≡ None = no_handle handles r
    (rw c.get.ensures at (sym c.is_some.ensures ∙ c.if-is_some.false)) in
    let refused = look_refused fits cache config s client (Err c.in-Err.error) c.in-Err.error
    refl filled.limited told.full told.spent in (
      s,
      (
        empty_told fits cache config s client handles r empty filled,
        rw c.refusal.ensures refused,
        refl,
      ),
      rw c.in_ok-reserve.ensures.same
          (stays fits cache config s client c.lookup.new.client handles told.refused filled),
    )

pub returns-in-Err-clause-did : goal.returns-in-Err-clause-did
unfolding Does
returns-in-Err-clause-did g c = record {
  client = c.in-Err.ensures.refused;
  registers = λ r. rw c.in_ok-reserve.ensures.same refl;
}

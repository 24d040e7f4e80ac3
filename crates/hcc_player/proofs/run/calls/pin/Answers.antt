use Rattle.std.proofs.Common.{◌≡◌, true, None, refl, sym, ◌∙◌, arith}
use Rattle.std.specs.Prelude.{is_some}
use Rattle.hcc_player.specs.Registers.{at}
use Rattle.hcc_player.specs.RunAnswers.{IsRight}
use Rattle.hcc_player.specs.RunCalls.{Does}
use Rattle.hcc_player.proofs.CallLemmas.{busy_told, empty_told, no_handle, pin_goes, pin_refused}
use Rattle.hcc_player.proofs.DoesLemmas.{pin_did}
use Rattle.hcc_player.proofs.RegisterLemmas.{at_filled}
use Rattle.hcc_player.proofs.run.calls.pin.Goals.{in-Ok, in-Err}
use Rattle.hcc_player.proofs.run.calls.pin.Goals as goal

pub returns-then-is_some-clause-goes : goal.returns-then-is_some-clause-goes
unfolding IsRight
returns-then-is_some-clause-goes g c config s filled =
    let fits = g.T.Tag.fits in
    let cache = c.args.cache.now in
    let client = c.args.client.now in
    let handles = c.args.registers.now.filled.items in
    let r = c.args.register in
    let full : is_some (at handles r) ≡ true =
    rw c.get.ensures at (sym c.is_some.ensures ∙ c.if-is_some.true) in
    (s, (busy_told fits cache config s client handles r full filled, refl), filled)

pub returns-then-is_some-clause-did : goal.returns-then-is_some-clause-did
unfolding Does
returns-then-is_some-clause-did g c = record { client = refl; registers = λ r. refl }

pub returns-clause-goes : goal.returns-clause-goes
unfolding IsRight
returns-clause-goes g c =
    let fits = g.T.Tag.fits in
    let cache = c.args.cache.now in
    let client = c.args.client.now in
    let handles = c.args.registers.now.filled.items in
    let r = c.args.register in
    let empty : at handles r ≡ None = no_handle handles r
    (rw c.get.ensures at (sym c.is_some.ensures ∙ c.if-is_some.false)) in
    elim c.match-insert_pinned.branch [
      | in-Ok w ↦ rw (w.result-is, w.registers-is) (λ config s filled.
          rw (w.placed.ensures, w.fill.ensures, c.in_ok-reserve.ensures.same)
          (pin_goes fits cache config s client c.insert_pinned.new.client handles r c.args.key
          c.args.charge c.args.priority c.args.value w.in-Ok.handle w.in-Ok.inserted
          w.in-Ok.ensures.known w.in-Ok.ensures.may
          (rw c.into_vec.ensures at w.in-Ok.ensures.inserted) c.requires.fits empty filled))
      | in-Err w ↦ rw (w.result-is, w.registers-is) (λ config s filled.
          let told = w.in-Err.ensures in
          let gone = pin_refused fits cache config s client c.insert_pinned.new.client handles
          c.args.key c.args.charge c.args.priority c.args.value w.in-Err.error told.known
          (told.full, told.spent, told.large) (rw c.into_vec.ensures at told.inserted) filled in (
            gone.0,
            (empty_told fits cache config s client handles r empty filled, gone.1),
            rw c.in_ok-reserve.ensures.same gone.2,
          ))
    ]

pub returns-clause-did : goal.returns-clause-did
unfolding Does
returns-clause-did g c =
    let fits = g.T.Tag.fits in
    let cache = c.args.cache.now in
    let handles = c.args.registers.now.filled.items in
    let r = c.args.register in
    let empty : at handles r ≡ None = no_handle handles r
    (rw c.get.ensures at (sym c.is_some.ensures ∙ c.if-is_some.false)) in
    elim c.match-insert_pinned.branch [
      | in-Ok w ↦ rw (w.result-is, w.registers-is, w.placed.ensures)
          (pin_did fits cache c.args.client.now c.insert_pinned.new.client handles
          w.fill.new.self.filled.items r c.args.key c.args.charge c.args.priority c.args.value
          w.in-Ok.handle w.in-Ok.inserted (rw c.into_vec.ensures at w.in-Ok.ensures.inserted)
          w.in-Ok.ensures.evicts (omega arith, omega arith) w.in-Ok.ensures.shown
          w.in-Ok.ensures.others
          (rw (w.fill.ensures, c.in_ok-reserve.ensures.same)
          (at_filled handles r w.in-Ok.handle empty)))
      | in-Err w ↦ rw w.result-is (record {
        refuses = rw c.into_vec.ensures at w.in-Err.ensures.inserted;
        evicts = w.in-Err.ensures.evicts;
        others = w.in-Err.ensures.others;
      })
    ]

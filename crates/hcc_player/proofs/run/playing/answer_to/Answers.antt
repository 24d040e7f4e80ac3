use Rattle.std.proofs.Common.{length, refl, arith}
use Rattle.std.proofs.lemmas.Option.{slice_get_read}
use Rattle.hcc_player.proofs.ByteLemmas.{if_ok_both, if_ok_so}
use Rattle.hcc_player.proofs.RunningLemmas.{steps_by}
use Rattle.hcc_player.proofs.run.playing.answer_to.Goals as goal

pub answer-requires-clause-can : goal.answer-requires-clause-can
answer-requires-clause-can g c =
    let m = c.requires.manned in
    let n = c.args.line.client in
    let clients = c.args.clients.now.items in
    let registers = c.args.registers.now.items in
    let within = c.requires.client in
    let count = m.2.count in (
      m.0,
      m.1 n,
      m.2.each n c.index_mut.result.now c.index_mut-2.result.now
          (slice_get_read clients (length clients) n c.index_mut.result.now refl within
          c.index_mut.ensures.value)
          (slice_get_read registers (length registers) n c.index_mut-2.result.now refl
          (omega arith) c.index_mut-2.ensures.value),
    )

pub returns-clause-steps : goal.returns-clause-steps
returns-clause-steps g c =
    let n = c.args.line.client in
    let clients = c.args.clients.now.items in
    let registers = c.args.registers.now.items in
    let within = c.requires.client in
    let count = c.requires.manned.2.count in
    if_ok_so c.answer.result _ _ (λ answer goes.
    steps_by g.T.Tag.fits c.args.cache.now c.args.line answer clients registers
    c.index_mut.result.now c.answer.new.client c.index_mut-2.result.now c.answer.new.registers
    (slice_get_read clients (length clients) n c.index_mut.result.now refl within
    c.index_mut.ensures.value)
    (slice_get_read registers (length registers) n c.index_mut-2.result.now refl
    (omega arith) c.index_mut-2.ensures.value) goes) c.answer.ensures.goes

pub returns-clause-did : goal.returns-clause-did
returns-clause-did g c =
    let n = c.args.line.client in
    let clients = c.args.clients.now.items in
    let registers = c.args.registers.now.items in
    let within = c.requires.client in
    let count = c.requires.manned.2.count in
    if_ok_both c.answer.result _ _ _ (λ answer goes did. record {
      before = c.index_mut.result.now;
      after = c.answer.new.client;
      held = c.index_mut-2.result.now;
      holds = c.answer.new.registers;
      client_was = slice_get_read clients (length clients) n c.index_mut.result.now refl within
          c.index_mut.ensures.value;
      registers_were = slice_get_read registers (length registers) n c.index_mut-2.result.now
          refl (omega arith) c.index_mut-2.ensures.value;
      clients_are = refl;
      registers_are = refl;
      goes = goes;
      did = did;
    }) c.answer.ensures.goes c.answer.ensures.did

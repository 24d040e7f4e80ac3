use Rattle.std.proofs.Common.{◌≡◌, Some, None, refl, sym, ◌∙◌}
use Rattle.hcc_cache.specs.Clients.{held_of}
use Rattle.hcc_player.specs.Registers.{at}
use Rattle.hcc_player.specs.RunAnswers.{IsRight}
use Rattle.hcc_player.specs.RunCalls.{Does}
use Rattle.hcc_player.proofs.ByteLemmas.{read_back}
use Rattle.hcc_player.proofs.CallLemmas.{empty_told}
use Rattle.hcc_player.proofs.RegisterLemmas.{on_register, same_filled}
use Rattle.hcc_player.proofs.run.calls.value.Goals as goal

pub returns-in_default-clause-goes : goal.returns-in_default-clause-goes
unfolding IsRight
returns-in_default-clause-goes g c config s filled =
    let fits = g.T.Tag.fits in
    let cache = c.args.cache.now in
    let client = c.args.client.now in
    let handles = c.args.registers.now.filled.items in
    let r = c.args.register in
    let none : at handles r ≡ None = sym c.get.ensures ∙ c.in_default.is in
    (s, (empty_told fits cache config s client handles r none filled, refl), filled)

pub returns-in_default-clause-did : goal.returns-in_default-clause-did
unfolding Does
returns-in_default-clause-did g c = record { client = refl; registers = λ r. refl }

pub returns-clause-goes : goal.returns-clause-goes
unfolding IsRight
returns-clause-goes g c config s filled =
    let fits = g.T.Tag.fits in
    let cache = c.args.cache.now in
    let client = c.args.client.now in
    let handles = c.args.registers.now.filled.items in
    let r = c.args.register in
    let full : at handles r ≡ Some c.in-Some.handle = sym c.get.ensures ∙ c.in-Some.is in
    let on = on_register fits cache config s client handles r c.in-Some.handle full filled in
    let looked = c.value_len-len.ensures in
    let read = c.read_value.ensures in
    let here : held_of cache c.value_len-len.new.client c.in-Some.handle ≡ Some on.held =
    looked.reads.keeps.all c.in-Some.handle ∙ on.here in
    let len = rw on.here at looked.exact in
    let bytes = rw here at read.bytes in
    let first = same_filled fits cache config s client c.value_len-len.new.client handles
    looked.known looked.reads.rests.self looked.reads.keeps filled in
    let second = same_filled fits cache config s c.value_len-len.new.client
    c.read_value.new.client handles read.known read.reads.rests.self read.reads.keeps first in
    let back = read_back c.from_vec.result c.read_value.new.buffer on.held.insertion.value
    c.deref_mut.result.now c.in_ok-bytes.bytes.items c.in_ok-bytes.bytes.len c.from_vec.ensures
    bytes (c.in_ok-bytes.ensures.len ∙ len) in
    (s, ((on.held.insertion, on.inserted, back), refl), second)

pub returns-clause-did : goal.returns-clause-did
unfolding Does
returns-clause-did g c =
    let fits = g.T.Tag.fits in
    let cache = c.args.cache.now in
    let client = c.args.client.now in
    let handles = c.args.registers.now.filled.items in
    let r = c.args.register in
    let full : at handles r ≡ Some c.in-Some.handle = sym c.get.ensures ∙ c.in-Some.is in
    let can = c.requires in
    let on = on_register fits cache can.0 can.1 client handles r c.in-Some.handle full can.2 in
    let looked = c.value_len-len.ensures in
    let read = c.read_value.ensures in
    let here : held_of cache c.value_len-len.new.client c.in-Some.handle ≡ Some on.held =
    looked.reads.keeps.all c.in-Some.handle ∙ on.here in
    let len = rw on.here at looked.exact in
    let bytes = rw here at read.bytes in
    record {
      handle = c.in-Some.handle;
      held = full;
      stands = on.held;
      here = on.here;
      value_is = read_back c.from_vec.result c.read_value.new.buffer on.held.insertion.value
          c.deref_mut.result.now c.in_ok-bytes.bytes.items c.in_ok-bytes.bytes.len
          c.from_vec.ensures bytes (c.in_ok-bytes.ensures.len ∙ len);
      between = c.value_len-len.new.client;
      measures = looked.reads;
      measured = looked.stays;
      reads = read.reads;
      stays = read.stays;
    }

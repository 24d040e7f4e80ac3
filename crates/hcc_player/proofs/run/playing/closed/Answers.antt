use Rattle.std.proofs.Common.{◌≡◌, Some, length, length-set, slice_get, refl, arith}
use Rattle.std.proofs.lemmas.Option.{slice_get_read, slice_get_within}
use Rattle.hcc_player.proofs.EndLemmas.{lets_go, not_refused}
use Rattle.hcc_player.proofs.run.playing.closed.Goals as goal

pub loop-number-init : goal.loop-number-init
loop-number-init g c =
    let m = c.requires.manned in
    record {
      count = refl;
      alike = m.2.count;
      before = λ c client within at. absurd (omega arith);
      did = λ c client within at. absurd (omega arith);
      same = λ c within. refl;
      behind = λ k client held within here there. (m.0, m.1 k, m.2.each k client held here there);
    }

pub let_go-requires : goal.let_go-requires
let_go-requires g c =
    let inv = c.loop-number.invariant in
    let n = c.loop-number.number in
    let clients = c.loop-number.clients.items in
    let registers = c.args.registers.items in
    let below = c.loop-number-test.true in
    let all = c.len-number-end.ensures in
    let count = inv.count in
    let alike = inv.alike in
    let client = c.index_mut.result.now in
    let held = c.index.result.now in
    inv.behind n client held (omega arith)
    (slice_get_read clients (length clients) n client refl (omega arith)
    c.index_mut.ensures.value)
    (slice_get_read registers (length registers) n held refl (omega arith)
    c.index.ensures)

pub loop-number-preserved : goal.loop-number-preserved
loop-number-preserved g c =
    let clients = c.loop-number.clients.items in
    let registers = c.args.registers.items in
    let n = c.loop-number.number in
    lets_go g.T.Tag.fits c.args.cache n c.args.clients.items clients _ c.args.registers.items
    c.let_go.new.client c.loop-number.invariant refl
    (length-set clients n c.let_go.new.client) c.let_go.ensures.known c.let_go.ensures.none
    (λ client held here there.
    let inv = c.loop-number.invariant in
    let count = inv.count in
    let alike = inv.alike in
    let below = c.loop-number-test.true in
    let all = c.len-number-end.ensures in
    let mine : slice_get clients n ≡ Some c.index_mut.result.now =
    slice_get_read clients (length clients) n c.index_mut.result.now refl (omega arith)
    c.index_mut.ensures.value in
    let its : slice_get registers n ≡ Some c.index.result.now =
    slice_get_read registers (length registers) n c.index.result.now refl
    (omega arith) c.index.ensures in
    let same : client ≡ c.index_mut.result.now =
    cc (here, mine, inv.same n (omega arith)) in
    let alone : held ≡ c.index.result.now = cc (there, its) in
    rw (same, alone) c.let_go.ensures.did)

pub close-requires : goal.close-requires
close-requires g c k client at =
    let inv = c.loop-number.invariant in
    let past = c.loop-number-test.false in
    let all = c.len-number-end.ensures in
    let count = inv.count in
    let within = slice_get_within c.loop-number.clients.items k client at in
    (inv.before k client (omega arith) at).0

pub unreachable-requires : goal.unreachable-requires
unreachable-requires g c =
    let inv = c.loop-number.invariant in
    let past = c.loop-number-test.false in
    let all = c.len-number-end.ensures in
    let count = inv.count in
    let enough = c.requires.enough in
    not_refused g.T.Tag.fits c.args.cache c.in-Err.field-0.0 c.loop-number.clients.items
    (omega arith)
    (λ k client at.
    let within = slice_get_within c.loop-number.clients.items k client at in
    (inv.before k client (omega arith) at).1) c.in-Err.ensures.closes.0

pub returns : goal.returns
returns g c =
    let inv = c.loop-number.invariant in
    let past = c.loop-number-test.false in
    let all = c.len-number-end.ensures in
    let count = inv.count in
    record {
      left = c.loop-number.clients.items;
      count = inv.count;
      each = λ k client last held here there at.
          let within = slice_get_within c.loop-number.clients.items k last at in
          inv.did k last (omega arith) at client held here there;
      back = c.in-Ok.ensures.closes.0;
      closes = c.in-Ok.ensures.closes.1;
    }

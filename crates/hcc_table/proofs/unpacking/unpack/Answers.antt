use Rattle.std.proofs.Common.{◌≡◌, ◌*◌, ◌/◌, ◌%◌, ◌<◌, refl, arith}
use Rattle.hcc_table.proofs.Unpackings.{unpacks, all_unpacked}
use Rattle.hcc_table.proofs.unpacking.unpack.Goals as goal

pub loop-index-preserved : goal.loop-index-preserved
loop-index-preserved c =
    let low : c.loop-index.index < c.args.count / 8 = c.loop-index-test.true in
    unpacks c.args.words.now c.loop-index.index 8 c.args.buffer.now (omega arith) (omega arith)
    (omega arith) (omega arith) c.loop-index.invariant c.put.ensures

pub returns-then-rest-gt0 : goal.returns-then-rest-gt0
returns-then-rest-gt0 c = record {
  copies = λ value long small has.
      let at : c.loop-index.index ≡ c.args.count / 8
      = omega (arith, c.loop-index-test.false, c.loop-index.auto.index-end) in (
        long,
        c.if-buffer-count.false,
        all_unpacked c.args.words.now c.args.buffer.now value refl long small has
            (unpacks c.args.words.now (c.args.count / 8) (c.args.count % 8) c.args.buffer.now
            c.if-rest-gt0.true (omega arith) (omega arith) (omega arith)
            (rw (← at) c.loop-index.invariant) c.put-then-rest-gt0.ensures),
      );
}

pub returns-else-rest-gt0 : goal.returns-else-rest-gt0
returns-else-rest-gt0 c = record {
  copies = λ value long small has.
      let at : 8 * c.loop-index.index ≡ c.args.count
      = omega (
        arith,
        c.loop-index-test.false,
        c.loop-index.auto.index-end,
        c.if-rest-gt0.false,
      ) in (
        long,
        c.if-buffer-count.false,
        all_unpacked c.args.words.now c.args.buffer.now value at long small has
            c.loop-index.invariant,
      );
}

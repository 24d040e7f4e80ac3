use Rattle.std.proofs.Common.{◌≡◌, ◌+◌, ◌%◌, ◌^◌, ◌<◌, sum, drop}
use Rattle.hcc_player.proofs.blocks.tally.with_bytes.Given as goal

abbrev pub invariant-loop-byte : goal.invariant-loop-byte
invariant-loop-byte l = record {
  small : l.total < 2 ^ 64;
  summed : (l.total + sum (drop l.byte-index l.bytes)) % 2 ^ 64
      ≡ (l.start + sum l.bytes) % 2 ^ 64;
}

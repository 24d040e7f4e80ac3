use Rattle.std.proofs.Common.{◌≡◌, ◌++◌, string_bytes, take}
use Rattle.std.specs.List.{flat_map}
use Rattle.hcc_player.specs.Text.{byte_text}
use Rattle.hcc_player.proofs.print.push_bytes.Given as goal

abbrev pub invariant-loop-byte : goal.invariant-loop-byte
invariant-loop-byte l =
    string_bytes l.out ≡ string_bytes l.fn.out ++ flat_map byte_text (take l.byte-index l.bytes)

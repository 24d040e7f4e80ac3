use Rattle.std.proofs.Common.{sym}
use Rattle.hcc_rule.proofs.LastSeat.Closings.{word_read}
use Rattle.hcc_rule.proofs.closed.ClosedTable.word.Goals as goal

pub returns : goal.returns
returns g c = sym (word_read _ c.args.address c.word.result c.word.ensures)

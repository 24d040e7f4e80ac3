use Rattle.hcc_rule.proofs.Images.Payloads.{IsPacking}
use Rattle.hcc_rule.proofs.beginning.write_payload.Given as goal

abbrev pub invariant-loop-index : goal.invariant-loop-index
invariant-loop-index l = IsPacking l.value l.first l.index l.fn.words l.words

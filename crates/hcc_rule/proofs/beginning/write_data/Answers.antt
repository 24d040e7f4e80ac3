use Rattle.std.proofs.Common.{◌+◌, length, ap, arith}
use Rattle.hcc_rule.specs.Words.{words_for}
use Rattle.hcc_rule.proofs.Images.Payloads.{data_lies, data_before, data_behind}
use Rattle.hcc_rule.proofs.beginning.write_data.Goals as goal

pub returns-clause-entry : goal.returns-clause-entry
returns-clause-entry c =
    data_lies c.args.words.now c.write_payload.new.words c.args.first c.args.number _
    c.args.entry.now (omega arith)
    (ap length c.as_slice-value.ensures.value) c.write_payload.ensures.before
    (rw (← c.as_slice-value.ensures.value) c.write_payload.ensures.value)

pub returns-clause-before : goal.returns-clause-before
returns-clause-before c =
    data_before c.args.words.now c.write_payload.new.words c.args.first c.args.number _
    c.args.entry.now (omega arith)
    (ap length c.as_slice-value.ensures.value) c.write_payload.ensures.before

pub returns-clause-behind : goal.returns-clause-behind
returns-clause-behind c a high =
    let same = ap length c.as_slice-value.ensures.value in
    data_behind c.args.words.now c.write_payload.new.words c.args.first c.args.number _
    c.args.entry.now (omega arith)
    (ap length c.as_slice-value.ensures.value) c.write_payload.ensures.before
    (c.args.first + 5 + words_for (length c.args.entry.now.value.items)) a (omega arith) high
    (c.write_payload.ensures.behind a (omega arith))

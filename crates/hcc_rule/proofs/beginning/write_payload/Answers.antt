use Rattle.std.proofs.Common.{refl, arith}
use Rattle.hcc_rule.proofs.Images.Payloads.{packs_none, packs_more, packed}
use Rattle.hcc_rule.proofs.beginning.write_payload.Goals as goal

pub loop-index-init : goal.loop-index-init
loop-index-init c = packs_none c.args.value.now c.args.first c.args.words.now

pub loop-index-preserved : goal.loop-index-preserved
loop-index-preserved c =
    packs_more c.args.value.now c.args.first c.loop-index.index c.word_at.result c.args.words.now
    c.loop-index.words _ c.loop-index.invariant (omega arith) c.word_at.ensures refl

pub returns-clause-value : goal.returns-clause-value
returns-clause-value c =
    packed c.args.value.now c.args.first c.loop-index.index c.args.words.now c.loop-index.words
    c.loop-index.invariant (omega arith)

pub returns-clause-before : goal.returns-clause-before
returns-clause-before c = c.loop-index.invariant.before

pub returns-clause-behind : goal.returns-clause-behind
returns-clause-behind c a high = c.loop-index.invariant.behind a (omega arith)

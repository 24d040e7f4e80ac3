use Rattle.std.proofs.Common.{◌-◌, refl, sym, bit_and}
use Rattle.hcc_rule.proofs.Images.Puts.{passes_none, passes_more, passes_all, passes_end, passes_low}
use Rattle.hcc_rule.proofs.beginning.pass_trail.Goals as goal

pub loop-init : goal.loop-init
loop-init c =
    passes_none c.args.geometry.slots c.args.geometry.room c.args.entry.now.key c.requires.power
    c.args.entry.now.slot c.args.words.now

pub loop-preserved : goal.loop-preserved
loop-preserved c =
    passes_more c.args.geometry.slots c.args.geometry.room c.args.entry.now.key c.requires.power
    c.args.entry.now.slot c.loop.counter c.loop.probe _
    (bit_and c.loop.probe (c.args.geometry.slots - 1)) _ c.args.words.now c.loop.words _
    c.loop.invariant c.requires.wide c.loop-test.true refl c.if-slot-entry.false refl refl refl

pub returns-then-slot-entry-clause-passed : goal.returns-then-slot-entry-clause-passed
returns-then-slot-entry-clause-passed c =
    passes_all c.args.geometry.slots c.args.geometry.room c.args.entry.now.key c.requires.power
    c.args.entry.now.slot c.loop.counter c.loop.probe c.args.words.now c.loop.words
    c.loop.invariant c.loop-test.true (sym c.if-slot-entry.true)

pub returns-then-slot-entry-clause-others : goal.returns-then-slot-entry-clause-others
returns-then-slot-entry-clause-others c = c.loop.invariant.others

pub overflow_add-words-in-loop : goal.overflow_add-words-in-loop
overflow_add-words-in-loop c = record {
  fits = passes_low c.args.geometry.slots c.args.geometry.room c.args.entry.now.key
      c.requires.power c.args.entry.now.slot c.loop.counter c.loop.probe
      (bit_and c.loop.probe (c.args.geometry.slots - 1)) c.args.words.now c.loop.words
      c.loop.invariant c.loop-test.true c.requires.slots refl c.requires.space;
}

pub returns-clause-passed : goal.returns-clause-passed
returns-clause-passed c s near =
    absurd (passes_end c.args.geometry.slots c.args.geometry.room c.args.entry.now.key
    c.requires.power c.args.entry.now.slot c.loop.counter c.loop.probe c.args.words.now
    c.loop.words c.loop.invariant c.requires.slot c.loop-test.false)

pub returns-clause-others : goal.returns-clause-others
returns-clause-others c = c.loop.invariant.others

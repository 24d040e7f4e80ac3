use Rattle.std.proofs.Common.{◌+◌, refl, arith}
use Rattle.hcc_rule.proofs.Images.Puts.{puts_next, space_next, slot_next, sized_next, entry_read, all_put}
use Rattle.hcc_rule.proofs.beginning.put_all.Goals as goal

pub loop-number-init : goal.loop-number-init
loop-number-init c = c.requires.none

pub put-requires-clause-slot : goal.put-requires-clause-slot
put-requires-clause-slot c =
    slot_next c.args.geometry.slots c.args.geometry.room c.args.image.now c.requires.rising
    c.requires.sized c.loop-number.number _
    (entry_read c.args.image.now c.loop-number.number c.index-image-number.result
    (omega arith) c.index-image-number.is)

pub put-requires-clause-sized : goal.put-requires-clause-sized
put-requires-clause-sized c =
    sized_next c.args.geometry.slots c.args.geometry.room c.args.image.now c.requires.rising
    c.requires.sized c.loop-number.number _
    (entry_read c.args.image.now c.loop-number.number c.index-image-number.result
    (omega arith) c.index-image-number.is)

pub put-requires-clause-space : goal.put-requires-clause-space
put-requires-clause-space c =
    space_next c.args.geometry.slots c.args.geometry.room c.args.image.now c.requires.rising
    c.requires.sized c.loop-number.number c.loop-number.words c.loop-number.invariant
    c.requires.power c.requires.slots c.requires.few

pub loop-number-preserved : goal.loop-number-preserved
loop-number-preserved c =
    puts_next c.args.geometry.slots c.args.geometry.room c.args.image.now c.requires.rising
    c.requires.sized c.loop-number.number (c.loop-number.number + 1) _ c.loop-number.words
    c.put.new.words (entry_read c.args.image.now c.loop-number.number c.index-image-number.result
    (omega arith) c.index-image-number.is) refl
    c.loop-number.invariant c.put.ensures

pub returns : goal.returns
returns c =
    all_put c.args.geometry.slots c.args.geometry.room c.args.image.now c.requires.rising
    c.requires.sized c.loop-number.number c.loop-number.words (omega arith) c.loop-number.invariant

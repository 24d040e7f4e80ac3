use Rattle.std.proofs.Common.{refl}
use Rattle.hcc_table.specs.Seeking.{is_write}
use Rattle.hcc_table.proofs.Seeking.{goes_event, goes_then}
use Rattle.hcc_table.proofs.build.write_head.Goals as goal

pub returns-clause-by : goal.returns-clause-by
returns-clause-by g c =
    let t = c.args.table.now in
    let a = c.args.seat.now in
    let b = c.write_at.new.seat in
    let d = c.write_at-2.new.seat in
    let e = c.write_at-3.new.seat in
    let f = c.write_at-4.new.seat in
    let h = c.write_at-5.new.seat in
    goes_then t is_write a b h (goes_event t is_write _ a b c.write_at.ensures.event refl)
    (goes_then t is_write b d h (goes_event t is_write _ b d c.write_at-2.ensures.event refl)
    (goes_then t is_write d e h (goes_event t is_write _ d e c.write_at-3.ensures.event refl)
    (goes_then t is_write e f h (goes_event t is_write _ e f c.write_at-4.ensures.event refl)
    (goes_event t is_write _ f h c.write_at-5.ensures.event refl))))

pub write_at-requires-4-clause-stamp : goal.write_at-requires-4-clause-stamp
write_at-requires-4-clause-stamp g c = λ is.
    rw (c.write_at-3.ensures.view, c.write_at-2.ensures.view, c.write_at.ensures.view)
    (c.args.draft.serial, rw (← c.requires.own) refl, c.requires.serial, c.requires.above)

use Rattle.std.proofs.Common.{◌≡◌, ◌++◌, Some, None, string_bytes, slice_get, arith, rules, sym, ap}
use Rattle.std.proofs.Common.{◌∙◌, append_assoc, append-nil}
use Rattle.std.proofs.lemmas.Option.{slice_get_within}
use Rattle.hcc_core.specs.World.{passed_at}
use Rattle.hcc_player.specs.Text.{slot_text, gap}
use Rattle.hcc_player.proofs.TextLemmas.{slots_here, slots_past}
use Rattle.hcc_player.proofs.print.push_slots.Goals as goal

pub returns-in_default : goal.returns-in_default
returns-in_default c =
    let world = c.args.world.now in
    let none : slice_get world.slots c.loop-number.number ≡ None = search rules in
    let ended = slots_past world world.slots c.loop-number.number none in
    sym (append-nil (string_bytes c.loop-number.out))
    ∙ ap (λ l. string_bytes c.loop-number.out ++ l) (sym ended)
    ∙ c.loop-number.invariant.written

pub loop-number-preserved : goal.loop-number-preserved
loop-number-preserved c =
    let world = c.args.world.now in
    let n = c.loop-number.number in
    let here : slice_get world.slots n ≡ Some c.in-Some.slot.now = search rules in
    let within = slice_get_within world.slots n c.in-Some.slot.now here in
    let more = slots_here world world.slots n c.in-Some.slot.now here in
    let so_far = c.loop-number.invariant.written in
    let pushed : string_bytes c.push_slot.new.out
    ≡ string_bytes c.loop-number.out ++ gap n ++ slot_text c.in-Some.slot.now (passed_at world n) =
    search rules in
    record {
      few = λ h. search rules;
      within = omega arith;
      written = rw pushed (simp append_assoc (simp append_assoc at (rw more at so_far)));
    }

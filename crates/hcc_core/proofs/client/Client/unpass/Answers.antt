use Rattle.std.proofs.Common.{◌≡◌, Some, None, position, sym, ◌∙◌, ap}
use Rattle.hcc_core.specs.Trails.{is_slot}
use Rattle.hcc_core.proofs.DroppedLemmas.{remove_at, keep_all}
use Rattle.hcc_core.proofs.client.Client.unpass.Goals as goal

pub returns-in-Some : goal.returns-in-Some
returns-in-Some c =
    let list = c.args.self.now.trail in
    let found : position (is_slot c.args.slot) list ≡ Some c.in-Some.index =
    sym (ap (position (is_slot c.args.slot)) c.as_slice.ensures)
    ∙ sym c.index_in.ensures.first ∙ c.in-Some.is in
    ap (λ xs. record c.args.self.now { trail = xs })
    (c.remove.ensures.after ∙ remove_at (is_slot c.args.slot) list c.in-Some.index found)

pub returns-in_default : goal.returns-in_default
returns-in_default c =
    let list = c.args.self.now.trail in
    let found : position (is_slot c.args.slot) list ≡ None =
    sym (ap (position (is_slot c.args.slot)) c.as_slice.ensures)
    ∙ sym c.index_in.ensures.first ∙ c.in_default.is in
    ap (λ xs. record c.args.self.now { trail = xs }) (keep_all (is_slot c.args.slot) list found)

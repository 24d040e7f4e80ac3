use Rattle.std.proofs.Common.{◌≡◌, Some, None, position, sym, ◌∙◌, ap}
use Rattle.hcc_core.specs.Ledgers.{is_standing}
use Rattle.hcc_core.proofs.DroppedLemmas.{remove_at, keep_all}
use Rattle.hcc_core.proofs.client.Client.fell.Goals as goal

pub returns-in-Some : goal.returns-in-Some
returns-in-Some c =
    let list = c.args.self.now.standalones in
    let found : position (is_standing c.args.name) list ≡ Some c.in-Some.index =
    sym (ap (position (is_standing c.args.name)) c.as_slice.ensures)
    ∙ sym c.index_of.ensures.first ∙ c.in-Some.is in
    ap (λ xs. record c.args.self.now { standalones = xs })
    (c.remove.ensures.after ∙ remove_at (is_standing c.args.name) list c.in-Some.index found)

pub returns-in_default : goal.returns-in_default
returns-in_default c =
    let list = c.args.self.now.standalones in
    let found : position (is_standing c.args.name) list ≡ None =
    sym (ap (position (is_standing c.args.name)) c.as_slice.ensures)
    ∙ sym c.index_of.ensures.first ∙ c.in_default.is in
    ap (λ xs. record c.args.self.now { standalones = xs })
    (keep_all (is_standing c.args.name) list found)

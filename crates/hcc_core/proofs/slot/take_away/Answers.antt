use Rattle.std.proofs.Common.{◌≡◌, Some, None, position, sym, ◌∙◌, ap}
use Rattle.hcc_core.specs.World.{is_named}
use Rattle.hcc_core.proofs.DroppedLemmas.{remove_at, keep_all}
use Rattle.hcc_core.proofs.slot.take_away.Goals as goal

pub returns-in-Some : goal.returns-in-Some
returns-in-Some c =
    let same = ap (position (is_named c.args.client c.args.name)) c.as_slice.ensures in
    let found : position (is_named c.args.client c.args.name) c.args.references.now
    ≡ Some c.in-Some.index =
    sym same ∙ sym c.index_of.ensures.first ∙ c.in-Some.is in
    c.remove.ensures.after
    ∙ remove_at (is_named c.args.client c.args.name) c.args.references.now c.in-Some.index found

pub returns-in_default : goal.returns-in_default
returns-in_default c =
    let same = ap (position (is_named c.args.client c.args.name)) c.as_slice.ensures in
    let found : position (is_named c.args.client c.args.name) c.args.references.now ≡ None =
    sym same ∙ sym c.index_of.ensures.first ∙ c.in_default.is in
    keep_all (is_named c.args.client c.args.name) c.args.references.now found

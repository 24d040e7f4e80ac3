use Rattle.hcc_word.proofs.StepLaws.{store_visible}
use Rattle.hcc_word.proofs.changes.started.Goals as goal

pub returns-clause-entry : goal.returns-clause-entry
returns-clause-entry c =
    let shown = store_visible c.args.countdown c.args.keep c.requires.some in
    cc

use Rattle.hcc_table.proofs.Logs.{unlike_hit, unmarked_one}
use Rattle.hcc_table.proofs.acquire.relieve.Goals as goal

pub returns-then-correct-word-clause-adds : goal.returns-then-correct-word-clause-adds
returns-then-correct-word-clause-adds g c =
    unmarked_one _ c.correct.ensures.step.step (unlike_hit c.args.word c.in-Some.ensures.0)

pub returns-else-correct-word-clause-adds : goal.returns-else-correct-word-clause-adds
returns-else-correct-word-clause-adds g c =
    unmarked_one _ c.correct.ensures.step.step (unlike_hit c.args.word c.in-Some.ensures.0)

use Rattle.hcc_table.proofs.releasing.give_back.Goals as goal

pub returns-clause-gives : goal.returns-clause-gives
returns-clause-gives g c = (
  c.let_go.result,
  rw (← c.is_use-used.ensures) c.let_go.ensures.left,
  rw (← c.is_use-used.ensures) c.let_go.ensures.by,
)

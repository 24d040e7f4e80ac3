use Rattle.std.proofs.Common.{rules}
use Rattle.hcc_c.proofs.closed_exports.ferretgold_raw_close_keeping.Goals as goal

pub returns-clause-ends : goal.returns-clause-ends
returns-clause-ends c = (
  c.close_keeping-answer.result,
  c.close_keeping-answer.new.self,
  rw (c.deref_mut.ensures.value, c.cache-cache.ensures, c.left.ensures.value) at
      c.close_keeping-answer.ensures.ends,
  c.told_done.ensures,
  search rules,
  search rules,
)

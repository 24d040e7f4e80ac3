use Rattle.std.proofs.Common.{rules}
use Rattle.hcc_c.proofs.object_cache_exports.ferretgold_raw_object_close.Goals as goal

pub returns-clause-ends : goal.returns-clause-ends
returns-clause-ends c = (
  c.close-answer.result,
  c.close-answer.new.self,
  rw (c.deref_mut.ensures.value, c.cache-cache.ensures, c.kept.ensures.value) at
      c.close-answer.ensures.ends,
  c.told_done.ensures,
  search rules,
  search rules,
)

use Rattle.std.proofs.Common.{rules}
use Rattle.hcc_c.proofs.cache_exports.ferretgold_raw_close.Goals as goal

pub returns : goal.returns
returns c = record {
  ends = (
    c.close-answer.result,
    c.close-answer.new.self,
    rw (c.deref_mut.ensures.value, c.cache-cache.ensures) at c.close-answer.ensures.ends,
    c.told_given.ensures.status,
    c.told_given.ensures.value,
    search rules,
    search rules,
  );
}

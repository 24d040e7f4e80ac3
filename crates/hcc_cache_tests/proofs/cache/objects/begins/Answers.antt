use Rattle.std.proofs.Common.{◌∙◌, ap, length, slice_get}
use Rattle.hcc_core.proofs.ListLemmas.{read_last}
use Rattle.hcc_cache_tests.proofs.cache.objects.begins.Goals as goal

pub returns-in-Some-clause-known : goal.returns-in-Some-clause-known
returns-in-Some-clause-known g c =
    let left = c.pop.new.self.items in
    c.in-Ok.ensures.made.known (length left) c.in-Some.me
    (ap (λ l. slice_get l (length left)) c.in-Some.ensures.items ∙ read_last left c.in-Some.me)

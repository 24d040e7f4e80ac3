use Rattle.hcc_rule.specs.Callers.{world_at}
use Rattle.hcc_table.proofs.Lasting.{finds_first, misses_exactly}
use Rattle.hcc_table.proofs.laws.law_found_alone.Goals as goal

pub returns-clause-first : goal.returns-clause-first
returns-clause-first g c = λ table key name marks answer before after old new one.
    finds_first g.T.Tag.fits table key name one marks answer before after old new

pub returns-clause-misses : goal.returns-clause-misses
returns-clause-misses g c = λ table key name marks answer before after old new one did.
    misses_exactly table key (world_at table old) answer
    (finds_first g.T.Tag.fits table key name one marks answer before after old new did)

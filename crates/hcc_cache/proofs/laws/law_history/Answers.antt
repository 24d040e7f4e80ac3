use Rattle.std.proofs.Common.{ap, sym, ◌∙◌}
use Rattle.hcc_core.specs.Runs.{entry_at}
use Rattle.hcc_rule.specs.Acts.{events_of}
use Rattle.hcc_rule.proofs.Seats.Runs.{run_shown}
use Rattle.hcc_cache.specs.Moments.{plan_in}
use Rattle.hcc_cache.proofs.Searches.FoundAsMade.{some_client}
use Rattle.hcc_cache.proofs.laws.law_history.Goals as goal

pub returns-clause-run : goal.returns-clause-run
returns-clause-run g c = λ config tag s m. m.holds.run

pub returns-clause-fronts : goal.returns-clause-fronts
returns-clause-fronts g c = λ config tag s m. m.holds.fronts

pub returns-clause-known : goal.returns-clause-known
returns-clause-known g c = λ config tag s m. m.holds.known

pub returns-clause-entries : goal.returns-clause-entries
returns-clause-entries g c = λ config tag s m slot entry there.
    run_shown (plan_in m.moment) (some_client m.moment.shard.table)
    (events_of m.holds.history) slot entry
    (ap (λ w. entry_at w slot) (sym (c.law_run.ensures.world (plan_in m.moment) s m.holds)) ∙ there)

pub returns-clause-kept : goal.returns-clause-kept
returns-clause-kept g c = λ config tag s t m later.
    c.law_run.ensures.kept (plan_in m.moment) s t m.holds later

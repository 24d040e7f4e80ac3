use Rattle.hcc_core.proofs.EveryRun.{every_run, run_counters_fit, run_keeps_places, run_finds_one}
use Rattle.hcc_core.proofs.EveryRun.{run_is_given, run_stands, run_stands_between}
use Rattle.hcc_core.proofs.laws.law_every_run.Goals as goal

pub returns-clause-lawful : goal.returns-clause-lawful
returns-clause-lawful c = every_run

pub returns-clause-counters : goal.returns-clause-counters
returns-clause-counters c = run_counters_fit

pub returns-clause-places : goal.returns-clause-places
returns-clause-places c = run_keeps_places

pub returns-clause-stands : goal.returns-clause-stands
returns-clause-stands c = run_stands

pub returns-clause-between : goal.returns-clause-between
returns-clause-between c = run_stands_between

pub returns-clause-found : goal.returns-clause-found
returns-clause-found c = run_finds_one

pub returns-clause-entries : goal.returns-clause-entries
returns-clause-entries c = run_is_given

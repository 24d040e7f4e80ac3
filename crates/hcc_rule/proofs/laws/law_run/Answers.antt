use Rattle.hcc_core.specs.Runs.{after_all}
use Rattle.hcc_core.proofs.EveryRun.{counters_fit}
use Rattle.hcc_rule.specs.Opening.{begun_world}
use Rattle.hcc_rule.proofs.Seats.Lifts.{known_allowed}
use Rattle.hcc_rule.proofs.Seats.Kept.{others_take_none, pasts_keep, states_keep}
use Rattle.hcc_rule.proofs.Seats.Runs.{run_finds, run_lawful, run_places, run_shown, starts_opening, world_is}
use Rattle.hcc_rule.proofs.laws.law_run.Goals as goal

pub returns-clause-run : goal.returns-clause-run
returns-clause-run g c = λ p s h. h.run

pub returns-clause-world : goal.returns-clause-world
returns-clause-world g c = world_is g.T.Tag.fits

pub returns-clause-trails : goal.returns-clause-trails
returns-clause-trails g c = λ p s h. h.trails

pub returns-clause-opening : goal.returns-clause-opening
returns-clause-opening g c = λ p planned. starts_opening p planned.some_client

pub returns-clause-fronts : goal.returns-clause-fronts
returns-clause-fronts g c = λ p s h. h.fronts

pub returns-clause-allowed : goal.returns-clause-allowed
returns-clause-allowed g c = known_allowed g.T.Tag.fits

pub returns-clause-known : goal.returns-clause-known
returns-clause-known g c = λ p s h. h.known

pub returns-clause-lawful : goal.returns-clause-lawful
returns-clause-lawful g c = run_lawful g.T.Tag.fits

pub returns-clause-counters : goal.returns-clause-counters
returns-clause-counters g c = λ p planned image events.
    counters_fit (after_all (begun_world p) events)
    (run_lawful g.T.Tag.fits p planned image events)

pub returns-clause-places : goal.returns-clause-places
returns-clause-places g c = λ p. run_places p

pub returns-clause-kept : goal.returns-clause-kept
returns-clause-kept g c = states_keep g.T.Tag.fits

pub returns-clause-kept_known : goal.returns-clause-kept_known
returns-clause-kept_known g c = pasts_keep g.T.Tag.fits

pub returns-clause-others : goal.returns-clause-others
returns-clause-others g c = others_take_none

pub returns-clause-found : goal.returns-clause-found
returns-clause-found g c = λ p. run_finds p

pub returns-clause-entries : goal.returns-clause-entries
returns-clause-entries g c = λ p planned. run_shown p planned.some_client

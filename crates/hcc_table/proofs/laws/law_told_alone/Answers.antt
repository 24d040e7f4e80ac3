use Rattle.hcc_rule.specs.Callers.{world_at}
use Rattle.hcc_rule.specs.Seats.{view}
use Rattle.hcc_table.proofs.Alone.{event_alone, occupancy_tells, usage_tells}
use Rattle.hcc_table.proofs.laws.law_told_alone.Goals as goal

pub returns-clause-usage : goal.returns-clause-usage
returns-clause-usage g c table used old new one event =
    usage_tells (world_at table old) (world_at table new) (view old).client used
    (event_alone table one _ old new event)

pub returns-clause-occupancy : goal.returns-clause-occupancy
returns-clause-occupancy g c table count old new one event =
    occupancy_tells (world_at table old) (world_at table new) (view old).client count
    (event_alone table one _ old new event)

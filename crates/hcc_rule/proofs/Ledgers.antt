pub mod LedgerSteps
pub mod LedgerGives
pub mod UsageSteps
pub mod OccupancySteps
pub mod StandingSteps
pub mod HandSteps
pub mod TrailSteps

pub mod ProbeNumbers
pub mod ProbeLaws

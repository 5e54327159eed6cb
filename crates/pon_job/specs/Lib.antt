pub mod Jobs
pub mod Outcomes

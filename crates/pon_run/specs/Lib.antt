pub mod Ends
pub mod Metrics
pub mod Runs
pub mod Settlements

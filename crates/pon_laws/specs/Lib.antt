pub mod Exact
pub mod Growth
pub mod Runs
pub mod Shares

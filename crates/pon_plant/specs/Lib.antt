pub mod Answers
pub mod Plants
pub mod Projections
pub mod Runs
pub mod Turning

pub mod Cuts
pub mod Giving
pub mod Lines
pub mod Planning
pub mod Progress

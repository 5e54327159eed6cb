pub mod Kept
pub mod Roster

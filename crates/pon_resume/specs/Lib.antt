pub mod LastChapters
pub mod Resuming
pub mod Ends
pub mod Changes

pub mod Counts
pub mod Faults
pub mod Posts
pub mod Receipts
pub mod Settling
pub mod Views
pub mod Walks

pub mod FaultDetails
pub mod Judgments
pub mod LastFrames
pub mod ListedRows
pub mod Loops
pub mod Owed
pub mod Refusals
mod Selling
mod Sold
pub mod Tallying

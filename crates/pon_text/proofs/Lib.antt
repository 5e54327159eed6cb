pub mod Continuing
pub mod Cutting
pub mod Digits
pub mod Feeds
pub mod Splitting
pub mod Streaming
pub mod WordCounts

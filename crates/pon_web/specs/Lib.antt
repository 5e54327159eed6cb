pub mod Checking
pub mod Frames
pub mod Handing
pub mod Judging
pub mod Pictures
pub mod Planning
pub mod Views

pub mod EachReply
pub mod InRange
pub mod LastMaps
pub mod Turning

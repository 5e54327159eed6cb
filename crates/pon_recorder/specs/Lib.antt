pub mod Going
pub mod Held
pub mod PortMaps
pub mod Recordings
pub mod Rings
pub mod Tapes
pub mod Whole

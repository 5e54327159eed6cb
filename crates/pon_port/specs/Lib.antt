pub mod Ports
pub mod Ranges

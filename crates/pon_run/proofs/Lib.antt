pub mod Endings
pub mod SettledPorts
pub mod SplitSeats

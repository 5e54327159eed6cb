pub mod Fields
pub mod Floors
pub mod Keys
pub mod Lines
pub mod Rows
pub mod Ports

pub mod Passing
pub mod Records
pub mod Turns

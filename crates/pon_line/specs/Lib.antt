pub mod Commands
pub mod Faults
pub mod Fields
pub mod Parts
pub mod Places
pub mod Reading
pub mod Table
pub mod Written

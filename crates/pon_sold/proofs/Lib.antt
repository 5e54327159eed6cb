mod Bounds
pub mod Granting
mod Parts
pub mod Places

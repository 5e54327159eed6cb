pub mod Alone
pub mod Interleaving
pub mod OneHistory
pub mod Stepping
pub mod Turning

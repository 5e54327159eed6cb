pub mod Heights
pub mod Means
pub mod Pictures
pub mod Pieces
pub mod Places

pub mod Frac
pub mod Granted
pub mod Polynomial

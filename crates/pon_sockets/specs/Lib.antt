pub mod Addresses
pub mod Units

pub mod Bytes
pub mod Distinct
pub mod Inserted
pub mod Lists
pub mod Order
pub mod Parts

pub mod Alloc
pub mod MapBytes
pub mod MapFaults
pub mod MapReading
pub mod MapRules

pub mod Bytes
pub mod Distinct
pub mod Kept
pub mod OptionSteps
pub mod Order
pub mod ResultSteps

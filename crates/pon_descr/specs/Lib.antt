pub mod Checks
pub mod Classes
pub mod Descriptor
pub mod Refusal
pub mod Tables

pub mod Members
pub mod RowFaults
pub mod Admission
pub mod PortFaults

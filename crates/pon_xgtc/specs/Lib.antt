pub mod BurstHead
pub mod HLend
pub mod Header

pub mod Explanations
pub mod Followings
pub mod Lasts
pub mod Places
pub mod Rates
pub mod RowViews
pub mod Sums
pub mod Tallies

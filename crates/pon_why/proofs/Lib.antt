mod Explaining
mod Following
mod LastPlaces
mod Placing
mod Retaking
pub mod SumLaws

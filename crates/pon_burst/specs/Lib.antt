pub mod Bursts
pub mod Layout
pub mod Maps
pub mod Series

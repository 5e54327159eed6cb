pub mod Parts
pub mod CheckFiles
pub mod CheckLines
pub mod Stages
pub mod Unfit

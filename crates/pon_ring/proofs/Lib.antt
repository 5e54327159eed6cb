pub mod Counted
pub mod Numbers
pub mod Outlets
pub mod Passing

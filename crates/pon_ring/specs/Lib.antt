pub mod Discarded
pub mod Numbers
pub mod Passing
pub mod Rings
pub mod Sinks

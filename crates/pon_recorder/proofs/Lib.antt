pub mod GoingOn
pub mod KeptChapters
pub mod MapCounts
pub mod Recordings
pub mod RingEnds
pub mod Whole

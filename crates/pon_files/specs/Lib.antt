pub mod SegmentNumbers
pub mod Segments

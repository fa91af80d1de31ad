pub mod SegmentNames
pub mod Gathered
pub mod Deciding

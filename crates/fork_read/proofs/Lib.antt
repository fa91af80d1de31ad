pub mod Numbered
pub mod Found
pub mod Pieces
pub mod PieceReads
pub mod Taken
pub mod SegmentSteps

pub mod Kept
pub mod Widths
pub mod Steps
pub mod Moves
pub mod Ends

pub mod Preserved
pub mod Ways
pub mod Kept
pub mod Chosen
pub mod Imaged
pub mod Writing

pub mod Faults
pub mod Preparing
pub mod Begun
pub mod Facts
pub mod Summing

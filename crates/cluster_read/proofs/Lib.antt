pub mod Deciding
pub mod Readings

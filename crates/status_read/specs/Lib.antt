pub mod Segments
pub mod Logs

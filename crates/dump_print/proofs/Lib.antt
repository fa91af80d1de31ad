pub mod Bytes
pub mod Appends
pub mod Lines

pub mod ControlRecord
pub mod Crc
pub mod Version

pub mod Carriable
pub mod Changed

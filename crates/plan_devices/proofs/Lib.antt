pub mod Keeping
pub mod Nearest
pub mod Planned

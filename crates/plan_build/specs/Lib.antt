pub mod Planned
pub mod Plannable
pub mod Carrying

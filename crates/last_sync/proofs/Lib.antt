pub mod Crashing
pub mod Marking
pub mod Syncing

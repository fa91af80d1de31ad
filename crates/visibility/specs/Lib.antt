pub mod Taken
pub mod Snapshot
pub mod Visible

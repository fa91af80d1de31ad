pub mod Making
pub mod Runs
pub mod Looking
pub mod Rooms

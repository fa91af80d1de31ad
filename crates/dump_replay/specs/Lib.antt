pub mod Replay
pub mod Law

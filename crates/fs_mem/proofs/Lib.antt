pub mod Replay
pub mod Causes
pub mod Opens
pub mod Faults
pub mod Putting
pub mod Told

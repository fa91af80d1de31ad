pub mod Carrying
pub mod Counting
pub mod Framing
pub mod Sharing
pub mod Staying
pub mod StatusDirs

pub mod Controls
pub mod Passing

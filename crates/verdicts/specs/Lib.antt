pub mod Verdicts
pub mod Crashed

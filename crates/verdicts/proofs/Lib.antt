pub mod Judged
pub mod Crashing
pub mod NamedBack
pub mod Single

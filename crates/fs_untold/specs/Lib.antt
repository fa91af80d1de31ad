pub mod Losing
pub mod Code

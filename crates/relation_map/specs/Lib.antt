pub mod Places
pub mod Named
pub mod Directories
pub mod Pairs
pub mod Equal

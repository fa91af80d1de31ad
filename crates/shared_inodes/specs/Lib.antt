pub mod Regions
pub mod SharedInodes
pub mod Counted

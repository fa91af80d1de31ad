pub mod Carried
pub mod Counted
pub mod Status

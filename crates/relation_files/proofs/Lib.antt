pub mod Carried
pub mod FileNames

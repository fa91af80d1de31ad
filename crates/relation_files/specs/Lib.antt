pub mod Places
pub mod Carried
pub mod Relations
pub mod Sites

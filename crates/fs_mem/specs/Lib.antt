pub mod Tree
pub mod History
pub mod Records
pub mod Code
pub mod Output
pub mod Laws

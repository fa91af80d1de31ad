pub mod Errors
pub mod Kinds
pub mod OpenFiles
pub mod Counted
pub mod Untold
pub mod Identities

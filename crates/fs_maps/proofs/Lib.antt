pub mod Entries
pub mod Subtrees

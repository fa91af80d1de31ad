pub mod Packed
pub mod Pieces
pub mod Spelling
pub mod Canonical

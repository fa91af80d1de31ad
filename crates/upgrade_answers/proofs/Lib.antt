pub mod NamedNext
pub mod Pieces

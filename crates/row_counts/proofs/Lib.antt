pub mod Adding
pub mod TableRows

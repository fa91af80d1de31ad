pub mod PathTexts
pub mod Tokens
pub mod Statements
pub mod Lines

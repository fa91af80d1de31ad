pub mod Entries
pub mod Noted
pub mod FileLemmas
pub mod OrderLemmas

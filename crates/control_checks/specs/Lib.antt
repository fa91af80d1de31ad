pub mod Answers
pub mod Causes
pub mod Findings
pub mod Places
pub mod Records

pub mod Findings
pub mod Passing
pub mod Parts
pub mod Answers

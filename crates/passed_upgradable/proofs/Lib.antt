pub mod Valid
pub mod Free
pub mod Records
pub mod Passed
pub mod PlannedFiles

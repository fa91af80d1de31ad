pub mod Findings
pub mod Looks
pub mod MissingDirs
pub mod NewDirs
pub mod Prepared
pub mod Shared

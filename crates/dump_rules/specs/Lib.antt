pub mod Rules
pub mod Causes
pub mod Made
pub mod Kept

pub mod Words
pub mod Listed
pub mod Stores
pub mod Targets
pub mod Steps
pub mod Unlisted
pub mod Chain
mod Status
mod Control
mod Files
mod Others
mod Meaning
mod Sharing
mod Reading
pub mod Points
pub mod Marking

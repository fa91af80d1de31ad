pub mod Fills
pub mod Given
pub mod Listed
pub mod Shown

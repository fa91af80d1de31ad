pub mod Freeing
pub mod Keeping
pub mod Listing
pub mod Staying

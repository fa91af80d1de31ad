pub mod Plan
pub mod Listing
pub mod Counted

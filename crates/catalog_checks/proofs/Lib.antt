pub mod Searching
pub mod Counting
pub mod Placing
pub mod Validity
pub mod Fresh
pub mod Finding

pub mod Covering
pub mod Linking
pub mod Looked
pub mod Named
pub mod Counting
pub mod Both

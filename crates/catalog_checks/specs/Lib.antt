pub mod Clusters
pub mod Columns
pub mod First
pub mod Limits
pub mod Starting

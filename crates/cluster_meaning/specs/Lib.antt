pub mod Blocks
pub mod Status
pub mod Cluster
pub mod Chunks
pub mod Values
pub mod Meaning
pub mod SameParts
pub mod Carries

pub mod Clusters
pub mod Tablespaces
pub mod RelationFiles
pub mod Devices
pub mod Kept

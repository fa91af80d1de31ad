pub mod Numbers
pub mod Page
pub mod Control
pub mod Catalogs
pub mod Parts
pub mod Tree

pub mod LinkedFiles

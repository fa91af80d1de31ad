pub mod Faults
pub mod Lacking
pub mod Selftests
pub mod Starts
pub mod Taking

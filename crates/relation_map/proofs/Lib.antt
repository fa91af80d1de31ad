pub mod Lists
pub mod Looking
pub mod Least
pub mod Knowing
pub mod Ordered
pub mod Alike

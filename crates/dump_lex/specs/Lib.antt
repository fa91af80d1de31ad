pub mod Bytes
pub mod Enclosed
pub mod Value
pub mod Front
pub mod Place
pub mod Grammar
pub mod Reading
pub mod Written

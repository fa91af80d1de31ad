pub mod Answer
pub mod Takes
pub mod Form
pub mod Reading
pub mod Ahead
pub mod Placed
pub mod Laws

pub mod Excluding
pub mod Owning
pub mod Firsts
pub mod Fresh
pub mod Testing
pub mod Serving
pub mod ControlTests
pub mod Judging

pub mod Parts
pub mod Files
pub mod Place
pub mod Status
pub mod Window
pub mod Known

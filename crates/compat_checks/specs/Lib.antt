pub mod Controls
pub mod First
pub mod Order

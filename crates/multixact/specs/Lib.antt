pub mod Numbers
pub mod Place
pub mod Member
pub mod Window
pub mod Offset
pub mod Members
pub mod Update
pub mod First

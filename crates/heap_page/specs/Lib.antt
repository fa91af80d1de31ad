pub mod Numbers
pub mod Line
pub mod Page
pub mod Item
pub mod Map
pub mod Cursor

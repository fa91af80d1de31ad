pub mod Numbers
pub mod Header
pub mod Field
pub mod Column
pub mod Stored
pub mod Cursor
pub mod Extent
pub mod Written

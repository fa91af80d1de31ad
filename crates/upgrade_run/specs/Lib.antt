pub mod Answers
pub mod Causes
pub mod Means
pub mod Ends
pub mod SelfTests
pub mod Made

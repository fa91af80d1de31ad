pub mod NumberLemmas
pub mod PlaceLemmas
pub mod ExtentLemmas
pub mod WrittenLemmas

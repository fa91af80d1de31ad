pub mod Search
pub mod FirstLemmas

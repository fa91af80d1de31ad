pub mod NumberLemmas
pub mod RangeLemmas
pub mod PageLemmas
pub mod WalkLemmas
pub mod MapLemmas
pub mod RuleLemmas
pub mod ItemLemmas

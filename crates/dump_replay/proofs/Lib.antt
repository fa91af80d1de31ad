pub mod ReadingLemmas
pub mod SequenceLemmas
pub mod ReplayLemmas
pub mod LoadLemmas

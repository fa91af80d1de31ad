pub mod FindsLemmas
pub mod KeyLemmas

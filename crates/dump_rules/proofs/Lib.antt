pub mod ColumnLemmas
pub mod KeptColumns

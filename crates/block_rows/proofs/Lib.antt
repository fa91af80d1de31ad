pub mod FieldSteps
pub mod Adding

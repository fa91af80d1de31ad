pub mod Firsts
pub mod Leasts
pub mod Looking
pub mod UsedNames

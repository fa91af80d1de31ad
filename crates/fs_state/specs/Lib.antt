pub mod Settled
pub mod Wants
pub mod Actions
pub mod Images
pub mod Laws

pub mod Places
pub mod CanUpgrade
pub mod Held
pub mod Plans
pub mod Finishing
pub mod Disabling

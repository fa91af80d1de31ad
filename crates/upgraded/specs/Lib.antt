pub mod Places
pub mod CarriedFiles
pub mod Upgraded
pub mod Upgradable
pub mod Upgrades

pub mod Standing
pub mod Disabling
pub mod Stopped
pub mod Located
pub mod Beginning
pub mod Finding
pub mod OwnFiles
pub mod Devices

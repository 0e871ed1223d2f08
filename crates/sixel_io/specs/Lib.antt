pub mod Devices
pub mod Blocks
pub mod SliceDevices

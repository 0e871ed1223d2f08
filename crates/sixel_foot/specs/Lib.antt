pub mod Foot
pub mod FootSeen
pub mod Settings

pub mod Readings
pub mod Places
pub mod Words
pub mod Courses
pub mod Modelled
pub mod Settings
pub mod Heard
pub mod Looking

pub mod Screens
pub mod Notes
pub mod Outputs
pub mod Watching
pub mod Boxes
pub mod NamedScreens

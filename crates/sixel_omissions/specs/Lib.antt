pub mod Omissions
pub mod Rasters
pub mod Seen

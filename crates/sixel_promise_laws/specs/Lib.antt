pub mod Portable
pub mod Broken
pub mod Twice

pub mod Differences
pub mod Examples

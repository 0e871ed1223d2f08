pub mod Peeked
pub mod Exits
pub mod Openings
pub mod Counts
pub mod Shown
pub mod Files
pub mod Streams

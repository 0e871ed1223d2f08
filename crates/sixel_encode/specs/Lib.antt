pub mod Canon
pub mod Columns
pub mod Gaps
pub mod Heads

pub mod Pixels
pub mod Views
pub mod Drawings
pub mod Comparisons
pub mod Faults

pub mod Rows
pub mod Fits
pub mod Fitted

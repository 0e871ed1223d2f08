pub mod Sheets
pub mod Outputs

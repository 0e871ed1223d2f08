pub mod Scanned
pub mod Outputs
pub mod LineTasks

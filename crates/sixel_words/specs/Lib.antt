pub mod Arguments
pub mod Words
pub mod Telling

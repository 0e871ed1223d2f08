pub mod SixelTexts
pub mod SixelLines
pub mod Outputs
pub mod Listings

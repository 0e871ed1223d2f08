pub mod ListingLemmas
pub mod OutputLemmas
pub mod SixelLineLemmas

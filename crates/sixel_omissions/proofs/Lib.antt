pub mod BareLemmas
pub mod FirstBareLemmas
pub mod OpenEndedLemmas
pub mod RasterLemmas
pub mod RasterPieceLemmas
mod NotingLemmas

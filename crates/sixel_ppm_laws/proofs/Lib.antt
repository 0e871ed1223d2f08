pub mod PixelLemmas
pub mod PpmFileLemmas
pub mod PpmPartLemmas
pub mod PpmFoundLemmas
mod WorkedPpms

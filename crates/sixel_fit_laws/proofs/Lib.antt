pub mod TightLemmas
pub mod FittedLemmas
pub mod SuitsLemmas
pub mod PortableLemmas
pub mod UnfitLemmas

pub mod RangeLemmas
pub mod TouchedLemmas
pub mod MendedLemmas
pub mod StaysLemmas
pub mod OrderLemmas

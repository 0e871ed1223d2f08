pub mod NameLemmas
pub mod LineLemmas
pub mod NearLemmas
pub mod SummaryLemmas

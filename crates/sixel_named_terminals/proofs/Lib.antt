pub mod NamedLemmas
pub mod ShowingLemmas
pub mod AtOnceLemmas

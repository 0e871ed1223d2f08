pub mod RightLemmas
pub mod ShownLemmas
pub mod SameLemmas
pub mod TrailerLemmas

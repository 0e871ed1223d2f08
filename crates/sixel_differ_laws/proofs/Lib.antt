pub mod GroupLemmas
pub mod OnceLemmas
pub mod SomeLemmas
pub mod AnswerLemmas

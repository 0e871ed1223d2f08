pub mod DigitLemmas
pub mod CaseLemmas
pub mod PastedLemmas
pub mod EntryLemmas
pub mod StringLineLemmas

pub mod PutsLemmas
pub mod JsonLemmas
pub mod MemberLemmas
pub mod CauseLemmas
pub mod ReportLemmas

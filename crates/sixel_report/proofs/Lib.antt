pub mod OutputLemmas
pub mod FormatLemmas
pub mod PutLemmas
pub mod ItemLemmas
pub mod RuleSetLemmas
pub mod FirstAskedLemmas

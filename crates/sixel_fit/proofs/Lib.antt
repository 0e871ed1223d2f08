pub mod RowsLemmas
pub mod FaultLemmas
pub mod FittedLemmas

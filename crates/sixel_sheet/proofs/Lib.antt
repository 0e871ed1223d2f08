pub mod ComparingLemmas
pub mod DifferLemmas
pub mod SheetLemmas
pub mod ViewedLemmas

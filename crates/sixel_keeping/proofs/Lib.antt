pub mod KeepingLemmas

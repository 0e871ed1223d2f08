pub mod ScreenLemmas
pub mod DrawLemmas
pub mod WatchLemmas
pub mod StageLemmas
pub mod BoxLemmas
pub mod ShowOnLemmas
pub mod ShowFirstLemmas
pub mod OnKonsoleLemmas

pub mod FollowedLemmas
pub mod KonsoleLemmas
pub mod KonsoleMeasureLemmas
pub mod KonsoleReadLemmas
pub mod SettingLemmas
